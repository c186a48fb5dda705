-- Tables that are set at many keys, and members of lists.
use Rattle.std.proofs.Common.{◌≡◌, ◌∙◌, refl, sym, ap, Bool, true, false, IsTrue, ℕ, ◌<◌, ◌⊎◌, inl, inr, List, [], ◌∷◌, Option, Some, None, length, arith}
use Rattle.std.specs.Prelude.{slice_get, slice_set, nat_eq, ◌||◌}
use Rattle.std.proofs.lemmas.Bool.{eqb-true, eq-eqb}
use Rattle.std.proofs.lemmas.Option.{slice_get_within}
use mathlib.Core.Bool.{true≢false}
use Rattle.occ_term.specs.Frames.{is_held}
use Rattle.occ_machine.specs.SameStop.{AreAbove, IsRising}
use Rattle.occ_net_replay.proofs.Tables.{set_other, or_else, or_first, or_second}
use Rattle.occ_net_tables.specs.Keys.{set_all}
use Rattle.occ_net_tables.proofs.OneChange.{either_way, set_length, set_within}

pub first_held : (n : ℕ) (ns : List ℕ) → IsTrue (is_held (n ∷ ns) n)
first_held n ns = or_first (nat_eq n n) (is_held ns n) (eq-eqb n n refl)

pub later_held : (n i : ℕ) (ns : List ℕ) → IsTrue (is_held ns i) → IsTrue (is_held (n ∷ ns) i)
later_held n i ns h = or_second (nat_eq n i) (is_held ns i) h

pub not_first : (n i : ℕ) (ns : List ℕ) → is_held (n ∷ ns) i ≡ false → (n ≡ i → ⊥) × (is_held ns i ≡ false)
not_first n i ns h = by (nat_eq n i) refl h
  where
    by : (b : Bool) → nat_eq n i ≡ b → (b || is_held ns i) ≡ false → (n ≡ i → ⊥) × (is_held ns i ≡ false)
    by true e q = absurd (true≢false q)
    by false e q = (λ s. true≢false (sym (eq-eqb n i s) ∙ e), q)

pub not_above : (n : ℕ) (ns : List ℕ) (i : ℕ) → AreAbove n ns → IsTrue (is_held ns i) → n < i
not_above n [] i a h = absurd (true≢false (sym h))
not_above n (x ∷ ns) i a h = by (or_else (nat_eq x i) (is_held ns i) h) (not_above x ns i a.1)
  where
    by : IsTrue (nat_eq x i) ⊎ IsTrue (is_held ns i) → (IsTrue (is_held ns i) → x < i) → n < i
    by (inl e) r = let same : x ≡ i = eqb-true x i e in let b = a.0 in omega (arith, same, b)
    by (inr e) r = let b = r e in let l = a.0 in omega (arith, b, l)

pub rising_rest : (n : ℕ) (ns : List ℕ) → AreAbove n ns → IsRising ns
rising_rest n [] h = tt
rising_rest n (x ∷ ns) h = h.1

pub not_again : (n : ℕ) (ns : List ℕ) → AreAbove n ns → is_held ns n ≡ false
not_again n ns a = by (either_way (is_held ns n))
  where
    by : (is_held ns n ≡ true) ⊎ (is_held ns n ≡ false) → is_held ns n ≡ false
    by (inl e) = absurd (let l = not_above n ns n a e in omega (arith, l))
    by (inr e) = e

-- ---- many keys

pub all_length : (ns : List ℕ) (v : Option ℕ) (table : List (Option ℕ)) → length (set_all ns v table) ≡ length table
all_length [] v table = refl
all_length (n ∷ ns) v table = all_length ns v (slice_set table n v) ∙ set_length table n v

pub all_other : (ns : List ℕ) (v : Option ℕ) (table : List (Option ℕ)) (c : ℕ) → is_held ns c ≡ false → slice_get (set_all ns v table) c ≡ slice_get table c
all_other [] v table c h = refl
all_other (n ∷ ns) v table c h = let x = not_first n c ns h in all_other ns v (slice_set table n v) c x.1 ∙ set_other table n c v (λ e. x.0 (sym e))

pub all_here : (ns : List ℕ) (v : Option ℕ) (table : List (Option ℕ)) (c : ℕ) → IsTrue (is_held ns c) → c < length table → slice_get (set_all ns v table) c ≡ Some v
all_here [] v table c h l = absurd (true≢false (sym h))
all_here (n ∷ ns) v table c h l = by (either_way (is_held ns c)) (all_here ns v (slice_set table n v) c)
  where
    long : length (slice_set table n v) ≡ length table
    long = set_length table n v

    by : (is_held ns c ≡ true) ⊎ (is_held ns c ≡ false) → (IsTrue (is_held ns c) → c < length (slice_set table n v) → slice_get (set_all ns v (slice_set table n v)) c ≡ Some v) → slice_get (set_all ns v (slice_set table n v)) c ≡ Some v
    by (inl e) r = r e (omega (arith, long, l))
    by (inr e) r = all_other ns v (slice_set table n v) c e ∙ at (or_else (nat_eq n c) (is_held ns c) h)
      where
        at : IsTrue (nat_eq n c) ⊎ IsTrue (is_held ns c) → slice_get (slice_set table n v) c ≡ Some v
        at (inl q) = ap (slice_get (slice_set table n v)) (sym (eqb-true n c q)) ∙ set_within table n v (let same : n ≡ c = eqb-true n c q in omega (arith, same, l))
        at (inr q) = absurd (true≢false (sym q ∙ e))

pub all_gone : (ns : List ℕ) (table : List (Option ℕ)) (c j : ℕ) → IsTrue (is_held ns c) → slice_get (set_all ns None table) c ≡ Some (Some j) → ⊥
all_gone ns table c j h e =
    let l = slice_get_within (set_all ns None table) c (Some j) e in
    let long = all_length ns None table in
    let q = sym (all_here ns None table c h (omega (arith, l, long))) ∙ e in
    cc
