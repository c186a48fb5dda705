-- How many of some processes are not done.
use Rattle.std.proofs.Common.{◌≡◌, ◌∙◌, refl, sym, ap, Bool, true, false, IsTrue, ℕ, ◌+◌, ◌⊎◌, inl, inr, List, [], ◌∷◌, length, arith}
use Rattle.std.specs.Prelude.{if◌then◌else◌, nat_eq}
use mathlib.Core.Bool.{true≢false}
use Rattle.std.proofs.lemmas.Bool.{eqb-true}
use Rattle.occ_term.specs.Frames.{is_held}
use Rattle.occ_machine.specs.SameStop.{IsRising}
use Rattle.occ_net_replay.specs.Replay.{Tasks, AreDone}
use Rattle.occ_net_replay.proofs.Tables.{or_else}
use Rattle.occ_net_tables.specs.Holding.{is_over, undone}
use Rattle.occ_net_tables.proofs.OneChange.{either_way}
use Rattle.occ_net_tables.proofs.Keys.{first_held, later_held, not_again, rising_rest}

abbrev weight : Bool → ℕ
weight b = if b then 0 else 1

-- of lists of processes that are done alike
pub undone_same : (a b : Tasks) (ns : List ℕ) → ((i : ℕ) → IsTrue (is_held ns i) → is_over a i ≡ is_over b i) → undone a ns ≡ undone b ns
undone_same a b [] h = refl
undone_same a b (n ∷ ns) h =
    ap (λ x. (if x then 0 else 1) + undone a ns) (h n (first_held n ns)) ∙ ap (λ k. (if is_over b n then 0 else 1) + k) (undone_same a b ns (λ i m. h i (later_held n i ns m)))

pub undone_zero : (a : Tasks) (ns : List ℕ) → undone a ns ≡ 0 → AreDone a ns
undone_zero a [] e = tt
undone_zero a (n ∷ ns) e = by (either_way (is_over a n)) (undone_zero a ns)
  where
    by : (is_over a n ≡ true) ⊎ (is_over a n ≡ false) → (undone a ns ≡ 0 → AreDone a ns) → AreDone a (n ∷ ns)
    by (inl q) r = (q, r (let one : weight (is_over a n) ≡ 0 = ap weight q in omega (arith, one, e)))
    by (inr q) r = absurd (let one : weight (is_over a n) ≡ 1 = ap weight q in omega (arith, one, e))

pub done_zero : (a : Tasks) (ns : List ℕ) → AreDone a ns → undone a ns ≡ 0
done_zero a [] h = refl
done_zero a (n ∷ ns) h = let one : weight (is_over a n) ≡ 0 = ap weight h.0 in let rest = done_zero a ns h.1 in omega (arith, one, rest)

-- one more is done
pub one_less : (a b : Tasks) (n : ℕ) (ns : List ℕ) → IsRising ns → IsTrue (is_held ns n) → is_over a n ≡ false → is_over b n ≡ true → ((i : ℕ) → (i ≡ n → ⊥) → is_over a i ≡ is_over b i) → undone a ns ≡ undone b ns + 1
one_less a b n [] r h f g o = absurd (true≢false (sym h))
one_less a b n (x ∷ ns) r h f g o = by (or_else (nat_eq x n) (is_held ns n) h) (λ q. one_less a b n ns (rising_rest x ns r) q f g o)
  where
    at : (x ≡ n) → undone a (x ∷ ns) ≡ undone b (x ∷ ns) + 1
    at e =
        let gone : is_held ns n ≡ false = ap (is_held ns) (sym e) ∙ not_again x ns r in
        let rest : undone a ns ≡ undone b ns = undone_same a b ns (λ i m. o i (λ q. true≢false (sym m ∙ ap (is_held ns) q ∙ gone))) in
        let one : weight (is_over a x) ≡ 1 = ap weight (ap (is_over a) e ∙ f) in
        let none : weight (is_over b x) ≡ 0 = ap weight (ap (is_over b) e ∙ g) in
        omega (arith, one, none, rest)

    later : IsTrue (is_held ns n) → undone a ns ≡ undone b ns + 1 → undone a (x ∷ ns) ≡ undone b (x ∷ ns) + 1
    later m q =
        let apart : x ≡ n → ⊥ = (λ e. true≢false (sym m ∙ ap (is_held ns) (sym e) ∙ not_again x ns r)) in
        let same : weight (is_over a x) ≡ weight (is_over b x) = ap weight (o x apart) in
        omega (arith, same, q)

    by : IsTrue (nat_eq x n) ⊎ IsTrue (is_held ns n) → (IsTrue (is_held ns n) → undone a ns ≡ undone b ns + 1) → undone a (x ∷ ns) ≡ undone b (x ∷ ns) + 1
    by (inl e) k = at (eqb-true x n e)
    by (inr e) k = later e (k e)

-- none is
pub all_undone : (a : Tasks) (ns : List ℕ) → ((i : ℕ) → IsTrue (is_held ns i) → is_over a i ≡ false) → undone a ns ≡ length ns
all_undone a [] h = refl
all_undone a (n ∷ ns) h =
    let one : weight (is_over a n) ≡ 1 = ap weight (h n (first_held n ns)) in
    let rest = all_undone a ns (λ i m. h i (later_held n i ns m)) in
    omega (arith, one, rest)
