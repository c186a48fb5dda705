-- Sets of uses joined: in any order, and in any grouping.
use Rattle.std.proofs.Common.{◌≡◌, ℕ, zero, suc, ◌+◌, ◌<◌, ◌≤◌, List, [], ◌∷◌, ◌++◌, drop, get_or, length, Bool, true, false, refl, sym, ap, ◌∙◌, arith}
use Rattle.std.specs.Prelude.{◌||◌}
use Rattle.occ_term.specs.Values.{span}
use Rattle.std.proofs.Math.Seq.{drop-cons}
use mathlib.Core.Path.{fun_ext}
use Rattle.occ_term.specs.Uses.{Uses, numbers_in, only, no_use, with_use}
use Rattle.occ_usage.specs.Noted.{Adds, use_of, between, uses_in}
use Rattle.occ_usage.specs.declared.noted.Use.{Use}

pub or_assoc : (a b c : Bool) → ((a || b) || c) ≡ (a || (b || c))
or_assoc true b c = refl
or_assoc false b c = refl

pub or_comm : (a b : Bool) → (a || b) ≡ (b || a)
or_comm true true = refl
or_comm true false = refl
or_comm false true = refl
or_comm false false = refl

pub or_none : (a : Bool) → (a || false) ≡ a
or_none true = refl
or_none false = refl

uses_path : (a b : Uses) → a.reads ≡ b.reads → a.writes ≡ b.writes → a.ins ≡ b.ins → a.outs ≡ b.outs → a ≡ b
uses_path a b p q r s = λ i. record { reads = p i; writes = q i; ins = r i; outs = s i }

pub use_assoc : (a b c : Uses) → with_use (with_use a b) c ≡ with_use a (with_use b c)
use_assoc a b c =
    uses_path _ _ (fun_ext (λ n. or_assoc (a.reads n) (b.reads n) (c.reads n))) (fun_ext (λ n. or_assoc (a.writes n) (b.writes n) (c.writes n)))
    (fun_ext (λ n. or_assoc (a.ins n) (b.ins n) (c.ins n))) (fun_ext (λ n. or_assoc (a.outs n) (b.outs n) (c.outs n)))

pub use_comm : (a b : Uses) → with_use a b ≡ with_use b a
use_comm a b =
    uses_path _ _ (fun_ext (λ n. or_comm (a.reads n) (b.reads n))) (fun_ext (λ n. or_comm (a.writes n) (b.writes n)))
    (fun_ext (λ n. or_comm (a.ins n) (b.ins n))) (fun_ext (λ n. or_comm (a.outs n) (b.outs n)))

pub use_none : (a : Uses) → with_use a no_use ≡ a
use_none a =
    uses_path _ _ (fun_ext (λ n. or_none (a.reads n))) (fun_ext (λ n. or_none (a.writes n))) (fun_ext (λ n. or_none (a.ins n))) (fun_ext (λ n. or_none (a.outs n)))

-- ---- one after the other

pub adds_none : (us : List Use) → Adds us no_use us
adds_none us = record { is = sym (use_none (uses_in us)) }

pub adds_then : {a b c : List Use} {u v : Uses} → Adds a u b → Adds b v c → Adds a (with_use u v) c
adds_then {a} {b} {c} {u} {v} p q = record { is = q.is ∙ ap (λ w. with_use w v) p.is ∙ use_assoc (uses_in a) u v }

pub adds_as : {a b : List Use} {u v : Uses} → Adds a u b → u ≡ v → Adds a v b
adds_as {a} p e = record { is = p.is ∙ ap (λ w. with_use (uses_in a) w) e }

-- told in the other order
pub adds_before : {a b c : List Use} {u v : Uses} → Adds a u b → Adds b v c → Adds a (with_use v u) c
adds_before {a} {b} {c} {u} {v} p q = record { is = (adds_then p q).is ∙ ap (λ w. with_use (uses_in a) w) (use_comm u v) }

-- ---- the uses of a list, part by part: what is noted, and the rest of the list

pub record Left {X : Type 0} (U : List X → Uses) (xs : List X) (i : ℕ) (before now : List Use) : Type 0 where
  pub is : with_use (uses_in now) (U (drop i xs)) ≡ with_use (uses_in before) (U xs)

pub left_next : {X : Type 0} (U : List X → Uses) (one : X → Uses) (cons : (x : X) (xs : List X) → U (x ∷ xs) ≡ with_use (one x) (U xs)) →
    (xs : List X) (i : ℕ) (x : X) (before now later : List Use) → i < length xs → x ≡ get_or xs i x → Left U xs i before now → Adds now (one x) later
    → Left U xs (i + 1) before later
left_next U one cons xs i x before now later lt is left adds =
    let next : i + 1 ≡ suc i = omega arith in
    let tail : U (drop i xs) ≡ with_use (one x) (U (drop (i + 1) xs)) =
    ap U (drop-cons xs i x lt) ∙ cons _ _ ∙ ap (λ y. with_use (one y) (U (drop (suc i) xs))) (sym is) ∙ ap (λ n. with_use (one x) (U (drop n xs))) (sym next) in
    record {
      is =
          ap (λ u. with_use u (U (drop (i + 1) xs))) adds.is ∙ use_assoc (uses_in now) (one x) (U (drop (i + 1) xs)) ∙ ap (λ u. with_use (uses_in now) u) (sym tail) ∙ left.is;
    }

drop_all : {X : Type 0} (xs : List X) (i : ℕ) → length xs ≤ i → drop i xs ≡ []
drop_all [] zero h = refl
drop_all [] (suc i) h = refl
drop_all (x ∷ xs) zero h = absurd (omega arith)
drop_all (x ∷ xs) (suc i) h = drop_all xs i (omega arith)

pub left_none : {X : Type 0} (U : List X → Uses) (none : U [] ≡ no_use) (xs : List X) (i : ℕ) (before now : List Use) → length xs ≤ i → Left U xs i before now → Adds before (U xs) now
left_none U none xs i before now h left =
    record { is = sym (use_none (uses_in now)) ∙ ap (λ u. with_use (uses_in now) u) (sym (ap U (drop_all xs i h) ∙ none)) ∙ left.is }

-- ---- a list of noted uses

pub uses_in-append : (us vs : List Use) → uses_in (us ++ vs) ≡ with_use (uses_in us) (uses_in vs)
uses_in-append [] vs = refl
uses_in-append (u ∷ us) vs = ap (λ w. with_use (use_of u.kind (between u.first u.end)) w) (uses_in-append us vs) ∙ sym (use_assoc (use_of u.kind (between u.first u.end)) (uses_in us) (uses_in vs))

pub uses_in-push : (us : List Use) (u : Use) → uses_in (us ++ u ∷ []) ≡ with_use (uses_in us) (use_of u.kind (between u.first u.end))
uses_in-push us u = uses_in-append us (u ∷ []) ∙ ap (λ w. with_use (uses_in us) w) (use_none (use_of u.kind (between u.first u.end)))

pub adds_one : {us vs : List Use} (u : Use) → vs ≡ us ++ u ∷ [] → Adds us (use_of u.kind (between u.first u.end)) vs
adds_one {us} u e = record { is = ap uses_in e ∙ uses_in-push us u }

-- ---- one number

pub only_between : (x : ℕ) → only x ≡ numbers_in (span x 1)
only_between x = fun_ext (λ c. grind arith)

-- ---- an item, whatever stands for one that isn't there

pub item_at : {X : Type 0} (xs : List X) (i : ℕ) (d e : X) → i < length xs → get_or xs i d ≡ get_or xs i e
item_at [] i d e h = absurd (omega arith)
item_at (x ∷ xs) zero d e h = refl
item_at (x ∷ xs) (suc i) d e h = item_at xs i d e (omega arith)
