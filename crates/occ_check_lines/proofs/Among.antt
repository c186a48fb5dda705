-- Whether a number stands in a list.
use Rattle.std.proofs.Common.{◌≡◌, ℕ, ℤ, List, [], ◌∷◌, ◌++◌, reverse, Bool, true, false, cond, refl, sym, ap, ◌∙◌}
use Rattle.std.specs.List.{list_any}
use Rattle.std.specs.Prelude.{nat_eq, not, ◌||◌}
use Rattle.std.specs.Ordering.{int_eq}
use Rattle.std.proofs.lemmas.Grind.{reverse_onto}
use Rattle.std.proofs.lemmas.List.{reverse-append}
use Rattle.occ_check_meaning.specs.Actions.{has_constant, has_number}

pub among : {A : Type 0} → (A → Bool) → List A → Bool
among test [] = false
among test (a ∷ rest) = cond (test a) true (among test rest)

number_among : (k : ℕ) (ms : List ℕ) → has_number k ms ≡ among (nat_eq k) ms
unfolding among
number_among k [] = refl
number_among k (m ∷ ms) = ap (cond (nat_eq k m) true) (number_among k ms)

constant_among : (v : ℤ) (ws : List ℤ) → has_constant v ws ≡ among (int_eq v) ws
unfolding among
constant_among v [] = refl
constant_among v (w ∷ ws) = ap (cond (int_eq v w) true) (constant_among v ws)

-- ---- constants, the last of which stands first

swap : (a b c : Bool) → cond a true (cond b true c) ≡ cond b true (cond a true c)
swap true true c = refl
swap true false c = refl
swap false true c = refl
swap false false c = refl

at_end : {A : Type 0} (test : A → Bool) (xs : List A) (y : A) → among test (xs ++ y ∷ []) ≡ cond (test y) true (among test xs)
unfolding among
at_end test [] y = refl
at_end test (x ∷ xs) y = ap (cond (test x) true) (at_end test xs y) ∙ swap (test x) (test y) (among test xs)

among_reverse : {A : Type 0} (test : A → Bool) (xs : List A) → among test (reverse xs) ≡ among test xs
unfolding among
among_reverse test [] = refl
among_reverse test (x ∷ xs) = ap (among test) (reverse_onto xs x []) ∙ at_end test (reverse xs) x ∙ ap (cond (test x) true) (among_reverse test xs)

any_among : {A : Type 0} (test : A → Bool) (xs : List A) → list_any test xs ≡ among test xs
unfolding among
any_among test [] = refl
any_among test (x ∷ xs) = by (test x) ∙ ap (cond (test x) true) (any_among test xs)
  where
    by : (b : Bool) → (b || list_any test xs) ≡ cond b true (list_any test xs)
    by true = refl
    by false = refl

twice_not : (b : Bool) → b ≡ not (not b)
twice_not true = refl
twice_not false = refl

any_constant : (v : ℤ) (ws : List ℤ) → list_any (λ y. int_eq v y) ws ≡ has_constant v (reverse ws)
any_constant v ws = any_among (int_eq v) ws ∙ sym (among_reverse (int_eq v) ws) ∙ sym (constant_among v (reverse ws))

-- what a set of constants tells of one that is put in, and what it has then
pub constant_told : (v u : ℤ) (ws : List ℤ) (added : Bool) → u ≡ v → added ≡ not (list_any (λ y. int_eq u y) ws) → has_constant v (reverse ws) ≡ not added
constant_told v u ws added same e =
    ap (λ w. has_constant w (reverse ws)) (sym same) ∙ sym (any_constant u ws) ∙ twice_not (list_any (λ y. int_eq u y) ws) ∙ ap not (sym e)

pub constants_more : (v u : ℤ) (ws now : List ℤ) → u ≡ v → has_constant v (reverse ws) ≡ false → now ≡ cond (list_any (λ y. int_eq u y) ws) ws (ws ++ u ∷ []) → reverse now ≡ v ∷ reverse ws
constants_more v u ws now same lacks is =
    let none : list_any (λ y. int_eq u y) ws ≡ false = any_constant u ws ∙ ap (λ w. has_constant w (reverse ws)) same ∙ lacks in
    ap reverse (is ∙ ap (λ b. cond b ws (ws ++ u ∷ [])) none) ∙ reverse-append ws (u ∷ []) ∙ ap (λ w. w ∷ reverse ws) same

-- ---- numbers, the last of which stands first

any_number : (k : ℕ) (ks : List ℕ) → list_any (λ n. nat_eq k n) ks ≡ has_number k (reverse ks)
any_number k ks = any_among (nat_eq k) ks ∙ sym (among_reverse (nat_eq k) ks) ∙ sym (number_among k (reverse ks))

-- what a set of numbers tells of one that is put in, and what it has then
pub number_told : (k : ℕ) (ks : List ℕ) (added : Bool) → added ≡ not (list_any (λ n. nat_eq k n) ks) → has_number k (reverse ks) ≡ not added
number_told k ks added e = sym (any_number k ks) ∙ twice_not (list_any (λ n. nat_eq k n) ks) ∙ ap not (sym e)
