-- Whether two of a list go together does not depend on its order, where it is the same for both.
use Rattle.std.proofs.Common.{◌≡◌, ◌∙◌, sym, ap, refl, ℕ, ◌+◌, List, [], ◌∷◌, Bool, true, false, cond, arith}
use Rattle.std.specs.Prelude.{nat_lt, ◌||◌}
use Rattle.std.specs.List.{sum_by}
use Rattle.std.specs.List.Sorted.{IsPermutation}
use Rattle.std.proofs.lemmas.Bool.Decides.{nat_tests}
use Rattle.std.proofs.lemmas.List.Sums.{sum_by-cons}
use Rattle.std.proofs.lemmas.List.Sorted.{sum_by-IsPermutation}

abbrev pub some_with : {X : Type 0} → (X → X → Bool) → X → List X → Bool
some_with R a [] = false
some_with R a (b ∷ bs) = R a b || some_with R a bs

abbrev pub some_pair : {X : Type 0} → (X → X → Bool) → List X → Bool
some_pair R [] = false
some_pair R (a ∷ rest) = some_with R a rest || some_pair R rest

-- ---- how many go together

abbrev bit : Bool → ℕ
bit b = cond b 1 0

abbrev partners : {X : Type 0} → (X → X → Bool) → X → List X → ℕ
partners R a xs = sum_by (λ b. bit (R a b)) xs

abbrev matches : {X : Type 0} → (X → X → Bool) → List X → List X → ℕ
matches R xs ys = sum_by (λ a. partners R a ys) xs

abbrev alone : {X : Type 0} → (X → X → Bool) → List X → ℕ
alone R xs = sum_by (λ a. bit (R a a)) xs

abbrev pairs : {X : Type 0} → (X → X → Bool) → List X → ℕ
pairs R [] = 0
pairs R (a ∷ rest) = partners R a rest + pairs R rest

sum_both : {X : Type 0} (f g : X → ℕ) (xs : List X) → sum_by (λ x. f x + g x) xs ≡ sum_by f xs + sum_by g xs
sum_both f g [] = refl
sum_both f g (x ∷ xs) =
    let all : sum_by (λ x. f x + g x) (x ∷ xs) ≡ (f x + g x) + sum_by (λ x. f x + g x) xs = sum_by-cons (λ x. f x + g x) x xs in
    let left = sum_by-cons f x xs in
    let right = sum_by-cons g x xs in
    let later = sum_both f g xs in
    omega (arith, all, left, right, later)

square : {X : Type 0} (R : X → X → Bool) → ((a b : X) → R a b ≡ R b a) → (xs : List X) → matches R xs xs ≡ alone R xs + (pairs R xs + pairs R xs)
square R both [] = refl
square R both (x ∷ xs) =
    let outer : matches R (x ∷ xs) (x ∷ xs) ≡ partners R x (x ∷ xs) + sum_by (λ a. partners R a (x ∷ xs)) xs = sum_by-cons (λ a. partners R a (x ∷ xs)) x xs in
    let head : partners R x (x ∷ xs) ≡ bit (R x x) + partners R x xs = sum_by-cons (λ b. bit (R x b)) x xs in
    let each : sum_by (λ a. partners R a (x ∷ xs)) xs ≡ sum_by (λ a. bit (R a x) + partners R a xs) xs = λ i. sum_by (λ a. sum_by-cons (λ b. bit (R a b)) x xs i) xs in
    let parts : sum_by (λ a. bit (R a x) + partners R a xs) xs ≡ sum_by (λ a. bit (R a x)) xs + matches R xs xs = sum_both (λ a. bit (R a x)) (λ a. partners R a xs) xs in
    let turned : sum_by (λ a. bit (R a x)) xs ≡ partners R x xs = λ i. sum_by (λ a. bit (both a x i)) xs in
    let own : alone R (x ∷ xs) ≡ bit (R x x) + alone R xs = sum_by-cons (λ a. bit (R a a)) x xs in
    let later = square R both xs in
    omega (arith, outer, head, each, parts, turned, own, later)

same_pairs : {X : Type 0} (R : X → X → Bool) → ((a b : X) → R a b ≡ R b a) → (xs ys : List X) → IsPermutation xs ys → pairs R xs ≡ pairs R ys
same_pairs R both xs ys same =
    let inner : matches R ys ys ≡ matches R ys xs = λ i. sum_by (λ a. sum_by-IsPermutation (λ b. bit (R a b)) xs ys same i) ys in
    let outer : matches R ys xs ≡ matches R xs xs = sum_by-IsPermutation (λ a. partners R a xs) xs ys same in
    let own : alone R ys ≡ alone R xs = sum_by-IsPermutation (λ a. bit (R a a)) xs ys same in
    let before = square R both xs in
    let after = square R both ys in
    omega (arith, inner, outer, own, before, after)

-- ---- whether any do

some_is : (b : Bool) → b ≡ nat_lt 0 (bit b)
some_is true = refl
some_is false = refl

some_of : (m n : ℕ) → (nat_lt 0 m || nat_lt 0 n) ≡ nat_lt 0 (m + n)
some_of m n = by (nat_lt 0 m) refl
  where
    by : (b : Bool) → nat_lt 0 m ≡ b → (b || nat_lt 0 n) ≡ nat_lt 0 (m + n)
    by true e = grind (arith, nat_tests, e)
    by false e = grind (arith, nat_tests, e)

with_is : {X : Type 0} (R : X → X → Bool) (a : X) (xs : List X) → some_with R a xs ≡ nat_lt 0 (partners R a xs)
with_is R a [] = refl
with_is R a (b ∷ bs) =
    (λ i. some_is (R a b) i || with_is R a bs i) ∙ some_of (bit (R a b)) (partners R a bs) ∙ ap (nat_lt 0) (sym (sum_by-cons (λ b. bit (R a b)) b bs))

pair_is : {X : Type 0} (R : X → X → Bool) (xs : List X) → some_pair R xs ≡ nat_lt 0 (pairs R xs)
pair_is R [] = refl
pair_is R (a ∷ rest) = (λ i. with_is R a rest i || pair_is R rest i) ∙ some_of (partners R a rest) (pairs R rest)

pub some_pair-permuted : {X : Type 0} (R : X → X → Bool) → ((a b : X) → R a b ≡ R b a) → (xs ys : List X) → IsPermutation xs ys → some_pair R xs ≡ some_pair R ys
some_pair-permuted R both xs ys same = pair_is R xs ∙ ap (nat_lt 0) (same_pairs R both xs ys same) ∙ sym (pair_is R ys)
