-- Marks of processes that are out, set back one after another.
use Rattle.std.proofs.Common.{◌≡◌, refl, ap, subst, Bool, false, ℕ, zero, suc, ◌+◌, ◌≤◌, List, [], ◌∷◌, length, arith}
use Rattle.std.specs.Prelude.{replicate, slice_set}

-- the first so many are set back
abbrev pub cleared : ℕ → List Bool → List Bool
cleared zero xs = xs
cleared (suc n) [] = []
cleared (suc n) (x ∷ xs) = false ∷ cleared n xs

cleared_more : (n : ℕ) (xs : List Bool) → slice_set (cleared n xs) n false ≡ cleared (suc n) xs
cleared_more zero [] = refl
cleared_more zero (x ∷ xs) = refl
cleared_more (suc n) [] = refl
cleared_more (suc n) (x ∷ xs) = ap (λ ys. false ∷ ys) (cleared_more n xs)

pub cleared_next : (n : ℕ) (xs : List Bool) → slice_set (cleared n xs) n false ≡ cleared (n + 1) xs
cleared_next n xs = let next : suc n ≡ n + 1 = omega arith in subst (λ m. slice_set (cleared n xs) n false ≡ cleared m xs) next (cleared_more n xs)

pub cleared_past : (n : ℕ) (xs : List Bool) → length xs ≤ n → cleared n xs ≡ replicate (length xs) false
cleared_past zero [] h = refl
cleared_past zero (x ∷ xs) h = absurd (omega (arith, h))
cleared_past (suc n) [] h = refl
cleared_past (suc n) (x ∷ xs) h = ap (λ ys. false ∷ ys) (cleared_past n xs (omega (arith, h)))
