-- What holds of all paths, one after the other.
use Rattle.std.proofs.Common.{◌≡◌, ◌⊎◌, inl, inr, ℕ, suc, zero, ◌∷◌, [], refl, ◌+◌, ◌<◌, ◌≤◌, List, All, get_or, length, take, sym, subst, arith}
use Rattle.std.proofs.lemmas.List.{get_or-take, length-take-le, take_all}

either : (k i : ℕ) → k < i + 1 → k < i ⊎ k ≡ i
either k i lt = grind arith

-- an item within a list is the same, whatever stands for none
one_item : {X : Type 0} (xs : List X) (i : ℕ) (d e : X) → i < length xs → get_or xs i d ≡ get_or xs i e
one_item [] i d e within = absurd (omega (arith, within))
one_item (x ∷ xs) zero d e within = refl
one_item (x ∷ xs) (suc i) d e within = one_item xs i d e (omega (arith, within))

-- of the first so many, and of the next
pub all_next : {X : Type 0} (P : X → Type 0) (xs : List X) (i : ℕ) → i < length xs → All P (take i xs) → (e : X) → P (get_or xs i e) → All P (take (i + 1) xs)
all_next P xs i within h e p k d lt =
    let count : length (take (i + 1) xs) ≡ i + 1 = length-take-le (i + 1) xs (omega (arith, within)) in
    let first : length (take i xs) ≡ i = length-take-le i xs (omega (arith, within)) in
    let low : k < i + 1 = omega (arith, lt, count) in
    subst P (sym (get_or-take (i + 1) xs k d low)) (by first (either k i low))
  where
    by : length (take i xs) ≡ i → k < i ⊎ k ≡ i → P (get_or xs k d)
    by first (inl less) = subst P (get_or-take i xs k d less) (h k d (omega (arith, first, less)))
    by first (inr same) = subst (λ n. P (get_or xs n d)) (sym same) (subst P (one_item xs i e d within) p)

-- and so of all
pub all_done : {X : Type 0} (P : X → Type 0) (xs : List X) (i : ℕ) → length xs ≤ i → All P (take i xs) → All P xs
all_done P xs i end h = subst (All P) (take_all i xs end) h
