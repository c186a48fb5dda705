-- A text is cut behind its first line feed.
use Rattle.std.specs.Prelude.{nat_eq}
use Rattle.std.proofs.Common.{◌≡◌, ◌∙◌, ℕ, zero, suc, ◌+◌, ◌<◌, false, List, [], ◌∷◌, ◌++◌, length, get_or, take, drop, refl, ap, sym, add-one, arith}
use Rattle.std.proofs.lemmas.Bool.Decides.{nat_tests}
use Rattle.occ_choices.specs.Lines.{before_all, lines_of}

-- what stands in the first line before the others' beginning
abbrev pub glued : List ℕ → List (List ℕ) → List (List ℕ)
glued [] lines = lines
glued (b ∷ bs) lines = before_all b (glued bs lines)

pub glued_more : (xs : List ℕ) (b : ℕ) (lines : List (List ℕ)) → glued (xs ++ b ∷ []) lines ≡ glued xs (before_all b lines)
glued_more [] b lines = refl
glued_more (x ∷ xs) b lines = ap (before_all x) (glued_more xs b lines)

glued_first : (xs line : List ℕ) (lines : List (List ℕ)) → glued xs (line ∷ lines) ≡ (xs ++ line) ∷ lines
glued_first [] line lines = refl
glued_first (x ∷ xs) line lines = ap (before_all x) (glued_first xs line lines)

pub glued_last : (xs : List ℕ) → 0 < length xs → glued xs [] ≡ xs ∷ []
glued_last [] h = absurd (omega (arith, h))
glued_last (x ∷ []) h = refl
glued_last (x ∷ y ∷ xs) h = let later : 0 < length (y ∷ xs) = omega arith in ap (before_all x) (glued_last (y ∷ xs) later)

-- a byte within a line
pub cut_on : (b : ℕ) (bs : List ℕ) → (b ≡ 10 → ⊥) → lines_of (b ∷ bs) ≡ before_all b (lines_of bs)
cut_on b bs h = let other : nat_eq b 10 ≡ false = grind (arith, nat_tests) in rw other refl

-- what follows so many bytes
rest_from : (xs : List ℕ) (i d : ℕ) → i < length xs → drop i xs ≡ get_or xs i d ∷ drop (suc i) xs
rest_from [] i d h = absurd (omega (arith, h))
rest_from (x ∷ xs) zero d h = refl
rest_from (x ∷ xs) (suc i) d h = rest_from xs i d (omega (arith, h))

first_to : (xs : List ℕ) (i d : ℕ) → i < length xs → take (suc i) xs ≡ take i xs ++ get_or xs i d ∷ []
first_to [] i d h = absurd (omega (arith, h))
first_to (x ∷ xs) zero d h = refl
first_to (x ∷ xs) (suc i) d h = ap (λ l. x ∷ l) (first_to xs i d (omega (arith, h)))

rest_is : (xs : List ℕ) (i d : ℕ) → i < length xs → drop i xs ≡ get_or xs i d ∷ drop (i + 1) xs
rest_is xs i d h = rest_from xs i d h ∙ ap (λ n. get_or xs i d ∷ drop n xs) (sym (add-one i))

first_is : (xs : List ℕ) (i d : ℕ) → i < length xs → take (i + 1) xs ≡ take i xs ++ get_or xs i d ∷ []
first_is xs i d h = ap (λ n. take n xs) (add-one i) ∙ first_to xs i d h

module _ (xs : List ℕ) (i d : ℕ) (h : i < length xs) (so_far : lines_of xs ≡ glued (take i xs) (lines_of (drop i xs))) where
  pub goes_on : (get_or xs i d ≡ 10 → ⊥) → lines_of xs ≡ glued (take (i + 1) xs) (lines_of (drop (i + 1) xs))
  goes_on other =
      so_far ∙ ap (λ l. glued (take i xs) (lines_of l)) (rest_is xs i d h) ∙ ap (glued (take i xs)) (cut_on (get_or xs i d) (drop (i + 1) xs) other)
      ∙ sym (glued_more (take i xs) (get_or xs i d) (lines_of (drop (i + 1) xs))) ∙ ap (λ l. glued l (lines_of (drop (i + 1) xs))) (sym (first_is xs i d h))

  pub is_cut : get_or xs i d ≡ 10 → lines_of xs ≡ take (i + 1) xs ∷ lines_of (drop (i + 1) xs)
  is_cut feed =
      so_far ∙ ap (λ l. glued (take i xs) (lines_of l)) (rest_is xs i d h) ∙ ap (λ b. glued (take i xs) (lines_of (b ∷ drop (i + 1) xs))) feed
      ∙ glued_first (take i xs) (10 ∷ []) (lines_of (drop (i + 1) xs))
      ∙ ap (λ l. l ∷ lines_of (drop (i + 1) xs)) (ap (λ b. take i xs ++ b ∷ []) (sym feed) ∙ sym (first_is xs i d h))
