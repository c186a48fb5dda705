-- What each of a list gives: what is made so far, and what is left.
use Rattle.std.proofs.Common.{◌≡◌, ℕ, suc, ◌+◌, ◌<◌, ◌≤◌, List, [], ◌∷◌, ◌++◌, drop, get_or, length, map, Option, Some, None, append_assoc, refl, subst, sym, ap, ◌∙◌, arith}
use Rattle.std.proofs.Math.Seq.{drop-cons}
use Rattle.std.proofs.lemmas.List.{drop_all, map-append}
use mathlib.Core.List.{append-nil}
use Rattle.occ_tree_grammar.specs.Many.{◌>>=◌}
use Rattle.occ_check_meaning.specs.Scope.{each_of}
use Rattle.occ_check_lines.specs.View.{Refuses}
use Rattle.occ_check_lines.specs.declared.fault.CheckFault.{CheckFault}
use Rattle.occ_check_lines.proofs.Refusals.{none_then, refused_with, then_nothing, then_then}

pub from_here : {X : Type 0} (xs : List X) (i : ℕ) (x : X) → i < length xs → x ≡ get_or xs i x → drop i xs ≡ x ∷ drop (i + 1) xs
from_here xs i x below here =
    let next : suc i ≡ i + 1 = omega arith in
    drop-cons xs i x below ∙ ap (λ y. y ∷ drop (suc i) xs) (sym here) ∙ ap (λ k. x ∷ drop k xs) next

-- what all of a list give is what is made, and what those from the i-th on give
pub record SoFar {X Y Z B : Type 0} (f : Y → Option B) (seen : X → Y) (view : Z → B) (xs : List X) (i : ℕ) (made : List Z) : Type 0 where
  pub is : (each_of f (map seen (drop i xs)) >>= λ rest. Some (map view made ++ rest)) ≡ each_of f (map seen xs)

module _ {X Y Z B : Type 0} (f : Y → Option B) (seen : X → Y) (view : Z → B) (xs : List X) where
  pub so_far_first : (made : List Z) → made ≡ [] → SoFar f seen view xs 0 made
  so_far_first made none = subst (λ ys. SoFar f seen view xs 0 ys) (sym none) (by xs)
    where
      by : (xs : List X) → SoFar f seen view xs 0 []
      by [] = record { is = then_nothing _ }
      by (x ∷ xs) = record { is = then_nothing _ }

  module _ (i : ℕ) (made : List Z) (x : X) (below : i < length xs) (here : x ≡ get_or xs i x) (so_far : SoFar f seen view xs i made) where
    rest : Option (List B)
    rest = each_of f (map seen (drop (i + 1) xs))

    here_then : (f (seen x) >>= λ b. rest >>= λ bs. Some (map view made ++ b ∷ bs)) ≡ each_of f (map seen xs)
    unfolding each_of rest
    here_then =
        sym (then_then (f (seen x)) (λ b. rest >>= λ bs. Some (b ∷ bs)) (λ r. Some (map view made ++ r)) ∙ by (f (seen x)))
        ∙ ap (λ ys. each_of f (map seen ys) >>= λ r. Some (map view made ++ r)) (sym (from_here xs i x below here))
        ∙ so_far.is
      where
        by : (r : Option B) → (r >>= λ b. rest >>= (λ bs. Some (b ∷ bs)) >>= λ r. Some (map view made ++ r)) ≡ (r >>= λ b. rest >>= λ bs. Some (map view made ++ b ∷ bs))
        by None = refl
        by (Some b) = then_then rest (λ bs. Some (b ∷ bs)) (λ r. Some (map view made ++ r))

    pub so_far_next : (z : Z) (more : List Z) → more ≡ made ++ z ∷ [] → f (seen x) ≡ Some (view z) → SoFar f seen view xs (i + 1) more
    unfolding rest
    so_far_next z more grown h =
        let all : map view more ≡ map view made ++ view z ∷ [] = ap (map view) grown ∙ map-append view made (z ∷ []) in
        record {
          is =
              ap (λ bs. rest >>= λ r. Some (bs ++ r)) all
              ∙ by rest
              ∙ sym (ap (λ r. r >>= λ b. rest >>= λ bs. Some (map view made ++ b ∷ bs)) h)
              ∙ here_then;
        }
      where
        by : (r : Option (List B)) → (r >>= λ bs. Some ((map view made ++ view z ∷ []) ++ bs)) ≡ (r >>= λ bs. Some (map view made ++ view z ∷ bs))
        by None = refl
        by (Some bs) = ap (λ s. Some s) (append_assoc (map view made) (view z ∷ []) bs)

    pub so_far_nothing : (e : CheckFault) → Refuses e (f (seen x)) → Refuses e (each_of f (map seen xs))
    so_far_nothing e = refused_with e _ _ (λ h. sym here_then ∙ none_then _ h)

  pub so_far_last : (i : ℕ) (made : List Z) → length xs ≤ i → SoFar f seen view xs i made → each_of f (map seen xs) ≡ Some (map view made)
  unfolding each_of
  so_far_last i made past so_far =
      sym so_far.is ∙ ap (λ ys. each_of f (map seen ys) >>= λ rest. Some (map view made ++ rest)) (drop_all i xs past)
      ∙ ap (λ s. Some s) (append-nil (map view made))

all_same : {A : Type 0} (xs : List A) → map (λ x. x) xs ≡ xs
all_same [] = refl
all_same (x ∷ xs) = ap (λ ys. x ∷ ys) (all_same xs)

pub so_far_same : {X Y B : Type 0} (f : Y → Option B) (seen : X → Y) (xs : List X) (i : ℕ) (made : List B) → length xs ≤ i → SoFar f seen (λ b. b) xs i made → each_of f (map seen xs) ≡ Some made
so_far_same f seen xs i made past so_far = so_far_last f seen (λ b. b) xs i made past so_far ∙ ap (λ bs. Some bs) (all_same made)
