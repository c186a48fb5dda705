-- Lists of which each part gives several: what is made so far, and what is left.
use Rattle.std.proofs.Common.{◌≡◌, ◌<◌, ◌≤◌, ◌+◌, ◌∙◌, ℕ, zero, suc, List, [], ◌∷◌, Option, Some, None, refl, ap, sym, drop, get_or, length, map, arith}
use Rattle.std.proofs.lemmas.List.{drop_more}
use Rattle.std.proofs.Math.ListN.{drop_of_length-le}
use Rattle.occ_tree_grammar.specs.Many.{◌>>=◌}
use Rattle.occ_tree_grammar.specs.Processes.Trees.{Kind, Node, nodes}
use Rattle.occ_check_lines.specs.View.{Refuses}
use Rattle.occ_check.specs.Weights.{node_size, nodes_size}
use Rattle.occ_check_lines.specs.declared.fault.CheckFault.{CheckFault}
use Rattle.occ_check_lines.proofs.Refusals.{refused_with}

-- so much is made, and this is what the whole gives
pub record Gathered {X S A R : Type 0} (all : List X → S → Option R) (put : A → R → R) (given : Option R) (xs : List X) (i : ℕ) (made : A) (s : S) : Type 0 where
  pub is : given ≡ (all (drop i xs) s >>= λ r. Some (put made r))

module _ {X S A R : Type 0} (all : List X → S → Option R) (one : X → S → Option (A × S)) (put : A → R → R)
    (step : (x : X) (xs : List X) (s : S) → all (x ∷ xs) s ≡ (one x s >>= λ a. all xs a.1 >>= λ r. Some (put a.0 r))) where
  pub gathered_first : (xs : List X) (s t : S) (none made : A) → made ≡ none → t ≡ s → ((r : R) → put none r ≡ r) → Gathered all put (all xs s) xs 0 made t
  gathered_first xs s t none made empty same unit = record { is = by (all xs s) ∙ ap (λ a. all xs s >>= λ r. Some (put a r)) (sym empty) ∙ ap (λ n. all xs n >>= λ r. Some (put made r)) (sym same) }
    where
      by : (o : Option R) → o ≡ (o >>= λ r. Some (put none r))
      by None = refl
      by (Some r) = ap (λ q. Some q) (sym (unit r))

  module _ (given : Option R) (xs : List X) (i : ℕ) (made : A) (s : S) (gathered : Gathered all put given xs i made s) where
    module _ (x : X) (within : i < length xs) (is : x ≡ get_or xs i x) where
      stepped : given ≡ ((one x s >>= λ a. all (drop (i + 1) xs) a.1 >>= λ r. Some (put a.0 r)) >>= λ r. Some (put made r))
      stepped =
          gathered.is ∙ ap (λ (l : List X). all l s >>= λ r. Some (put made r)) (drop_more xs i x within ∙ ap (λ (y : X). y ∷ drop (i + 1) xs) (sym is))
          ∙ ap (λ o. o >>= λ r. Some (put made r)) (step x (drop (i + 1) xs) s)

      pub gathered_refused : (e : CheckFault) → Refuses e (one x s) → Refuses e given
      gathered_refused e = refused_with e _ _ (λ h. stepped ∙ ap (λ o. (o >>= λ a. all (drop (i + 1) xs) a.1 >>= λ r. Some (put a.0 r)) >>= λ r. Some (put made r)) h)

      pub gathered_next : (e more : A) (t : S) → one x s ≡ Some (e, t) → ((r : R) → put more r ≡ put made (put e r)) → Gathered all put given xs (i + 1) more t
      gathered_next e more t h grown = record {
        is = stepped ∙ ap (λ o. (o >>= λ a. all (drop (i + 1) xs) a.1 >>= λ r. Some (put a.0 r)) >>= λ r. Some (put made r)) h ∙ by (all (drop (i + 1) xs) t);
      }
        where
          by : (o : Option R) → ((o >>= λ r. Some (put e r)) >>= λ r. Some (put made r)) ≡ (o >>= λ r. Some (put more r))
          by None = refl
          by (Some r) = ap (λ q. Some q) (sym (grown r))

    pub gathered_last : length xs ≤ i → (r : R) → all [] s ≡ Some r → given ≡ Some (put made r)
    gathered_last end r h = gathered.is ∙ ap (λ (l : List X). all l s >>= λ r. Some (put made r)) (drop_of_length-le xs end) ∙ ap (λ o. o >>= λ r. Some (put made r)) h

-- what stands in a list is smaller
pub part_within : {X : Type 0} {k : Kind} (view : X → Node k) (xs : List X) (i : ℕ) (x : X) → i < length xs → x ≡ get_or xs i x → node_size (view x) < nodes_size (nodes (map view xs))
unfolding nodes_size
part_within view [] i x h is = absurd (omega (arith, h))
part_within view (y ∷ ys) zero x h is = let e : node_size (view x) ≡ node_size (view y) = ap (λ z. node_size (view z)) is in omega (arith, e)
part_within view (y ∷ ys) (suc i) x h is = let e = part_within view ys i x (omega (arith, h)) is in omega (arith, e)
