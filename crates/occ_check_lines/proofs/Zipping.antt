-- What two lists give together: what is made so far, and what is left of both.
use Rattle.std.proofs.Common.{◌≡◌, ℕ, ◌+◌, ◌<◌, ◌≤◌, List, [], ◌∷◌, ◌++◌, drop, get_or, length, map, Option, Some, None, append_assoc, refl, subst, sym, ap, ◌∙◌, arith}
use Rattle.std.proofs.lemmas.List.{drop_all, map-append}
use mathlib.Core.List.{append-nil}
use Rattle.occ_tree_grammar.specs.Many.{◌>>=◌}
use Rattle.occ_tree_grammar.specs.Lines.Trees as L
use Rattle.occ_term.specs.declared.protocol.PartType.{PartType}
use Rattle.occ_check_meaning.specs.Scope.{Names}
use Rattle.occ_check_meaning.specs.Items.{Aim, sent_item, sent_items, target_of, targets_of}
use Rattle.occ_check_lines.specs.Zipped.{zipped}
use Rattle.occ_check_lines.specs.View.{Refuses}
use Rattle.occ_check_lines.specs.declared.fault.CheckFault.{CheckFault}
use Rattle.occ_check_lines.proofs.EachOf.{from_here}
use Rattle.occ_check_lines.proofs.Refusals.{none_then, refused_with, then_nothing, then_then}

no_items : {X : Type 0} (xs : List X) → length xs ≡ 0 → xs ≡ []
no_items [] h = refl
no_items (x ∷ xs) h = absurd (omega arith)

-- what all give is what is made, and what is left gives
pub record Zipping {A X B Z C : Type 0} (f : A → B → Option C) (seen : X → B) (view : Z → C) (ps : List A) (i : ℕ) (all left : List X) (made : List Z) : Type 0 where
  pub is : (zipped f (drop i ps) (map seen left) >>= λ rest. Some (map view made ++ rest)) ≡ zipped f ps (map seen all)

module _ {A X B Z C : Type 0} (f : A → B → Option C) (seen : X → B) (view : Z → C) (ps : List A) (all : List X) where
  pub zipping_first : (made : List Z) → made ≡ [] → Zipping f seen view ps 0 all all made
  zipping_first made none = subst (λ ys. Zipping f seen view ps 0 all all ys) (sym none) (by ps)
    where
      by : (ps : List A) → Zipping f seen view ps 0 all all []
      by [] = record { is = then_nothing _ }
      by (p ∷ ps) = record { is = then_nothing _ }

  module _ (i : ℕ) (made : List Z) (left : List X) (so_far : Zipping f seen view ps i all left made) where
    module _ (p : A) (below : i < length ps) (here : p ≡ get_or ps i p) where
      pub zipping_short : length left ≡ 0 → zipped f ps (map seen all) ≡ None
      unfolding zipped
      zipping_short empty =
          sym so_far.is ∙ ap (λ qs. zipped f qs (map seen left) >>= λ rest. Some (map view made ++ rest)) (from_here ps i p below here)
          ∙ ap (λ xs. zipped f (p ∷ drop (i + 1) ps) (map seen xs) >>= λ rest. Some (map view made ++ rest)) (no_items left empty)

      module _ (x : X) (others : List X) (is : left ≡ x ∷ others) where
        rest : Option (List C)
        rest = zipped f (drop (i + 1) ps) (map seen others)

        here_then : (f p (seen x) >>= λ c. rest >>= λ cs. Some (map view made ++ c ∷ cs)) ≡ zipped f ps (map seen all)
        unfolding zipped rest
        here_then =
            sym (then_then (f p (seen x)) (λ c. rest >>= λ cs. Some (c ∷ cs)) (λ r. Some (map view made ++ r)) ∙ by (f p (seen x)))
            ∙ sym (ap (λ xs. zipped f (p ∷ drop (i + 1) ps) (map seen xs) >>= λ rest. Some (map view made ++ rest)) is)
            ∙ sym (ap (λ qs. zipped f qs (map seen left) >>= λ rest. Some (map view made ++ rest)) (from_here ps i p below here))
            ∙ so_far.is
          where
            by : (r : Option C) → (r >>= λ c. rest >>= (λ cs. Some (c ∷ cs)) >>= λ r. Some (map view made ++ r)) ≡ (r >>= λ c. rest >>= λ cs. Some (map view made ++ c ∷ cs))
            by None = refl
            by (Some c) = then_then rest (λ cs. Some (c ∷ cs)) (λ r. Some (map view made ++ r))

        pub zipping_next : (z : Z) (more : List Z) → more ≡ made ++ z ∷ [] → f p (seen x) ≡ Some (view z) → Zipping f seen view ps (i + 1) all others more
        unfolding rest
        zipping_next z more grown h =
            let seen_all : map view more ≡ map view made ++ view z ∷ [] = ap (map view) grown ∙ map-append view made (z ∷ []) in
            record {
              is =
                  ap (λ cs. rest >>= λ r. Some (cs ++ r)) seen_all
                  ∙ by rest
                  ∙ sym (ap (λ r. r >>= λ c. rest >>= λ cs. Some (map view made ++ c ∷ cs)) h)
                  ∙ here_then;
            }
          where
            by : (r : Option (List C)) → (r >>= λ cs. Some ((map view made ++ view z ∷ []) ++ cs)) ≡ (r >>= λ cs. Some (map view made ++ view z ∷ cs))
            by None = refl
            by (Some cs) = ap (λ s. Some s) (append_assoc (map view made) (view z ∷ []) cs)

        pub zipping_nothing : (e : CheckFault) → Refuses e (f p (seen x)) → Refuses e (zipped f ps (map seen all))
        zipping_nothing e = refused_with e _ _ (λ h. sym here_then ∙ none_then _ h)

    module _ (past : length ps ≤ i) where
      at_end : (zipped f [] (map seen left) >>= λ rest. Some (map view made ++ rest)) ≡ zipped f ps (map seen all)
      at_end = sym (ap (λ qs. zipped f qs (map seen left) >>= λ rest. Some (map view made ++ rest)) (drop_all i ps past)) ∙ so_far.is

      pub zipping_last : length left ≡ 0 → zipped f ps (map seen all) ≡ Some (map view made)
      unfolding zipped
      zipping_last empty = sym at_end ∙ ap (λ xs. zipped f [] (map seen xs) >>= λ rest. Some (map view made ++ rest)) (no_items left empty) ∙ ap (λ s. Some s) (append-nil (map view made))

      pub zipping_long : (x : X) (others : List X) → left ≡ x ∷ others → zipped f ps (map seen all) ≡ None
      unfolding zipped
      zipping_long x others is = sym at_end ∙ ap (λ xs. zipped f [] (map seen xs) >>= λ rest. Some (map view made ++ rest)) is

-- ---- the lists that are zipped

pub sent_zipped : (ns : Names) (line : ℕ) (ps : List PartType) (os : List L.Out) → zipped (sent_item ns line) ps os ≡ sent_items ns line ps os
unfolding zipped sent_items
sent_zipped ns line [] [] = refl
sent_zipped ns line [] (o ∷ os) = refl
sent_zipped ns line (p ∷ ps) [] = refl
sent_zipped ns line (p ∷ ps) (o ∷ os) = ap (λ r. sent_item ns line p o >>= λ i. r >>= λ is. Some (i ∷ is)) (sent_zipped ns line ps os)

pub targets_zipped : (line : ℕ) (ps : List PartType) (aims : List Aim) → zipped (target_of line) ps aims ≡ targets_of line ps aims
unfolding zipped targets_of
targets_zipped line [] [] = refl
targets_zipped line [] (a ∷ aims) = refl
targets_zipped line (p ∷ ps) [] = refl
targets_zipped line (p ∷ ps) (a ∷ aims) = ap (λ r. target_of line p a >>= λ t. r >>= λ ts. Some (t ∷ ts)) (targets_zipped line ps aims)
