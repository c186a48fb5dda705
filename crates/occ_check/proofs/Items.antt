-- Items one after the other, and what stands inside of them.
use Rattle.std.proofs.Common.{◌≡◌, ◌∙◌, sym, ap, refl, ℕ, ◌+◌, ◌<◌, ◌≤◌, List, [], ◌++◌, map, length, drop, get_or, Option, Some, None, append_assoc}
use Rattle.std.proofs.lemmas.List.{map-append}
use Rattle.std.proofs.Math.ListN.{drop_of_length-le}
use mathlib.Core.List.{append-nil}
use Rattle.occ_tree_grammar.specs.Many.{◌>>=◌}
use Rattle.occ_tree_grammar.specs.Processes.Views.{item_of}
use Rattle.occ_tree_grammar.specs.declared.tree.process.Item.{Item as ItemTree}
use Rattle.occ_term.specs.Terms as T
use Rattle.occ_term.specs.View.{declaration_of, declarations_of}
use Rattle.occ_term.specs.declared.expression.Declaration.{Declaration}
use Rattle.occ_check_meaning.specs.Numbers.{Numbers}
use Rattle.occ_check_meaning.specs.Performing.{Calling, Entered, entered}
use Rattle.occ_check_meaning.specs.Programs.{items_declared}
use Rattle.occ_check_meaning.specs.Recursion.{item_declared}
use Rattle.occ_check_meaning.specs.Scope.{Scope}
use Rattle.occ_check_lines.specs.View.{Refuses}
use Rattle.occ_check_lines.specs.declared.fault.CheckFault.{CheckFault}
use Rattle.occ_check_lines.proofs.EachOf.{from_here}
use Rattle.occ_check_lines.proofs.Refusals.{refused_with}

-- what follows, behind what is set already
abbrev pub behind_heads : List T.Declaration → Option (Entered Calling) → Option (Entered Calling)
behind_heads heads rest = rest >>= λ e. Some (entered e.scope (heads ++ e.heads) e.numbers)

-- what is set, and what the items from number i on declare, is what all of them declare
pub record Going (items : List ItemTree) (depth : ℕ) (first : Scope Calling) (before : Numbers) (i : ℕ) (heads : List Declaration) (sc : Scope Calling) (n : Numbers) : Type 0 where
  pub is : behind_heads (declarations_of heads) (items_declared (map item_of (drop i items)) sc depth n) ≡ items_declared (map item_of items) first depth before

no_heads : (o : Option (Entered Calling)) → behind_heads [] o ≡ o
no_heads None = refl
no_heads (Some e) = refl

more_heads : (a b : List T.Declaration) (o : Option (Entered Calling)) → behind_heads a (behind_heads b o) ≡ behind_heads (a ++ b) o
more_heads a b None = refl
more_heads a b (Some e) = λ i. Some (entered e.scope (sym (append_assoc a b e.heads) i) e.numbers)

module _ (items : List ItemTree) (depth : ℕ) (first : Scope Calling) (before : Numbers) where
  pub going_first : (heads : List Declaration) → heads ≡ [] → Going items depth first before 0 heads first before
  going_first heads none = record { is = ap (λ hs. behind_heads (declarations_of hs) (items_declared (map item_of items) first depth before)) none ∙ no_heads _ }

  module _ (i : ℕ) (heads : List Declaration) (sc : Scope Calling) (n : Numbers) (going : Going items depth first before i heads sc n) where
    module _ (item : ItemTree) (below : i < length items) (at : item ≡ get_or items i item) where
      abbrev rest : Entered Calling → Option (Entered Calling)
      rest x = behind_heads x.heads (items_declared (map item_of (drop (i + 1) items)) x.scope depth x.numbers)

      here : behind_heads (declarations_of heads) (item_declared (item_of item) sc depth n >>= rest) ≡ items_declared (map item_of items) first depth before
      unfolding items_declared
      here = sym (ap (λ (xs : List ItemTree). behind_heads (declarations_of heads) (items_declared (map item_of xs) sc depth n)) (from_here items i item below at)) ∙ going.is

      pub going_stops : (e : CheckFault) → Refuses e (item_declared (item_of item) sc depth n) → Refuses e (items_declared (map item_of items) first depth before)
      going_stops e = refused_with e _ _ (λ none. sym here ∙ ap (λ o. behind_heads (declarations_of heads) (o >>= rest)) none)

      pub going_next : (one more : List Declaration) (inside : Scope Calling) (m : Numbers) → item_declared (item_of item) sc depth n ≡ Some (entered inside (declarations_of one) m)
          → more ≡ heads ++ one → Going items depth first before (i + 1) more inside m
      going_next one more inside m h grown =
          record {
            is =
                ap (λ hs. behind_heads hs (items_declared (map item_of (drop (i + 1) items)) inside depth m)) (ap declarations_of grown ∙ map-append declaration_of heads one)
                ∙ sym (more_heads (declarations_of heads) (declarations_of one) (items_declared (map item_of (drop (i + 1) items)) inside depth m))
                ∙ sym (ap (λ o. behind_heads (declarations_of heads) (o >>= rest)) h)
                ∙ here;
          }

    pub going_last : length items ≤ i → items_declared (map item_of items) first depth before ≡ Some (entered sc (declarations_of heads) n)
    unfolding items_declared
    going_last past =
        sym going.is ∙ ap (λ (xs : List ItemTree). behind_heads (declarations_of heads) (items_declared (map item_of xs) sc depth n)) (drop_of_length-le items past)
        ∙ ap (λ hs. Some (entered sc hs n)) (append-nil (declarations_of heads))
