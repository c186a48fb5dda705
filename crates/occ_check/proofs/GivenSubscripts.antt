-- Subscripts of an actual, one after the other.
use Rattle.std.proofs.Common.{◌≡◌, ◌∙◌, sym, ap, refl, ℕ, List, [], ◌∷◌, ◌++◌, map, slice_get, Option, Some}
use Rattle.std.specs.Prelude.{remove}
use mathlib.Core.List.{map-append}
use Rattle.occ_tree_grammar.specs.Many.{◌>>=◌}
use Rattle.occ_term.specs.Terms.{Subscripts}
use Rattle.occ_term.specs.View.{expression_of, subscripts, declaration_of, declarations_of}
use Rattle.occ_term.specs.Terms as T
use Rattle.occ_term.specs.declared.expression.TermExpr.{TermExpr}
use Rattle.occ_check_meaning.specs.Scope.{Name}
use Rattle.occ_check_meaning.specs.Constants.{constant}
use Rattle.occ_check_meaning.specs.Expressions.{joined}
use Rattle.occ_check_meaning.specs.Calls as C
use Rattle.occ_check_meaning.specs.Calls.{all_evaluated, one_evaluated, evaluated}
use Rattle.occ_check_lines.specs.View.{Refuses, evaluated_of, numbers_of}
use Rattle.occ_check.specs.Call.{given_of}
use Rattle.occ_check_lines.specs.declared.fault.CheckFault.{CheckFault}
use Rattle.occ_check_lines.specs.declared.known.Evaluated.{Evaluated}
use Rattle.occ_check_lines.specs.declared.numbers.Numbers.{Numbers}
use Rattle.occ_check.specs.declared.given.Given.{Given}
use Rattle.occ_check_lines.proofs.Refusals.{refused_with}

pub head_and_rest : {X : Type 0} (xs : List X) (x : X) (rest : List X) → slice_get xs 0 ≡ Some x → rest ≡ remove xs 0 → xs ≡ x ∷ rest
head_and_rest [] x rest h e = absurd cc
head_and_rest (y ∷ ys) x rest h e =
    let same : y ≡ x = cc in
    let others : rest ≡ ys = e in
    λ i. same i ∷ sym others i

pub joined_subscripts : (xs ys : List T.Expression) → subscripts (xs ++ ys) ≡ joined (subscripts xs) (subscripts ys)
joined_subscripts [] ys = refl
joined_subscripts (x ∷ xs) ys = ap (T.then_subscript x) (joined_subscripts xs ys)

pub joined_evaluated : (xs ys : List Evaluated) → subscripts (map evaluated_of (xs ++ ys)) ≡ joined (subscripts (map evaluated_of xs)) (subscripts (map evaluated_of ys))
joined_evaluated xs ys = ap subscripts (map-append evaluated_of xs ys) ∙ joined_subscripts (map evaluated_of xs) (map evaluated_of ys)

-- the second after the first
abbrev pub after_these : C.Evaluated → Option C.Evaluated → Option C.Evaluated
after_these a rest = rest >>= λ b. Some (evaluated (joined a.subscripts b.subscripts) b.left (a.heads ++ b.heads) b.numbers)

step_of : (x : Name) (depth size : ℕ) (e : T.Expression) (es : Subscripts) (sizes : List ℕ) (n : _)
    → all_evaluated x depth (T.then_subscript e es) (size ∷ sizes) n ≡ (one_evaluated x depth size e (constant e) n >>= λ a. after_these a (all_evaluated x depth es sizes a.numbers))
unfolding all_evaluated
step_of x depth size e es sizes n = refl

module _ (x : Name) (depth size : ℕ) (e : TermExpr) (others under : List TermExpr) (sizes all : List ℕ) (before between : Numbers) (first : Given)
    (split : under ≡ e ∷ others) (sized : all ≡ size ∷ sizes)
    (one : one_evaluated x depth size (expression_of e) (constant (expression_of e)) (numbers_of before) ≡ Some (given_of first between)) where
  begun : all_evaluated x depth (subscripts (map expression_of under)) all (numbers_of before)
      ≡ after_these (given_of first between) (all_evaluated x depth (subscripts (map expression_of others)) sizes (numbers_of between))
  begun =
      ap (λ (es : List TermExpr). all_evaluated x depth (subscripts (map expression_of es)) all (numbers_of before)) split
      ∙ ap (λ (ns : List ℕ). all_evaluated x depth (subscripts (map expression_of (e ∷ others))) ns (numbers_of before)) sized
      ∙ step_of x depth size (expression_of e) (subscripts (map expression_of others)) sizes (numbers_of before)
      ∙ ap (λ (o : Option C.Evaluated). o >>= λ a. after_these a (all_evaluated x depth (subscripts (map expression_of others)) sizes a.numbers)) one

  pub refused_later : (f : CheckFault) → Refuses f (all_evaluated x depth (subscripts (map expression_of others)) sizes (numbers_of between))
      → Refuses f (all_evaluated x depth (subscripts (map expression_of under)) all (numbers_of before))
  refused_later f r = refused_with f _ _ (λ none. begun ∙ ap (after_these (given_of first between)) none) r

  pub joined_later : (later whole : Given) (after : Numbers) → all_evaluated x depth (subscripts (map expression_of others)) sizes (numbers_of between) ≡ Some (given_of later after)
      → whole.subscripts ≡ first.subscripts ++ later.subscripts → whole.left ≡ later.left → whole.heads ≡ first.heads ++ later.heads
      → all_evaluated x depth (subscripts (map expression_of under)) all (numbers_of before) ≡ Some (given_of whole after)
  joined_later later whole after r s l h =
      begun ∙ ap (after_these (given_of first between)) r
      ∙ λ i. Some
      (evaluated (sym (ap (λ (es : List Evaluated). subscripts (map evaluated_of es)) s ∙ joined_evaluated first.subscripts later.subscripts) i) (sym l i)
      (sym (ap declarations_of h ∙ map-append declaration_of first.heads later.heads) i) (numbers_of after))
