-- Subscripts one after another, and the sizes that they leave.
use Rattle.std.proofs.Common.{◌≡◌, ℕ, ℤ, suc, ◌+◌, ◌<◌, ◌≤◌, List, [], ◌∷◌, ◌++◌, drop, get_or, length, map, Some, None, refl, sym, ap, ◌∙◌, arith}
use Rattle.std.proofs.Math.Seq.{drop-cons}
use Rattle.std.proofs.lemmas.List.{drop_all, map-append}
use Rattle.occ_tree_grammar.specs.Many.{◌>>=◌}
use Rattle.occ_term.specs.Terms as T
use Rattle.occ_term.specs.Terms.{Subscripts, no_subscripts, then_subscript}
use Rattle.occ_term.specs.View.{expression_of, subscripts}
use Rattle.occ_term.specs.declared.expression.TermExpr.{TermExpr}
use Rattle.occ_check_meaning.specs.Scope.{keep, a_string}
use Rattle.occ_check_meaning.specs.Constants.{constant, is_within}
use Rattle.occ_check_meaning.specs.Expressions.{joined, left_by, read}
use Rattle.occ_check_lines.specs.View.{Refuses}
use Rattle.occ_check_lines.specs.declared.fault.CheckFault.{CheckFault}
use Rattle.occ_check_lines.proofs.Refusals.{none_then, refused_with, then_nothing}

-- ---- subscripts one after another

joined_lists : (ds es : List T.Expression) → subscripts (ds ++ es) ≡ joined (subscripts ds) (subscripts es)
joined_lists [] es = refl
joined_lists (d ∷ ds) es = ap (then_subscript d) (joined_lists ds es)

pub joined_seen : (xs ys all : List TermExpr) (ds : List T.Expression) → all ≡ xs ++ ys → map expression_of xs ≡ ds → subscripts (map expression_of all) ≡ joined (subscripts ds) (subscripts (map expression_of ys))
joined_seen xs ys all ds e h =
    ap (λ zs. subscripts (map expression_of zs)) e ∙ ap subscripts (map-append expression_of xs ys) ∙ joined_lists (map expression_of xs) (map expression_of ys)
    ∙ ap (λ zs. joined (subscripts zs) (subscripts (map expression_of ys))) h

-- ---- the sizes that are left

one_first : (e : T.Expression) (es : Subscripts) (sizes : List ℕ) → left_by (then_subscript e es) sizes ≡ (left_by (then_subscript e no_subscripts) sizes >>= left_by es)
one_first e es [] = refl
one_first e es (n ∷ ns) = ap (λ r. r >>= left_by es) (sym (then_nothing (keep (is_within (constant e) n) ns)))

-- the subscripts from the i-th on leave of these sizes what all leave of the first
pub record Leaves (es : List TermExpr) (i : ℕ) (sizes left : List ℕ) : Type 0 where
  pub is : left_by (subscripts (map expression_of (drop i es))) left ≡ left_by (subscripts (map expression_of es)) sizes

pub leaves_first : (es : List TermExpr) (sizes : List ℕ) → Leaves es 0 sizes sizes
leaves_first [] sizes = record { is = refl }
leaves_first (e ∷ es) sizes = record { is = refl }

module _ (es : List TermExpr) (i : ℕ) (sizes left : List ℕ) (x : TermExpr) (below : i < length es) (here : x ≡ get_or es i x) (leaves : Leaves es i sizes left) where
  whole : (left_by (subscripts (expression_of x ∷ [])) left >>= left_by (subscripts (map expression_of (drop (suc i) es)))) ≡ left_by (subscripts (map expression_of es)) sizes
  whole =
      sym (one_first (expression_of x) (subscripts (map expression_of (drop (suc i) es))) left)
      ∙ ap (λ y. left_by (then_subscript (expression_of y) (subscripts (map expression_of (drop (suc i) es)))) left) here
      ∙ ap (λ ys. left_by (subscripts (map expression_of ys)) left) (sym (drop-cons es i x below))
      ∙ leaves.is

  pub leaves_next : (others : List ℕ) → left_by (subscripts (expression_of x ∷ [])) left ≡ Some others → Leaves es (i + 1) sizes others
  leaves_next others e =
      let next : i + 1 ≡ suc i = omega arith in
      record { is = ap (λ k. left_by (subscripts (map expression_of (drop k es))) others) next ∙ sym (ap (λ r. r >>= left_by (subscripts (map expression_of (drop (suc i) es)))) e) ∙ whole }

  pub leaves_nothing : (e : CheckFault) → Refuses e (left_by (subscripts (expression_of x ∷ [])) left) → Refuses e (left_by (subscripts (map expression_of es)) sizes)
  leaves_nothing e = refused_with e _ _ (λ h. sym whole ∙ none_then _ h)

pub leaves_last : (es : List TermExpr) (i : ℕ) (sizes left : List ℕ) → length es ≤ i → Leaves es i sizes left → left_by (subscripts (map expression_of es)) sizes ≡ Some left
leaves_last es i sizes left past leaves = sym leaves.is ∙ ap (λ xs. left_by (subscripts (map expression_of xs)) left) (drop_all i es past)

-- ---- a string takes one subscript

pub two_subscripts : (line : ℕ) (bytes : List ℤ) (xs all : List TermExpr) (x : TermExpr) → all ≡ xs ++ x ∷ [] → (xs ≡ [] → ⊥) → read line (a_string bytes) (subscripts (map expression_of all)) ≡ None
two_subscripts line bytes [] all x e h = absurd (h refl)
two_subscripts line bytes (y ∷ []) all x e h = ap (λ zs. read line (a_string bytes) (subscripts (map expression_of zs))) e
two_subscripts line bytes (y ∷ z ∷ xs) all x e h = ap (λ zs. read line (a_string bytes) (subscripts (map expression_of zs))) e
