-- Operands of a chain and subscripts, one after the other: what is made so far, and what is left.
use Rattle.std.proofs.Common.{◌≡◌, ℕ, suc, ◌+◌, ◌<◌, ◌≤◌, List, [], ◌∷◌, ◌++◌, drop, get_or, length, map, Option, Some, None, refl, subst, sym, ap, ◌∙◌, arith, Vec, Global}
use Rattle.std.proofs.Math.Seq.{drop-cons}
use Rattle.std.proofs.lemmas.List.{drop_all, map-append}
use Rattle.occ_tree_grammar.specs.Many.{◌>>=◌}
use Rattle.occ_tree_grammar.specs.declared.tree.expr.Expr.{Expr}
use Rattle.occ_tree_grammar.specs.declared.tree.expr.Expr.TheVariants as exprs
use Rattle.occ_tree_grammar.specs.declared.tree.expr.Operand.{Operand as OperandTree}
use Rattle.occ_tree_grammar.specs.declared.tree.expr.Operand.TheVariants as operandTrees
use Rattle.occ_tree_grammar.specs.declared.tree.expr.Logic.{Logic}
use Rattle.occ_tree_grammar.specs.Expressions.Trees as trees
use Rattle.occ_tree_grammar.proofs.Children.{operands_made, expressions_made}
use Rattle.occ_term.specs.declared.primitive.Primitive.TheVariants.{Bool as Boolean, Int}
use Rattle.occ_term.specs.Terms as T
use Rattle.occ_term.specs.Terms.{Subscripts, no_subscripts, then_subscript}
use Rattle.occ_term.specs.View.{expression_of, subscripts}
use Rattle.occ_term.specs.declared.expression.TermExpr.{TermExpr}
use Rattle.occ_check_meaning.specs.Scope.{Names}
use Rattle.occ_check_meaning.specs.Expressions.{joined, single, logic_of, of_type, typed, typed_as, typed_chain, typed_operand, typed_subscripts}
use Rattle.occ_check_lines.specs.View.{Refuses}
use Rattle.occ_check_lines.specs.declared.fault.CheckFault.{CheckFault}
use Rattle.occ_check_lines.proofs.Refusals.{none_then, refused_with, then_nothing, then_then}

-- ---- the trees of the code, seen

pub variable_seen : (name : List ℕ) (es : Vec Expr Global) → trees.operand_of (operandTrees.Variable name es) ≡ trees.variable name (trees.expressions (map trees.expression_of es.items))
variable_seen name es = ap (trees.variable name) (expressions_made es)

pub variable_given : (a : OperandTree) (name : List ℕ) (es : Vec Expr Global) (ys : List Expr) → a ≡ operandTrees.Variable name es → ys ≡ es.items
    → trees.variable name (trees.expressions (map trees.expression_of ys)) ≡ trees.operand_of a
variable_given a name es ys is g =
    ap (λ zs. trees.variable name (trees.expressions (map trees.expression_of zs))) g ∙ sym (ap trees.operand_of is ∙ variable_seen name es)

pub chain_seen : (l : Logic) (a b : OperandTree) (others : Vec OperandTree Global)
    → trees.expression_of (exprs.Chain l a b others) ≡ trees.chain l (trees.operand_of a) (trees.operand_of b) (trees.operands (map trees.operand_of others.items))
chain_seen l a b others = ap (trees.chain l (trees.operand_of a) (trees.operand_of b)) (operands_made others)

-- ---- lists from a place on

from_here : {X : Type 0} (xs : List X) (i : ℕ) (x : X) → i < length xs → x ≡ get_or xs i x → drop i xs ≡ x ∷ drop (i + 1) xs
from_here xs i x below here =
    let next : suc i ≡ i + 1 = omega arith in
    drop-cons xs i x below ∙ ap (λ y. y ∷ drop (suc i) xs) (sym here) ∙ ap (λ k. x ∷ drop k xs) next

-- ---- the operands of a chain

-- what the first two give, and then the others
module _ (ns : Names) (line : ℕ) (l : Logic) (a b : OperandTree) (others : Vec OperandTree Global) (zs : List OperandTree) (e : Expr) (x y left : T.Expression) (is : e ≡ exprs.Chain l a b others) (all : zs ≡ others.items)
    (h : typed_as ns line Boolean (trees.alone (trees.operand_of a)) ≡ Some x) (g : typed_as ns line Boolean (trees.alone (trees.operand_of b)) ≡ Some y) (joins : left ≡ logic_of l x y) where
  chain_is : typed ns line (trees.expression_of e) ≡ (typed_chain ns line l left (trees.operands (map trees.operand_of zs)) >>= λ z. Some (single Boolean z))
  unfolding typed
  chain_is =
      ap (λ t. typed ns line (trees.expression_of t)) is ∙ ap (typed ns line) (chain_seen l a b others)
      ∙ ap (λ r. r >>= λ x. typed_operand ns line (trees.operand_of b) >>= of_type Boolean >>= λ y. typed_chain ns line l (logic_of l x y) (trees.operands (map trees.operand_of others.items)) >>= λ z. Some (single Boolean z)) h
      ∙ ap (λ r. r >>= λ y. typed_chain ns line l (logic_of l x y) (trees.operands (map trees.operand_of others.items)) >>= λ z. Some (single Boolean z)) g
      ∙ ap (λ ws. typed_chain ns line l (logic_of l x y) (trees.operands (map trees.operand_of ws)) >>= λ z. Some (single Boolean z)) (sym all)
      ∙ ap (λ d. typed_chain ns line l d (trees.operands (map trees.operand_of zs)) >>= λ z. Some (single Boolean z)) (sym joins)

  pub chain_gives : (z : T.Expression) → typed_chain ns line l left (trees.operands (map trees.operand_of zs)) ≡ Some z → typed ns line (trees.expression_of e) ≡ Some (single Boolean z)
  chain_gives z done = chain_is ∙ ap (λ r. r >>= λ z. Some (single Boolean z)) done

  pub chain_nothing : (f : CheckFault) → Refuses f (typed_chain ns line l left (trees.operands (map trees.operand_of zs))) → Refuses f (typed ns line (trees.expression_of e))
  chain_nothing f = refused_with f _ _ (λ none. chain_is ∙ none_then _ none)

-- the operands from the i-th on give with this left side what all give with the first
pub record Chained (ns : Names) (line : ℕ) (logic : Logic) (operands : List OperandTree) (i : ℕ) (first left : TermExpr) : Type 0 where
  pub is : typed_chain ns line logic (expression_of left) (trees.operands (map trees.operand_of (drop i operands))) ≡ typed_chain ns line logic (expression_of first) (trees.operands (map trees.operand_of operands))

pub chained_first : (ns : Names) (line : ℕ) (logic : Logic) (operands : List OperandTree) (first : TermExpr) → Chained ns line logic operands 0 first first
chained_first ns line logic [] first = record { is = refl }
chained_first ns line logic (a ∷ operands) first = record { is = refl }

one_first : (ns : Names) (line : ℕ) (logic : Logic) (left : T.Expression) (a : trees.Operand) (others : trees.Operands)
    → typed_chain ns line logic left (trees.more_operands a others) ≡ (typed_chain ns line logic left (trees.more_operands a trees.no_operand) >>= λ e. typed_chain ns line logic e others)
unfolding typed_chain
one_first ns line logic left a others = by (typed_operand ns line a >>= of_type Boolean)
  where
    by : (r : Option T.Expression) → (r >>= λ x. typed_chain ns line logic (logic_of logic left x) others) ≡ (r >>= (λ x. Some (logic_of logic left x)) >>= λ e. typed_chain ns line logic e others)
    by (Some x) = refl
    by None = refl

module _ (ns : Names) (line : ℕ) (logic : Logic) (operands : List OperandTree) (i : ℕ) (first left : TermExpr) (a : OperandTree) (below : i < length operands) (here : a ≡ get_or operands i a) (so_far : Chained ns line logic operands i first left) where
  others : trees.Operands
  others = trees.operands (map trees.operand_of (drop (i + 1) operands))

  whole : (typed_chain ns line logic (expression_of left) (trees.operands (trees.operand_of a ∷ [])) >>= λ e. typed_chain ns line logic e others) ≡ typed_chain ns line logic (expression_of first) (trees.operands (map trees.operand_of operands))
  unfolding others
  whole =
      sym (one_first ns line logic (expression_of left) (trees.operand_of a) others)
      ∙ ap (λ xs. typed_chain ns line logic (expression_of left) (trees.operands (map trees.operand_of xs))) (sym (from_here operands i a below here))
      ∙ so_far.is

  pub chained_next : (e : TermExpr) → typed_chain ns line logic (expression_of left) (trees.operands (trees.operand_of a ∷ [])) ≡ Some (expression_of e) → Chained ns line logic operands (i + 1) first e
  unfolding others
  chained_next e h = record { is = sym (ap (λ r. r >>= λ x. typed_chain ns line logic x others) h) ∙ whole }

  pub chained_nothing : (e : CheckFault) → Refuses e (typed_chain ns line logic (expression_of left) (trees.operands (trees.operand_of a ∷ []))) → Refuses e (typed_chain ns line logic (expression_of first) (trees.operands (map trees.operand_of operands)))
  chained_nothing e = refused_with e _ _ (λ h. sym whole ∙ none_then _ h)

pub chained_last : (ns : Names) (line : ℕ) (logic : Logic) (operands : List OperandTree) (i : ℕ) (first left : TermExpr) → length operands ≤ i → Chained ns line logic operands i first left
    → typed_chain ns line logic (expression_of first) (trees.operands (map trees.operand_of operands)) ≡ Some (expression_of left)
unfolding typed_chain
chained_last ns line logic operands i first left past so_far = sym so_far.is ∙ ap (λ xs. typed_chain ns line logic (expression_of left) (trees.operands (map trees.operand_of xs))) (drop_all i operands past)

-- ---- subscripts

-- what all give is what is made, and what those from the i-th on give
pub record Subscripted (ns : Names) (line : ℕ) (es : List Expr) (i : ℕ) (made : List TermExpr) : Type 0 where
  pub is : (typed_subscripts ns line (trees.expressions (map trees.expression_of (drop i es))) >>= λ rest. Some (joined (subscripts (map expression_of made)) rest)) ≡ typed_subscripts ns line (trees.expressions (map trees.expression_of es))

pub subscripted_first : (ns : Names) (line : ℕ) (es : List Expr) (made : List TermExpr) → made ≡ [] → Subscripted ns line es 0 made
subscripted_first ns line es made none = subst (λ xs. Subscripted ns line es 0 xs) (sym none) (by es)
  where
    by : (es : List Expr) → Subscripted ns line es 0 []
    by [] = record { is = then_nothing _ }
    by (e ∷ es) = record { is = then_nothing _ }

one_more : (ds : List T.Expression) (d : T.Expression) (rest : Subscripts) → joined (subscripts (ds ++ d ∷ [])) rest ≡ joined (subscripts ds) (then_subscript d rest)
one_more [] d rest = refl
one_more (x ∷ ds) d rest = ap (then_subscript x) (one_more ds d rest)

all_joined : (ds : Subscripts) → joined ds no_subscripts ≡ ds
all_joined no_subscripts = refl
all_joined (then_subscript d ds) = ap (then_subscript d) (all_joined ds)

module _ (ns : Names) (line : ℕ) (es : List Expr) (i : ℕ) (made : List TermExpr) (e : Expr) (below : i < length es) (here : e ≡ get_or es i e) (so_far : Subscripted ns line es i made) where
  rest : Option Subscripts
  rest = typed_subscripts ns line (trees.expressions (map trees.expression_of (drop (i + 1) es)))

  step : Option T.Expression
  step = typed_as ns line Int (trees.expression_of e)

  here_then : (step >>= λ x. rest >>= λ subs. Some (joined (subscripts (map expression_of made)) (then_subscript x subs))) ≡ typed_subscripts ns line (trees.expressions (map trees.expression_of es))
  unfolding typed_subscripts rest step
  here_then =
      sym (then_then step (λ x. rest >>= λ subs. Some (then_subscript x subs)) (λ r. Some (joined (subscripts (map expression_of made)) r)) ∙ by step)
      ∙ ap (λ xs. typed_subscripts ns line (trees.expressions (map trees.expression_of xs)) >>= λ r. Some (joined (subscripts (map expression_of made)) r)) (sym (from_here es i e below here))
      ∙ so_far.is
    where
      by : (r : Option T.Expression) → (r >>= λ x. rest >>= (λ subs. Some (then_subscript x subs)) >>= λ r. Some (joined (subscripts (map expression_of made)) r)) ≡ (r >>= λ x. rest >>= λ subs. Some (joined (subscripts (map expression_of made)) (then_subscript x subs)))
      by None = refl
      by (Some x) = then_then rest (λ subs. Some (then_subscript x subs)) (λ r. Some (joined (subscripts (map expression_of made)) r))

  pub subscripted_next : (x : TermExpr) (more : List TermExpr) → more ≡ made ++ x ∷ [] → typed_as ns line Int (trees.expression_of e) ≡ Some (expression_of x) → Subscripted ns line es (i + 1) more
  unfolding rest step
  subscripted_next x more grown h =
      let seen : map expression_of more ≡ map expression_of made ++ expression_of x ∷ [] = ap (map expression_of) grown ∙ map-append expression_of made (x ∷ []) in
      record {
        is =
            ap (λ ds. rest >>= λ subs. Some (joined (subscripts ds) subs)) seen
            ∙ by rest
            ∙ sym (ap (λ r. r >>= λ y. rest >>= λ subs. Some (joined (subscripts (map expression_of made)) (then_subscript y subs))) h)
            ∙ here_then;
      }
    where
      by : (r : Option Subscripts) → (r >>= λ subs. Some (joined (subscripts (map expression_of made ++ expression_of x ∷ [])) subs)) ≡ (r >>= λ subs. Some (joined (subscripts (map expression_of made)) (then_subscript (expression_of x) subs)))
      by None = refl
      by (Some subs) = ap (λ s. Some s) (one_more (map expression_of made) (expression_of x) subs)

  pub subscripted_nothing : (f : CheckFault) → Refuses f (typed_as ns line Int (trees.expression_of e)) → Refuses f (typed_subscripts ns line (trees.expressions (map trees.expression_of es)))
  unfolding step
  subscripted_nothing f = refused_with f _ _ (λ h. sym here_then ∙ none_then _ h)

pub subscripted_last : (ns : Names) (line : ℕ) (es : List Expr) (i : ℕ) (made : List TermExpr) → length es ≤ i → Subscripted ns line es i made
    → typed_subscripts ns line (trees.expressions (map trees.expression_of es)) ≡ Some (subscripts (map expression_of made))
unfolding typed_subscripts
subscripted_last ns line es i made past so_far =
    sym so_far.is ∙ ap (λ xs. typed_subscripts ns line (trees.expressions (map trees.expression_of xs)) >>= λ rest. Some (joined (subscripts (map expression_of made)) rest)) (drop_all i es past)
    ∙ ap (λ s. Some s) (all_joined (subscripts (map expression_of made)))
