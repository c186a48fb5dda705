-- The tree of an expression.
-- Manual: expressions; literals.
use Rattle.std.specs.Prelude.{ℕ, List, [], ◌∷◌, Bool, true, false, Option, Vec, map}
use Rattle.occ_text.specs.Words.{Lit, number, byte, text}
use Rattle.occ_tree_grammar.specs.declared.tree.expr.Primitive.{Primitive}
use Rattle.occ_tree_grammar.specs.declared.tree.expr.Dyadic.{Dyadic}
use Rattle.occ_tree_grammar.specs.declared.tree.expr.Monadic.{Monadic}
use Rattle.occ_tree_grammar.specs.declared.tree.expr.Logic.{Logic}
use Rattle.occ_tree_grammar.specs.declared.tree.expr.Literal.{Literal}
use Rattle.occ_tree_grammar.specs.declared.tree.expr.Literal.TheVariants as literals
use Rattle.occ_tree_grammar.specs.declared.tree.expr.Operand.{Operand as OperandTree, Row_of-Expr, end_of-Expr, more_of-Expr}
use Rattle.occ_tree_grammar.specs.declared.tree.expr.Operand.TheVariants as operandTrees
use Rattle.occ_tree_grammar.specs.declared.tree.expr.Expr.{Expr, Row_of-Operand, end_of-Operand, more_of-Operand}
use Rattle.occ_tree_grammar.specs.declared.tree.expr.Expr.TheVariants as exprs

mutual
  pub data Expression : Type 0 where
    alone : Operand → Expression
    two : Operand → Dyadic → Operand → Expression
    one : Monadic → Operand → Expression
    convert : Primitive → Operand → Expression
    limit : Bool → Expression
    chain : Logic → Operand → Operand → Operands → Expression

  pub data Operands : Type 0 where
    no_operand : Operands
    more_operands : Operand → Operands → Operands

  pub data Operand : Type 0 where
    variable : List ℕ → Expressions → Operand
    literal : Lit → Option Primitive → Operand
    truth : Bool → Operand
    parens : Expression → Operand

  pub data Expressions : Type 0 where
    no_expression : Expressions
    more_expressions : Expression → Expressions → Expressions

-- the same, as the lists that they are
abbrev pub operands : List Operand → Operands
operands [] = no_operand
operands (a ∷ rest) = more_operands a (operands rest)

abbrev pub expressions : List Expression → Expressions
expressions [] = no_expression
expressions (e ∷ rest) = more_expressions e (expressions rest)

-- ---- the values of the code, without where they lie in memory

abbrev pub lit_of : Literal → Lit
lit_of (literals.Number n) = number n
lit_of (literals.Byte b) = byte b
lit_of (literals.Text v) = text v

abbrev mutual
  pub expression_of : Expr → Expression
  expression_of (exprs.Operand a) = alone (operand_of a)
  expression_of (exprs.Two a d b) = two (operand_of a) d (operand_of b)
  expression_of (exprs.One m a) = one m (operand_of a)
  expression_of (exprs.Convert p a) = convert p (operand_of a)
  expression_of exprs.MostPos = limit true
  expression_of exprs.MostNeg = limit false
  expression_of (exprs.Chain' l a b shape others) = chain l (operand_of a) (operand_of b) (held_operands others)

  pub operand_of : OperandTree → Operand
  operand_of (operandTrees.Variable' v shape subscripts) = variable v (held_expressions subscripts)
  operand_of (operandTrees.Literal l t) = literal (lit_of l) t
  operand_of (operandTrees.Truth b) = truth b
  operand_of (operandTrees.Parens' p e) = parens (expression_of e)

  pub held_operands : {m : _} → Row_of-Operand m → Operands
  held_operands end_of-Operand = no_operand
  held_operands (more_of-Operand a others) = more_operands (operand_of a) (held_operands others)

  pub held_expressions : {m : _} → Row_of-Expr m → Expressions
  held_expressions end_of-Expr = no_expression
  held_expressions (more_of-Expr e others) = more_expressions (expression_of e) (held_expressions others)

-- the expressions of a list
abbrev pub listed_expressions : {A : Type 0} → Vec Expr A → Expressions
listed_expressions es = expressions (map expression_of es.items)
