-- The written form of an expression: one case for each alternative of the grammar.
-- Manual: expressions. Chains of AND and OR as in the syntax summary.
use Rattle.std.specs.Prelude.{ℕ, suc, max, ◌≤◌, List, [], ◌∷◌, ◌++◌, Bool, true, false, Option, Some, None}
use Rattle.occ_text.specs.declared.token.Key.TheVariants as k
use Rattle.occ_text.specs.declared.token.Sym.TheVariants as s
use Rattle.occ_text.specs.Words.{Word, key, name, lit, mark}
use Rattle.occ_tree_grammar.specs.declared.tree.expr.Primitive.{Primitive}
use Rattle.occ_tree_grammar.specs.declared.tree.expr.Primitive.TheVariants as prims
use Rattle.occ_tree_grammar.specs.declared.tree.expr.Dyadic.{Dyadic}
use Rattle.occ_tree_grammar.specs.declared.tree.expr.Dyadic.TheVariants as dyadics
use Rattle.occ_tree_grammar.specs.declared.tree.expr.Monadic.{Monadic}
use Rattle.occ_tree_grammar.specs.declared.tree.expr.Monadic.TheVariants as monadics
use Rattle.occ_tree_grammar.specs.declared.tree.expr.Logic.{Logic}
use Rattle.occ_tree_grammar.specs.declared.tree.expr.Logic.TheVariants as logics
use Rattle.occ_tree_grammar.specs.Expressions.Trees.{Expression, alone, two, one, convert, limit, chain, Operand, variable, literal, truth, parens, Operands, no_operand, more_operands, Expressions, no_expression, more_expressions}

abbrev pub prim_word : Primitive → Word
prim_word prims.Bool = key k.Bool
prim_word prims.Byte = key k.Byte
prim_word prims.Int = key k.Int

abbrev pub dyadic_word : Dyadic → Word
dyadic_word dyadics.Add = mark s.Plus
dyadic_word dyadics.Subtract = mark s.Minus
dyadic_word dyadics.Multiply = mark s.Times
dyadic_word dyadics.Divide = mark s.Divide
dyadic_word dyadics.Remainder = mark s.Remainder
dyadic_word dyadics.Rem = key k.Rem
dyadic_word dyadics.Plus = key k.Plus
dyadic_word dyadics.Minus = key k.Minus
dyadic_word dyadics.Times = key k.Times
dyadic_word dyadics.BitAndSign = mark s.BitAnd
dyadic_word dyadics.BitAnd = key k.BitAnd
dyadic_word dyadics.BitOrSign = mark s.BitOr
dyadic_word dyadics.BitOr = key k.BitOr
dyadic_word dyadics.BitXor = mark s.BitXor
dyadic_word dyadics.ShiftLeft = mark s.ShiftLeft
dyadic_word dyadics.ShiftRight = mark s.ShiftRight
dyadic_word dyadics.After = key k.After
dyadic_word dyadics.Equal = mark s.Equal
dyadic_word dyadics.Unequal = mark s.NotEqual
dyadic_word dyadics.Less = mark s.Less
dyadic_word dyadics.Greater = mark s.Greater
dyadic_word dyadics.AtMost = mark s.LessEqual
dyadic_word dyadics.AtLeast = mark s.GreaterEqual

abbrev pub monadic_word : Monadic → Word
monadic_word monadics.Negate = mark s.Minus
monadic_word monadics.Tilde = mark s.Tilde
monadic_word monadics.BitNot = key k.BitNot
monadic_word monadics.Not = key k.Not
monadic_word monadics.Size = key k.Size

abbrev pub logic_word : Logic → Word
logic_word logics.And = key k.And
logic_word logics.Or = key k.Or

abbrev pub truth_word : Bool → Word
truth_word true = key k.True
truth_word false = key k.False

abbrev pub limit_word : Bool → Word
limit_word true = key k.MostPos
limit_word false = key k.MostNeg

-- the type of a literal, where it is given
abbrev pub show_type : Option Primitive → List Word
show_type None = []
show_type (Some p) = mark s.OpenParen ∷ prim_word p ∷ mark s.CloseParen ∷ []

abbrev mutual
  pub show_expression : Expression → List Word
  show_expression (alone a) = show_operand a
  show_expression (two a d b) = show_operand a ++ dyadic_word d ∷ show_operand b
  show_expression (one m a) = monadic_word m ∷ show_operand a
  show_expression (convert p a) = prim_word p ∷ show_operand a
  show_expression (limit b) = limit_word b ∷ key k.Int ∷ []
  show_expression (chain l a b rest) = show_operand a ++ (logic_word l ∷ show_operand b ++ show_operands l rest)

  -- each with the operator before it
  pub show_operands : Logic → Operands → List Word
  show_operands l no_operand = []
  show_operands l (more_operands a rest) = logic_word l ∷ show_operand a ++ show_operands l rest

  pub show_operand : Operand → List Word
  show_operand (variable v es) = name v ∷ show_indices es
  show_operand (literal l t) = lit l ∷ show_type t
  show_operand (truth b) = truth_word b ∷ []
  show_operand (parens e) = mark s.OpenParen ∷ show_expression e ++ mark s.CloseParen ∷ []

  -- subscripts or sizes, each in brackets of its own
  pub show_indices : Expressions → List Word
  show_indices no_expression = []
  show_indices (more_expressions e es) = mark s.OpenBracket ∷ show_expression e ++ mark s.CloseBracket ∷ show_indices es

-- how many brackets stand open at once: those of parentheses and of subscripts
abbrev mutual
  pub depth : Expression → ℕ
  depth (alone a) = depth_operand a
  depth (two a d b) = max (depth_operand a) (depth_operand b)
  depth (one m a) = depth_operand a
  depth (convert p a) = depth_operand a
  depth (limit b) = 0
  depth (chain l a b rest) = max (depth_operand a) (max (depth_operand b) (depth_operands rest))

  pub depth_operands : Operands → ℕ
  depth_operands no_operand = 0
  depth_operands (more_operands a rest) = max (depth_operand a) (depth_operands rest)

  pub depth_operand : Operand → ℕ
  depth_operand (variable v es) = depth_indices es
  depth_operand (literal l t) = 0
  depth_operand (truth b) = 0
  depth_operand (parens e) = suc (depth e)

  pub depth_indices : Expressions → ℕ
  depth_indices no_expression = 0
  depth_indices (more_expressions e es) = max (suc (depth e)) (depth_indices es)

-- how many sizes a type has, and how many subscripts a name, at most
abbrev pub dimensions : ℕ
dimensions = 4

abbrev pub count_expressions : Expressions → ℕ
count_expressions no_expression = 0
count_expressions (more_expressions e es) = suc (count_expressions es)

-- no name has more subscripts
abbrev mutual
  pub Narrow : Expression → Type 0
  Narrow (alone a) = NarrowOperand a
  Narrow (two a d b) = NarrowOperand a × NarrowOperand b
  Narrow (one m a) = NarrowOperand a
  Narrow (convert p a) = NarrowOperand a
  Narrow (limit b) = Unit {0}
  Narrow (chain l a b rest) = NarrowOperand a × NarrowOperand b × NarrowOperands rest

  pub NarrowOperands : Operands → Type 0
  NarrowOperands no_operand = Unit {0}
  NarrowOperands (more_operands a rest) = NarrowOperand a × NarrowOperands rest

  pub NarrowOperand : Operand → Type 0
  NarrowOperand (variable v es) = (count_expressions es ≤ dimensions) × NarrowExpressions es
  NarrowOperand (literal l t) = Unit {0}
  NarrowOperand (truth b) = Unit {0}
  NarrowOperand (parens e) = Narrow e

  pub NarrowExpressions : Expressions → Type 0
  NarrowExpressions no_expression = Unit {0}
  NarrowExpressions (more_expressions e es) = Narrow e × NarrowExpressions es
