-- The children of an expression are those of its vectors.
use Rattle.std.proofs.Common.{◌≡◌, List, refl, ap, map, ◌∙◌, Vec, Global}
use Rattle.occ_tree_grammar.specs.declared.tree.expr.Expr.{Expr, Row_of-Operand, end_of-Operand, more_of-Operand, items-the_row-Operand, items_hidden-the_row-Operand-0}
use Rattle.occ_tree_grammar.specs.declared.tree.expr.Expr.TheBlock.{hidden-the_row-Operand-0, hidden-the_row-Expr-1}
use Rattle.occ_tree_grammar.specs.declared.tree.expr.Operand.{Operand as OperandTree, Row_of-Expr, end_of-Expr, more_of-Expr, items-the_row-Expr, items_hidden-the_row-Expr-1}
use Rattle.occ_tree_grammar.specs.Expressions.Trees.{more_operands, more_expressions, expression_of, operand_of, held_operands, held_expressions, operands, expressions}

pub held_operands_are : {m : _} (k : Row_of-Operand m) → held_operands k ≡ operands (map operand_of (items-the_row-Operand m k))
held_operands_are end_of-Operand = refl
held_operands_are (more_of-Operand a k) = ap (more_operands (operand_of a)) (held_operands_are k)

pub held_expressions_are : {m : _} (k : Row_of-Expr m) → held_expressions k ≡ expressions (map expression_of (items-the_row-Expr m k))
held_expressions_are end_of-Expr = refl
held_expressions_are (more_of-Expr e k) = ap (more_expressions (expression_of e)) (held_expressions_are k)

pub operands_made : (v : Vec OperandTree Global) → held_operands (hidden-the_row-Operand-0 v) ≡ operands (map operand_of v.items)
operands_made v = held_operands_are (hidden-the_row-Operand-0 v) ∙ ap (λ (xs : List OperandTree). operands (map operand_of xs)) (items_hidden-the_row-Operand-0 v)

pub expressions_made : (v : Vec Expr Global) → held_expressions (hidden-the_row-Expr-1 v) ≡ expressions (map expression_of v.items)
expressions_made v = held_expressions_are (hidden-the_row-Expr-1 v) ∙ ap (λ (xs : List Expr). expressions (map expression_of xs)) (items_hidden-the_row-Expr-1 v)
