-- The operands of a chain of AND or of OR.
-- Manual: expressions.
use Rattle.std.specs.Prelude.{List, ℕ}
use Rattle.occ_tree_grammar.specs.declared.tree.expr.Logic.{Logic}
use Rattle.occ_tree_grammar.specs.Many.{many}
use Rattle.occ_tree_grammar.specs.Expressions.Trees.{Operand}
use Rattle.occ_tree_grammar.specs.Expressions.Reading.{Read, after_logic, expression_at, operand_with}

-- up to so many operands behind the first, each after the operator, with so many brackets left
abbrev pub operands_behind : Logic → (left count : ℕ) → Read (List Operand)
operands_behind logic left count = many (after_logic logic) (operand_with (expression_at left)) count
