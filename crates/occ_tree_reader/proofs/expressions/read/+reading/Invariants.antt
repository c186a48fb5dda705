use Rattle.std.proofs.Common.{length, ◌+◌, ◌*◌, map}
use Rattle.occ_text.specs.Words.{Word, words}
use Rattle.occ_tree_grammar.specs.Many.{many}
use Rattle.occ_tree_grammar.specs.Expressions.Trees.{Operand, Expression, operand_of, expression_of}
use Rattle.occ_tree_grammar.specs.Expressions.Reading.{after_open_bracket, after_logic, index_with, indices_with, operand_with, expression_at}
use Rattle.occ_tree_grammar.specs.Expressions.Shown.{dimensions}
use Rattle.occ_tree_reader.proofs.ManyLoop.{SoFar}
use Rattle.occ_tree_reader.proofs.expressions.read.+reading.Given as goal

abbrev pub decreases-expr : goal.decreases-expr
decreases-expr l = 7 * l.left

abbrev pub decreases-indices : goal.decreases-indices
decreases-indices l = 7 * l.left + 2

abbrev pub decreases-operand : goal.decreases-operand
decreases-operand l = 7 * l.left + 3

abbrev pub decreases-operands : goal.decreases-operands
decreases-operands l = 7 * l.left + 4

abbrev pub decreases-linked : goal.decreases-linked
decreases-linked l = 7 * l.left + 5

abbrev pub decreases-inside : goal.decreases-inside
decreases-inside l = 7 * l.left + 6

abbrev pub decreases-index : goal.decreases-index
decreases-index l = 7 * l.left + 1

abbrev pub invariant-operands-loop : goal.invariant-operands-loop
invariant-operands-loop l = SoFar Word Operand (after_logic l.logic) (operand_with (expression_at l.left)) (map operand_of l.all.items) (length l.tokens) l.counter (words l.rest) (many (after_logic l.logic) (operand_with (expression_at l.left)) (length l.tokens) (words l.tokens))

abbrev pub invariant-indices-loop : goal.invariant-indices-loop
invariant-indices-loop l = SoFar Word Expression after_open_bracket (index_with (expression_at l.left)) (map expression_of l.all.items) dimensions l.counter (words l.rest) (indices_with (expression_at l.left) (words l.tokens))
