use Rattle.occ_check_lines.specs.View.{names_in}
use Rattle.occ_check_lines.proofs.Expressions.{Chained, Subscripted}
use Rattle.occ_check_lines.proofs.expression.+typing.Given as goal

abbrev pub invariant-typed_chain-loop-operand : goal.invariant-typed_chain-loop-operand
invariant-typed_chain-loop-operand l = Chained (names_in l.context.scope) l.context.line l.logic l.operands l.operand-index l.fn.first l.left

abbrev pub invariant-typed_subscripts-loop-e : goal.invariant-typed_subscripts-loop-e
invariant-typed_subscripts-loop-e l = Subscripted (names_in l.context.scope) l.context.line l.es l.e-index l.made
