use Rattle.occ_tree_grammar.specs.Expressions.Trees.{expression_of}
use Rattle.occ_term.specs.View.{item_of}
use Rattle.occ_check_lines.specs.Action.{side_assigned}
use Rattle.occ_check_lines.specs.View.{names_in}
use Rattle.occ_check_lines.proofs.Zipping.{Zipping}
use Rattle.occ_check_lines.proofs.action.each_side.Given as goal

abbrev pub invariant-loop-variable : goal.invariant-loop-variable
invariant-loop-variable l = Zipping (side_assigned (names_in l.context.scope) l.context.line) expression_of item_of l.variables l.variable-index l.values l.left l.made
