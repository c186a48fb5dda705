use Rattle.occ_tree_grammar.specs.Lines.Views.{var_of}
use Rattle.occ_check_meaning.specs.Items.{variable_of}
use Rattle.occ_check_lines.specs.View.{names_in, variable_part}
use Rattle.occ_check_lines.proofs.EachOf.{SoFar}
use Rattle.occ_check_lines.proofs.action.each_variable.Given as goal

abbrev pub invariant-loop-variable : goal.invariant-loop-variable
invariant-loop-variable l = SoFar (variable_of (names_in l.context.scope) l.context.line) var_of variable_part l.variables l.variable-index l.all.items
