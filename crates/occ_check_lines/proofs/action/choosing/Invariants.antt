use Rattle.occ_check_lines.specs.Action.{chosen_of}
use Rattle.occ_check_lines.proofs.CaseConstants.{Going}
use Rattle.occ_check_lines.proofs.action.choosing.Given as goal

abbrev pub invariant-loop-constant : goal.invariant-loop-constant
invariant-loop-constant l = Going l.constants l.constant-index (chosen_of l.initial.chosen) (chosen_of l.chosen)
