use Rattle.std.proofs.Common.{◌≡◌, map}
use Rattle.occ_term.specs.View.{targets_of}
use Rattle.occ_check_meaning.specs.Items.{as_target}
use Rattle.occ_check_lines.specs.View.{variable_part}
use Rattle.occ_check_lines.proofs.action.targets_of.Given as goal

abbrev pub invariant-loop-part : goal.invariant-loop-part
invariant-loop-part l = targets_of l.targets ≡ map (as_target l.line) (map variable_part l.yielded)
