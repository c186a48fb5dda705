use Rattle.std.proofs.Common.{◌≡◌, [], length}
use Rattle.occ_report.specs.Components.{components_in}
use Rattle.occ_report.proofs.components.components_in.Given as goal

abbrev pub invariant-loop-instruction : goal.invariant-loop-instruction
invariant-loop-instruction l = components_in l.frame l.found.items l.rest ≡ components_in l.frame [] l.fn.code

abbrev pub decreases-loop-instruction : goal.decreases-loop-instruction
decreases-loop-instruction l = length l.rest
