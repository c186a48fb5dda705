use Rattle.std.proofs.Common.{◌≡◌, ◌++◌, length}
use Rattle.occ_shown.specs.Answers.{names_of}
use Rattle.occ_report.specs.Steps.{arm_channels}
use Rattle.occ_report.proofs.stops.write_arms.Given as goal

abbrev pub invariant-loop-arm : goal.invariant-loop-arm
invariant-loop-arm l = l.out.items ++ arm_channels (names_of l.channels) l.rest ≡ l.fn.out.items ++ arm_channels (names_of l.channels) l.fn.arms

abbrev pub decreases-loop-arm : goal.decreases-loop-arm
decreases-loop-arm l = length l.rest
