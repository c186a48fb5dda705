use Rattle.std.proofs.Common.{◌≡◌, ◌++◌, length}
use Rattle.occ_ends.specs.Ends.{arm_writers, end_noted}
use Rattle.occ_ends.proofs.circling.arm_writers.Given as goal

abbrev pub invariant-loop-arm : goal.invariant-loop-arm
invariant-loop-arm l = l.others.items ++ arm_writers (end_noted l.writers) l.rest ≡ arm_writers (end_noted l.writers) l.fn.arms

abbrev pub decreases-loop-arm : goal.decreases-loop-arm
decreases-loop-arm l = length l.rest
