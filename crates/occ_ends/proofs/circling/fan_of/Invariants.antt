use Rattle.std.proofs.Common.{◌≡◌, ◌++◌, length}
use Rattle.occ_ends.specs.Ends.{edges_to}
use Rattle.occ_ends.proofs.circling.fan_of.Given as goal

abbrev pub invariant-loop-other : goal.invariant-loop-other
invariant-loop-other l = l.fan.items ++ edges_to l.number l.rest l.below ≡ edges_to l.number l.fn.others l.below

abbrev pub decreases-loop-other : goal.decreases-loop-other
decreases-loop-other l = length l.rest
