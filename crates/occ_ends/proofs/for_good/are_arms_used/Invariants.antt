use Rattle.std.proofs.Common.{◌≡◌, length, map}
use Rattle.occ_ends.specs.Ends.{noted_for}
use Rattle.occ_ends.specs.ForGood.{arms_used}
use Rattle.occ_ends.proofs.for_good.are_arms_used.Given as goal

abbrev pub invariant-loop-arm : goal.invariant-loop-arm
invariant-loop-arm l = arms_used (map noted_for l.uses) l.flags l.rest ≡ arms_used (map noted_for l.uses) l.flags l.arms

abbrev pub decreases-loop-arm : goal.decreases-loop-arm
decreases-loop-arm l = length l.rest
