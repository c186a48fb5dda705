use Rattle.std.proofs.Common.{map}
use Rattle.occ_ends.specs.Ends.{noted_for}
use Rattle.occ_ends.proofs.Leaving.{AreWholeTo}
use Rattle.occ_ends.proofs.for_good.are_whole.Given as goal

abbrev pub invariant-loop-process : goal.invariant-loop-process
invariant-loop-process l = AreWholeTo l.flags (map noted_for l.uses) l.process-index
