use Rattle.std.proofs.Common.{length}
use Rattle.occ_ends.proofs.Flagging.{Flagging}
use Rattle.occ_ends.proofs.endless.flag_branches.Given as goal

abbrev pub invariant-loop-branch : goal.invariant-loop-branch
invariant-loop-branch l = Flagging l.fn.branches l.number l.fn.flags.items l.rest l.flags.items

abbrev pub decreases-loop-branch : goal.decreases-loop-branch
decreases-loop-branch l = length l.rest
