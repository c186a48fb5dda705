use Rattle.occ_ends.specs.ForGood.{KeepsClosed}
use Rattle.occ_ends.proofs.for_good.leave_out_all.Given as goal

abbrev pub invariant-loop-number : goal.invariant-loop-number
invariant-loop-number l = KeepsClosed l.uses l.tables l.fn.flags l.flags

abbrev pub invariant-loop-behind : goal.invariant-loop-behind
invariant-loop-behind l = KeepsClosed l.uses l.tables l.fn.flags l.flags
