use Rattle.occ_ends.specs.ForGood.{KeepsWhole}
use Rattle.occ_ends.proofs.for_good.leave_out_insides.Given as goal

abbrev pub invariant-loop-process : goal.invariant-loop-process
invariant-loop-process l = KeepsWhole l.uses l.fn.flags l.flags
