use Rattle.std.proofs.Common.{◌≡◌, take}
use Rattle.occ_machine.proofs.task.same_arms.Given as goal

abbrev pub invariant-loop-i : goal.invariant-loop-i
invariant-loop-i l = take l.i l.arms ≡ take l.i l.others
