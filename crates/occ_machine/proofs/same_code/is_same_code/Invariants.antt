use Rattle.std.proofs.Common.{◌≡◌, take}
use Rattle.occ_machine.proofs.same_code.is_same_code.Given as goal

abbrev pub invariant-loop-i : goal.invariant-loop-i
invariant-loop-i l = take l.i l.code ≡ take l.i l.others
