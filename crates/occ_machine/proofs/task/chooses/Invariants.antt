use Rattle.std.proofs.Common.{◌≡◌, take}
use Rattle.occ_machine.proofs.task.chooses.Given as goal

abbrev pub invariant-loop-arm : goal.invariant-loop-arm
invariant-loop-arm l = l.copies ≡ take l.arm-index l.arms
