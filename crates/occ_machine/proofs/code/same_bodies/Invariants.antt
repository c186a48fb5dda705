use Rattle.std.proofs.Common.{◌≡◌, map, take}
use Rattle.std.specs.Arc.{arc_value}
use Rattle.occ_machine.proofs.code.same_bodies.Given as goal

abbrev pub invariant-loop-i : goal.invariant-loop-i
invariant-loop-i l = map arc_value (take l.i l.bodies) ≡ map arc_value (take l.i l.others)
