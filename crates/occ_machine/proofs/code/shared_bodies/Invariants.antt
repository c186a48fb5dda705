use Rattle.std.proofs.Common.{◌≡◌, map, take}
use Rattle.std.specs.Arc.{arc_value}
use Rattle.occ_machine.proofs.code.shared_bodies.Given as goal

abbrev pub invariant-loop-body : goal.invariant-loop-body
invariant-loop-body l = map arc_value l.shared.items ≡ map arc_value (take l.body-index l.bodies)
