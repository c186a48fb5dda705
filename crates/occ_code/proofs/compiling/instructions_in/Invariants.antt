use Rattle.std.proofs.Common.{◌≡◌, ◌≤◌, length, drop, map}
use Rattle.std.specs.Prelude.{min}
use Rattle.std.specs.Arc.{arc_value}
use Rattle.occ_machine.specs.Compiled.{instructions_in}
use Rattle.occ_code.proofs.compiling.instructions_in.Given as goal

abbrev pub invariant-loop-count : goal.invariant-loop-count
invariant-loop-count l = (l.count ≤ length l.bodies) × (l.all ≡ min (instructions_in (map arc_value (drop l.count l.bodies))) 18446744073709551615)

abbrev pub decreases-loop-count : goal.decreases-loop-count
decreases-loop-count l = l.count
