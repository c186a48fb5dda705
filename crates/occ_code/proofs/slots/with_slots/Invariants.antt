use Rattle.std.proofs.Common.{◌≡◌, ◌++◌, vec_len}
use Rattle.std.specs.Prelude.{map}
use Rattle.occ_machine.specs.Machine.{placed}
use Rattle.occ_code.specs.Emits.{emitted}
use Rattle.occ_code.proofs.slots.with_slots.Given as goal

abbrev pub invariant-forwards : goal.invariant-forwards
invariant-forwards l = l.body.items ++ map (placed l.cells) (emitted l.left.items) ≡ map (placed l.cells) (emitted l.fn.code.items)

abbrev pub decreases-forwards : goal.decreases-forwards
decreases-forwards l = vec_len l.left
