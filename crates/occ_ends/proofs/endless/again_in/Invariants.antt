use Rattle.std.proofs.Common.{◌≡◌, length}
use Rattle.occ_ends.specs.Endless.{AgainTo, HeldIn}
use Rattle.occ_ends.proofs.endless.again_in.Given as goal

abbrev pub invariant-loop-number : goal.invariant-loop-number
invariant-loop-number l = (length l.flags.items ≡ l.number) × HeldIn l.code l.tables (λ net. AgainTo l.code.bodies net.tasks l.number l.flags.items)
