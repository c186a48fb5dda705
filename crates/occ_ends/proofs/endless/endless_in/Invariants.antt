use Rattle.std.proofs.Common.{◌≡◌, length}
use Rattle.occ_ends.specs.Endless.{AreFlagged, HeldIn}
use Rattle.occ_ends.proofs.endless.endless_in.Given as goal

abbrev pub invariant-loop-number : goal.invariant-loop-number
invariant-loop-number l = (length l.flags.items ≡ l.count) × HeldIn l.code l.tables (λ net. AreFlagged l.code.bodies net.tasks l.number l.flags.items)
