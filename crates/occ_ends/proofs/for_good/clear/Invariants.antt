use Rattle.std.proofs.Common.{◌≡◌, length}
use Rattle.occ_ends.specs.ForGood.{ClearsWithin}
use Rattle.occ_ends.proofs.for_good.clear.Given as goal

abbrev pub invariant-loop-place : goal.invariant-loop-place
invariant-loop-place l = (length l.flags.items ≡ length l.fn.flags.items) × ClearsWithin l.first l.last l.fn.flags.items l.flags.items
