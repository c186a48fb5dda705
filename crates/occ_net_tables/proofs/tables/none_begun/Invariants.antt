use Rattle.std.proofs.Common.{◌≡◌, None, replicate}
use Rattle.occ_net_tables.proofs.tables.none_begun.Given as goal

abbrev pub invariant-loop-slot : goal.invariant-loop-slot
invariant-loop-slot l = l.tasks.items ≡ replicate l._slot None
