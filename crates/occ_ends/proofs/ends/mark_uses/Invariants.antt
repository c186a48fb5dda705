use Rattle.std.proofs.Common.{drop}
use Rattle.occ_usage.specs.Noted.{uses_in}
use Rattle.occ_ends.proofs.Marking.{Leaves}
use Rattle.occ_ends.proofs.ends.mark_uses.Given as goal

abbrev pub invariant-loop-one : goal.invariant-loop-one
invariant-loop-one l =
    Leaves l.fn.ends.readers.items (uses_in l.uses).ins l.number l.ends.readers.items (uses_in (drop l.one-index l.uses)).ins
    × Leaves l.fn.ends.writers.items (uses_in l.uses).outs l.number l.ends.writers.items (uses_in (drop l.one-index l.uses)).outs
