use Rattle.std.proofs.Common.{◌≡◌, ◌++◌, map}
use Rattle.occ_term.specs.CellRows.{numbers_from}
use Rattle.occ_term.specs.Frames.{at}
use Rattle.occ_term.proofs.frame.add_each.Given as goal

abbrev pub invariant-loop-i : goal.invariant-loop-i
invariant-loop-i l = l.values.items ≡ l.initial.values.items ++ map (at l.from) (numbers_from l.row.first l.i)
