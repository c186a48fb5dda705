use Rattle.std.proofs.Common.{◌≡◌, map, take}
use Rattle.occ_term.specs.CellRows.{cells_in}
use Rattle.occ_term.specs.Frames.{at}
use Rattle.occ_term.proofs.frame.values_of.Given as goal

abbrev pub invariant-loop-row : goal.invariant-loop-row
invariant-loop-row l = l.values.items ≡ map (at l.from) (cells_in (take l.row-index l.row-items))
