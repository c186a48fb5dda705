use Rattle.std.proofs.Common.{◌≡◌, take}
use Rattle.occ_term.proofs.frame_cells.FrameCells.new.Given as goal

abbrev pub invariant-loop-cell : goal.invariant-loop-cell
invariant-loop-cell l = l.rows ≡ take l.cell-index l.cells
