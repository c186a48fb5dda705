use Rattle.occ_code.specs.Cells.{Gathered}
use Rattle.occ_code.proofs.cells.cells_among.Given as goal

abbrev pub invariant-loop-row : goal.invariant-loop-row
invariant-loop-row l = Gathered l.rows l.row-index l.cells l.reached
