use Rattle.occ_term.proofs.RowsOfCells.{got_first, no_row, stands}
use Rattle.occ_term.proofs.frame_cells.row_among_rising.Goals as goal

pub returns-then-cell-row-clause-some : goal.returns-then-cell-row-clause-some
returns-then-cell-row-clause-some c =
    let got = got_first c.args.rows.now c.in-Some.row.now c.in-Some.ensures.value in
    stands c.args.rows.now 0 c.args.cell no_row c.in-Some.row.now c.requires.rows c.requires.rise got.0 got.1 c.if-row-cell.true c.if-cell-row.true
