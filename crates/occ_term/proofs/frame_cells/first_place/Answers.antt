use Rattle.std.proofs.Common.{◌∙◌, sym, ap, Some, arith}
use Rattle.occ_term.proofs.RowsOfCells.{first_holds, no_row, place_nowhere, row_within}
use Rattle.occ_term.proofs.frame_cells.first_place.Goals as goal

pub place_in_row-requires-clause-few : goal.place_in_row-requires-clause-few
place_in_row-requires-clause-few c =
    let within = row_within 0 c.args.rows.now c.loop-row.row-index no_row c.requires.rows c.loop-row-test.true in
    omega (arith, within, c.if-cell-row.true, c.requires.few)

pub returns-then-cell-row : goal.returns-then-cell-row
returns-then-cell-row c =
    ap Some c.place_in_row.ensures
    ∙ sym (first_holds c.args.rows.now c.loop-row.row-index c.args.cell no_row c.requires.rows c.loop-row-test.true c.if-row-cell.true c.if-cell-row.true (λ j h. c.loop-row.invariant j no_row h))

pub returns : goal.returns
returns c = sym (place_nowhere c.args.rows.now c.args.cell no_row (λ j h. c.loop-row.invariant j no_row (omega (arith, h, c.loop-row-test.false))))
