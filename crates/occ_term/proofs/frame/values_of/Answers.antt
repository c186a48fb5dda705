use Rattle.occ_term.specs.Frames.{at}
use Rattle.occ_term.proofs.FrameRows.{row_more}
use Rattle.occ_term.proofs.RowsOfCells.{no_row}
use Rattle.occ_term.proofs.frame.values_of.Goals as goal

pub loop-row-preserved : goal.loop-row-preserved
loop-row-preserved c =
    row_more c.rows-row-items.result.now c.loop-row.row-index no_row (at c.args.from.now) c.loop-row.values.items c.add_values.new.values.items c.loop-row-test.true c.loop-row.invariant c.in_ok-add_values.ensures
