use Rattle.std.proofs.Common.{◌+◌, ◌-◌, ◌/◌, ◌<◌, refl, length, arith}
use Rattle.occ_term.proofs.RowsOfCells.{above_next, below_next, no_row, none_holds, stands}
use Rattle.occ_term.proofs.frame_cells.row_by_halves.Goals as goal

pub loop-low-preserved-then-row-cell : goal.loop-low-preserved-then-row-cell
loop-low-preserved-then-row-cell c =
    let within : c.loop-low.low + (c.loop-low.high - c.loop-low.low) / 2 < length c.args.rows.now = omega (arith, c.loop-low.invariant.within, c.loop-low-test.true) in
    record {
      within = c.loop-low.invariant.within;
      below = below_next c.args.rows.now (c.loop-low.low + (c.loop-low.high - c.loop-low.low) / 2) c.args.cell c.requires.rows c.requires.rise within c.if-row-cell.true;
      above = c.loop-low.invariant.above;
    }

pub loop-low-preserved : goal.loop-low-preserved
loop-low-preserved c =
    let within : c.loop-low.low + (c.loop-low.high - c.loop-low.low) / 2 < length c.args.rows.now = omega (arith, c.loop-low.invariant.within, c.loop-low-test.true) in
    record {
      within = omega (arith, within);
      below = c.loop-low.invariant.below;
      above = above_next c.args.rows.now (c.loop-low.low + (c.loop-low.high - c.loop-low.low) / 2) c.args.cell c.requires.rows c.requires.rise within c.if-cell-row.true;
    }

pub returns-else-cell-row-clause-some : goal.returns-else-cell-row-clause-some
returns-else-cell-row-clause-some c =
    let within : c.loop-low.low + (c.loop-low.high - c.loop-low.low) / 2 < length c.args.rows.now = omega (arith, c.loop-low.invariant.within, c.loop-low-test.true) in
    stands c.args.rows.now (c.loop-low.low + (c.loop-low.high - c.loop-low.low) / 2) c.args.cell no_row _ c.requires.rows c.requires.rise within refl c.if-cell-row.false c.if-row-cell.false

pub returns-clause-none : goal.returns-clause-none
returns-clause-none c =
    none_holds c.args.rows.now c.args.cell c.loop-low.low c.loop-low.high no_row c.loop-low-test.false (λ k h. c.loop-low.invariant.below k no_row h) (λ k h w. c.loop-low.invariant.above k no_row h w)
