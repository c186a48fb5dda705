use Rattle.std.proofs.Common.{ℕ, ◌<◌, ◌≤◌, ◌-◌, length, get_or}
use Rattle.occ_term.specs.declared.cell_rows.CellRow.{CellRow}
use Rattle.occ_term.proofs.frame_cells.row_by_halves.Given as goal

abbrev pub invariant-loop-low : goal.invariant-loop-low
invariant-loop-low l = record {
  within : l.high ≤ length l.rows;
  below : (k : ℕ) (d : CellRow) → k < l.low → (get_or l.rows k d).end ≤ l.cell;
  above : (k : ℕ) (d : CellRow) → l.high ≤ k → k < length l.rows → l.cell < (get_or l.rows k d).first;
}

abbrev pub decreases-loop-low : goal.decreases-loop-low
decreases-loop-low l = l.high - l.low
