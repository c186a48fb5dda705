use Rattle.std.proofs.Common.{ℕ, ◌<◌, ◌≤◌, get_or}
use Rattle.occ_term.specs.declared.cell_rows.CellRow.{CellRow}
use Rattle.occ_term.proofs.frame_cells.first_place.Given as goal

abbrev pub invariant-loop-row : goal.invariant-loop-row
invariant-loop-row l = (k : ℕ) (d : CellRow) → k < l.row-index → (get_or l.rows k d).first ≤ l.cell → l.cell < (get_or l.rows k d).end → ⊥
