-- A cell of the first row stands as far from the beginning as it stands behind the row's first cell.
use Rattle.std.proofs.Common.{◌≡◌, ◌∙◌, ap, ℕ, ◌+◌, ◌-◌, ◌<◌, ◌≤◌, Some, List, [], ◌∷◌, arith}
use Rattle.occ_term.specs.Frames.{place_in}
use Rattle.occ_term.specs.CellRows.{AreRows, cells_in}
use Rattle.occ_term.specs.FirstRow.{HasFirstRow}
use Rattle.occ_term.specs.declared.cell_rows.CellRow.{CellRow}
use Rattle.occ_term.proofs.RowsOfCells.{first_holds, no_row}

pub in_first_row : (rows : List CellRow) (first beginning c : ℕ) → HasFirstRow first beginning rows → AreRows 0 rows → first ≤ c → c - first < beginning → place_in (cells_in rows) c ≡ Some (c - first)
in_first_row [] first beginning c begins h low high = absurd (omega (arith, begins, high))
in_first_row (r ∷ rs) first beginning c begins h low high =
    let from : r.first ≤ c = omega (arith, begins.0, low) in
    let short : c < r.end = omega (arith, begins.0, begins.1, low, high) in
    let place : r.place + (c - r.first) ≡ c - first = omega (arith, h.0, begins.0) in
    first_holds (r ∷ rs) 0 c no_row h (omega (arith)) from short (λ j k. absurd (omega (arith, k))) ∙ ap Some place
