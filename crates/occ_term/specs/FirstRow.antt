-- How the cells of a frame are kept: as rows, with the first cell of the first row, and how many it has, beside them.
-- Manual: nothing; this is (own).
use Rattle.std.specs.Prelude.{Bool, List, [], ℕ, ◌∷◌, ◌≡◌, ◌<◌, ◌+◌, ◌-◌, ◌^◌}
use Rattle.occ_term.specs.CellRows.{Counted}
use Rattle.occ_term.specs.declared.cell_rows.CellRow.{CellRow}

-- the first row begins with this cell and has so many; none, where there is no row
abbrev pub HasFirstRow : ℕ → ℕ → List CellRow → Type 0
HasFirstRow first beginning [] = beginning ≡ 0
HasFirstRow first beginning (r ∷ rs) = (first ≡ r.first) × (beginning ≡ r.end - r.first)

pub record HeldRows (rows : List CellRow) (rising : Bool) (count first beginning : ℕ) : Type 0 where
  pub counted : Counted rows rising count
  pub begins : HasFirstRow first beginning rows
  -- a number below the first cell, taken round at 2 to the 64, is further from it than the row is long
  pub short : first + beginning < 2 ^ 64
