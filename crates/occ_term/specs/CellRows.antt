-- Cells as rows: what rows stand for, and how they are kept.
-- Manual: nothing; this is (own).
use Rattle.std.specs.Prelude.{Bool, IsTrue, List, None, Option, Some, [], length, suc, true, zero, ℕ, ⊤, ◌^◌, ◌+◌, ◌++◌, ◌-◌, ◌<◌, ◌≤◌, ◌∷◌, ◌≡◌}
use Rattle.std.specs.Option.{option_to_list}
use Rattle.occ_term.specs.Frames.{place_in}
use Rattle.occ_term.specs.declared.cell_rows.CellRow.{CellRow}

-- so many numbers in a row
abbrev pub numbers_from : ℕ → ℕ → List ℕ
numbers_from first zero = []
numbers_from first (suc n) = first ∷ numbers_from (suc first) n

-- the numbers of a row
abbrev pub cells_of : CellRow → List ℕ
cells_of r = numbers_from r.first (r.end - r.first)

-- the numbers of rows, one row after another
abbrev pub cells_in : List CellRow → List ℕ
cells_in [] = []
cells_in (r ∷ rs) = cells_of r ++ cells_in rs

-- ---- how they are kept; no contract of a public call cites what follows

-- the next row doesn't go on where one ends
abbrev pub IsApart : ℕ → List CellRow → Type 0
IsApart end [] = ⊤
IsApart end (r ∷ rs) = r.first ≡ end → ⊥

-- each row has a cell, knows how many stand before it, and is as long as it can be
abbrev pub AreRows : ℕ → List CellRow → Type 0
AreRows before [] = ⊤
AreRows before (r ∷ rs) = (r.place ≡ before) × (r.first < r.end) × (r.end < 2 ^ 64) × IsApart r.end rs × AreRows (before + (r.end - r.first)) rs

-- each row begins where the one before it ends, or later
abbrev pub Rise : ℕ → List CellRow → Type 0
Rise end [] = ⊤
Rise end (r ∷ rs) = (end ≤ r.first) × Rise r.end rs

pub record Kept (rows : List CellRow) (rising : Bool) : Type 0 where
  pub rows_are : AreRows 0 rows
  pub rise : IsTrue rising → Rise 0 rows

pub record Counted (rows : List CellRow) (rising : Bool) (count : ℕ) : Type 0 where
  pub kept : Kept rows rising
  pub count_is : count ≡ length (cells_in rows)
  pub few : count < 2 ^ 64

-- the rows that were closed, and the one that may grow
pub record Gathered (rows : List CellRow) (last : Option CellRow) (rising : Bool) : Type 0 where
  pub kept : Kept (rows ++ option_to_list last) rising
  pub few : length (cells_in (rows ++ option_to_list last)) < 2 ^ 64
  pub begun : last ≡ None → (rows ≡ []) × (rising ≡ true)

-- a row of these holds the cell, and each of its cells stands where it says
pub record StandsIn (rows : List CellRow) (cell : ℕ) (r : CellRow) : Type 0 where
  pub begun : r.first ≤ cell
  pub before_end : cell < r.end
  pub stands : (c : ℕ) → r.first ≤ c → c < r.end → place_in (cells_in rows) c ≡ Some (r.place + (c - r.first))
  pub within : r.place + (r.end - r.first) ≤ length (cells_in rows)
