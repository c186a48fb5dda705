-- A frame that begins with another's values, and values in a row.
-- Manual: nothing; this is (own).
use Rattle.std.specs.Prelude.{List, drop, length, map, replicate, take, ℕ, ℤ, ◌+◌, ◌≡◌, ◌≤◌}
use Rattle.occ_term.specs.Frames.{Variables, at}

-- a cell has another value
-- of these cells, with the values that another one has of them
abbrev pub copied_frame : List ℕ → ℕ → Variables → Variables
copied_frame cells loops from = record { cells = cells; values = map (at from) cells; left = replicate loops 0 }

-- so many values from a place on, which are all there
abbrev pub IsRowOf : List ℤ → (place count : ℕ) → List ℤ → Type 0
IsRowOf values place count row = (row ≡ take count (drop place values)) × (place + count ≤ length values)
