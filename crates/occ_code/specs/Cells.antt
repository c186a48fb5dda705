-- The cells of a process, from the uses of its term.
-- Manual: nothing; this is (own).
use Rattle.std.specs.Prelude.{Bool, IsTrue, List, [], false, if◌then◌else◌, length, max, nat_lt, not, slice_index_or, take, true, ℕ, ◌&&◌, ◌++◌, ◌<◌, ◌≤◌, ◌||◌, ◌∷◌, ◌≡◌}
use Rattle.std.specs.List.{list_any}
use Rattle.occ_term.specs.UnfoldedProgram.{most_cells}
use Rattle.occ_code.specs.declared.cells.Row.{Row}
use Rattle.occ_term.specs.Uses.{Numbers, Uses}
use Rattle.occ_usage.specs.Noted.{between}
use Rattle.occ_term.specs.Frames.{is_held}
use Rattle.occ_usage.specs.declared.noted.Use.{Use}
use Rattle.occ_usage.specs.declared.noted.Kind.{Kind}
use Rattle.occ_usage.specs.declared.noted.Kind.TheVariants.{Read, Write, Input, Output}
use Rattle.occ_code.specs.Within.{AreWithin}
use Rattle.occ_machine.specs.SameStop.{IsRising, Lists, used_by}

-- what is written, or what is read as well
abbrev pub is_counted : Bool → Kind → Bool
is_counted writes_only Read = not writes_only
is_counted writes_only Write = true
is_counted writes_only Input = false
is_counted writes_only Output = false

abbrev pub counted : Bool → Uses → Numbers
counted true u = u.writes
counted false u = used_by u

abbrev pub covers : Bool → List Use → Numbers
covers writes_only [] c = false
covers writes_only (u ∷ us) c = (is_counted writes_only u.kind && between u.first u.end c) || covers writes_only us c

-- the end of a use that is counted and has a number
abbrev pub end_of : Bool → Use → ℕ
end_of writes_only u = if is_counted writes_only u.kind && nat_lt u.first u.end then u.end else 0

-- the furthest of them
abbrev pub furthest : Bool → List Use → ℕ
furthest writes_only [] = 0
furthest writes_only (u ∷ us) = max (end_of writes_only u) (furthest writes_only us)

abbrev pub in_rows : List Row → Numbers
in_rows rows c = list_any (λ row. between row.first row.end c) rows

-- a row more for a use that is counted and has a number
abbrev pub AddsRow : Bool → Use → List Row → List Row → Type 0
AddsRow writes_only u before after = after ≡ (if is_counted writes_only u.kind && nat_lt u.first u.end then before ++ record { first = u.first; end = u.end } ∷ [] else before)

-- the first rows are gathered: their numbers rise, each once, and reach to their furthest end
pub record Gathered (rows : List Row) (count : ℕ) (xs : List ℕ) (reached : ℕ) : Type 0 where
  pub rising : IsRising xs
  pub members : (c : ℕ) → is_held xs c ≡ in_rows (take count rows) c
  pub below : (c : ℕ) → IsTrue (is_held xs c) → c < reached
  pub full : (c : ℕ) → ((j : ℕ) (d : Row) → j < count → (slice_index_or rows j d).first ≤ c) → c < reached → IsTrue (is_held xs c)
  pub few : length xs ≤ reached
  pub within : reached ≤ most_cells

-- the list of these cells, where none is past the limit
abbrev pub ListsWithin : Numbers → List ℕ → Type 0
ListsWithin cells xs = AreWithin cells → Lists xs cells
