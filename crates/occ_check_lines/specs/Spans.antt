-- The spans of the code, as the definitions have them.
-- Manual: nothing; this is (own).
use Rattle.std.specs.Prelude.{List, map, ℕ}
use Rattle.occ_term.specs.Messages.{product}
use Rattle.occ_term.specs.Terms.{Expression}
use Rattle.occ_term.specs.Uses.{part_named}
use Rattle.occ_term.specs.Values as Values
use Rattle.occ_term.specs.View.{subscripts}
use Rattle.occ_check_lines.specs.declared.span.Span.{Span}

abbrev pub span_of : Span → Values.Span
span_of s = Values.span s.first s.count

-- the cells of an array from its first on, and those of them that subscripts name
abbrev pub all_cells : ℕ → List ℕ → Values.Span
all_cells first sizes = Values.span first (product sizes)

abbrev pub cells_under : {X : Type 0} → (X → Expression) → List X → ℕ → List ℕ → Values.Span → Values.Span
cells_under expression under first sizes cells = part_named (subscripts (map expression under)) first sizes cells
