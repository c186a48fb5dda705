use Rattle.std.specs.List.{All}
use Rattle.std.proofs.Common.{◌≡◌, ◌≤◌, ℕ, length, drop}
use Rattle.occ_term.specs.UnfoldedProgram.{most_cells}
use Rattle.occ_code.specs.Cells.{covers, in_rows}
use Rattle.occ_code.proofs.cells.rows_of.Given as goal

abbrev pub invariant-loop-left : goal.invariant-loop-left
invariant-loop-left l = (l.left ≤ length l.uses) × ((c : ℕ) → in_rows l.rows.items c ≡ covers l.writes_only (drop l.left l.uses) c) × All (λ row. row.end ≤ most_cells) l.rows.items

abbrev pub decreases-loop-left : goal.decreases-loop-left
decreases-loop-left l = l.left
