use Rattle.std.proofs.Common.{◌≡◌, ◌≤◌, length, drop}
use Rattle.occ_code.specs.Cells.{furthest}
use Rattle.occ_code.proofs.cells.furthest_end.Given as goal

abbrev pub invariant-loop-left : goal.invariant-loop-left
invariant-loop-left l = (l.left ≤ length l.uses) × (l.end ≡ furthest l.writes_only (drop l.left l.uses))

abbrev pub decreases-loop-left : goal.decreases-loop-left
decreases-loop-left l = l.left
