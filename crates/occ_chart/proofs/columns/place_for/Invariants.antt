use Rattle.std.proofs.Common.{◌≡◌, ◌+◌, drop}
use Rattle.occ_chart.specs.Columns.{place_for}
use Rattle.occ_chart.proofs.columns.place_for.Given as goal

abbrev pub invariant-loop-i : goal.invariant-loop-i
invariant-loop-i l = place_for l.end l.columns ≡ place_for l.end (drop l.i l.columns) + l.i
