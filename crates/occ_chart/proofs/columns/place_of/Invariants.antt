use Rattle.std.proofs.Common.{◌≡◌, ◌+◌, drop}
use Rattle.occ_chart.specs.Columns.{column_of}
use Rattle.occ_chart.proofs.columns.place_of.Given as goal

abbrev pub invariant-loop-i : goal.invariant-loop-i
invariant-loop-i l = column_of l.end l.columns ≡ column_of l.end (drop l.i l.columns) + l.i
