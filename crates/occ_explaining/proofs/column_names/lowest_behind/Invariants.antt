use Rattle.std.proofs.Common.{◌≡◌, None, length}
use Rattle.occ_explaining.specs.ColumnNames.{lowest_behind}
use Rattle.occ_explaining.proofs.column_names.lowest_behind.Given as goal

abbrev pub invariant-loop-stop : goal.invariant-loop-stop
invariant-loop-stop l = lowest_behind l.line l.found l.rest ≡ lowest_behind l.line None l.fn.stops

abbrev pub decreases-loop-stop : goal.decreases-loop-stop
decreases-loop-stop l = length l.rest
