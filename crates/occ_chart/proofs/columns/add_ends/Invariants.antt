use Rattle.std.proofs.Common.{◌≡◌, length}
use Rattle.occ_chart.specs.Columns.{with_ends}
use Rattle.occ_chart.proofs.columns.add_ends.Given as goal

abbrev pub invariant-loop-first : goal.invariant-loop-first
invariant-loop-first l = with_ends l.columns.items l.rest ≡ with_ends l.fn.columns.items l.fn.shown

abbrev pub decreases-loop-first : goal.decreases-loop-first
decreases-loop-first l = length l.rest
