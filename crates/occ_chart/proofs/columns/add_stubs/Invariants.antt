use Rattle.std.proofs.Common.{◌≡◌, length}
use Rattle.occ_chart.specs.Columns.{with_standing}
use Rattle.occ_chart.proofs.columns.add_stubs.Given as goal

abbrev pub invariant-loop-first : goal.invariant-loop-first
invariant-loop-first l = with_standing l.columns.items l.rest ≡ with_standing l.fn.columns.items l.fn.stubs

abbrev pub decreases-loop-first : goal.decreases-loop-first
decreases-loop-first l = length l.rest
