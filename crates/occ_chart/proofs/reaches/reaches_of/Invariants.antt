use Rattle.std.proofs.Common.{◌≡◌, ◌++◌, length}
use Rattle.occ_chart.specs.Places.{reaches_of}
use Rattle.occ_chart.proofs.reaches.reaches_of.Given as goal

abbrev pub invariant-loop-first : goal.invariant-loop-first
invariant-loop-first l = l.reaches.items ++ reaches_of l.columns l.rest ≡ reaches_of l.columns l.fn.shown

abbrev pub decreases-loop-first : goal.decreases-loop-first
decreases-loop-first l = length l.rest
