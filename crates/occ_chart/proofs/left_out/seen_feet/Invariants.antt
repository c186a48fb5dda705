use Rattle.std.proofs.Common.{◌≡◌, ◌++◌, length}
use Rattle.occ_chart.specs.LeftOut.{seen_feet}
use Rattle.occ_chart.proofs.left_out.seen_feet.Given as goal

abbrev pub invariant-loop-first : goal.invariant-loop-first
invariant-loop-first l = l.seen.items ++ seen_feet l.left_out l.rest ≡ seen_feet l.left_out l.fn.stubs

abbrev pub decreases-loop-first : goal.decreases-loop-first
decreases-loop-first l = length l.rest
