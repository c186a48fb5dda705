use Rattle.std.proofs.Common.{◌≡◌, ◌+◌, ◌≤◌, length}
use Rattle.occ_chart.specs.LeftOut.{count_others}
use Rattle.occ_chart.proofs.left_out.count_others.Given as goal

abbrev pub invariant-loop-first : goal.invariant-loop-first
invariant-loop-first l = record {
  within : l.count + length l.rest ≤ length l.fn.left_out;
  counted : l.count + count_others l.rest ≡ count_others l.fn.left_out;
}

abbrev pub decreases-loop-first : goal.decreases-loop-first
decreases-loop-first l = length l.rest
