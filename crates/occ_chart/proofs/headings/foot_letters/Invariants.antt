use Rattle.std.proofs.Common.{◌≡◌, length}
use Rattle.occ_chart.specs.Heads.{foot_letters}
use Rattle.occ_chart.proofs.headings.foot_letters.Given as goal

abbrev pub invariant-loop-first : goal.invariant-loop-first
invariant-loop-first l = foot_letters l.rest l.end ≡ foot_letters l.fn.stubs l.end

abbrev pub decreases-loop-first : goal.decreases-loop-first
decreases-loop-first l = length l.rest
