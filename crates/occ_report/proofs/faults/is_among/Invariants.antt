use Rattle.std.proofs.Common.{◌≡◌, length}
use Rattle.occ_report.specs.Evaluating.{is_among}
use Rattle.occ_report.proofs.faults.is_among.Given as goal

abbrev pub invariant-loop-first : goal.invariant-loop-first
invariant-loop-first l = is_among l.place l.rest ≡ is_among l.place l.fn.places

abbrev pub decreases-loop-first : goal.decreases-loop-first
decreases-loop-first l = length l.rest
