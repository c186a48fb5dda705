use Rattle.std.proofs.Common.{◌≡◌, false, length}
use Rattle.occ_text.specs.Words.{words}
use Rattle.occ_report.specs.Formals.{actual_for}
use Rattle.occ_report.proofs.formals.actual_for.Given as goal

abbrev pub invariant-loop-rest : goal.invariant-loop-rest
invariant-loop-rest l = actual_for l.own l.value (words l.rest) (words l.left) ≡ actual_for l.own false (words l.formals) (words l.actuals)

abbrev pub decreases-loop-rest : goal.decreases-loop-rest
decreases-loop-rest l = length l.rest
