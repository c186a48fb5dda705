use Rattle.std.proofs.Common.{◌≡◌, length}
use Rattle.occ_report.specs.Written.{behind_guard}
use Rattle.occ_report.proofs.source_lines.behind_guard.Given as goal

abbrev pub invariant-loop-rest : goal.invariant-loop-rest
invariant-loop-rest l = behind_guard l.fn.line l.rest ≡ behind_guard l.fn.line l.fn.line

abbrev pub decreases-loop-rest : goal.decreases-loop-rest
decreases-loop-rest l = length l.rest
