use Rattle.std.proofs.Common.{◌≡◌, length}
use Rattle.occ_text.specs.Words.{logical_lines}
use Rattle.occ_report.specs.Formals.{declares_between}
use Rattle.occ_report.proofs.formals.declares_between.Given as goal

abbrev pub invariant-loop-lines : goal.invariant-loop-lines
invariant-loop-lines l = declares_between l.first l.last l.own (logical_lines l.lines) ≡ declares_between l.first l.last l.own (logical_lines l.initial.lines)

abbrev pub decreases-loop-lines : goal.decreases-loop-lines
decreases-loop-lines l = length l.lines
