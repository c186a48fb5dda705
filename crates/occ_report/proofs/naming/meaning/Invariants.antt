use Rattle.std.proofs.Common.{◌≡◌, length}
use Rattle.occ_text.specs.Words.{logical_lines}
use Rattle.occ_report.specs.Formals.{stands_for}
use Rattle.occ_report.specs.Naming.{means}
use Rattle.occ_report.proofs.naming.meaning.Given as goal

abbrev pub invariant-loop-number : goal.invariant-loop-number
invariant-loop-number l = stands_for (logical_lines l.naming.lines.now) l.naming.calls.now l.rest (l.line, l.text.items) ≡ means l.naming l.fn.name

abbrev pub decreases-loop-number : goal.decreases-loop-number
decreases-loop-number l = length l.rest
