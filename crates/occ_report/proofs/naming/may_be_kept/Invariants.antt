use Rattle.std.proofs.Common.{◌≡◌, length}
use Rattle.occ_text.specs.Words.{logical_lines}
use Rattle.occ_report.specs.Naming.{may_be_kept}
use Rattle.occ_report.proofs.naming.may_be_kept.Given as goal

abbrev pub invariant-loop-number : goal.invariant-loop-number
invariant-loop-number l = may_be_kept (logical_lines l.lines) l.calls l.own l.rest ≡ may_be_kept (logical_lines l.lines) l.calls l.own l.fn.numbers

abbrev pub decreases-loop-number : goal.decreases-loop-number
decreases-loop-number l = length l.rest
