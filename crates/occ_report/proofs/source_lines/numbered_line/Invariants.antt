use Rattle.std.proofs.Common.{◌≡◌, length}
use Rattle.std.specs.Str.Lines.{lines}
use Rattle.occ_report.specs.Written.{numbered_line, nth_line}
use Rattle.occ_report.proofs.source_lines.numbered_line.Given as goal

abbrev pub invariant-loop-rest : goal.invariant-loop-rest
invariant-loop-rest l = nth_line (lines l.rest) l.before ≡ numbered_line l.fn.source l.fn.number

abbrev pub decreases-loop-rest : goal.decreases-loop-rest
decreases-loop-rest l = length l.rest
