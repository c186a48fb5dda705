use Rattle.std.proofs.Common.{◌≡◌, length}
use Rattle.occ_text.specs.Words.{logical_lines}
use Rattle.occ_report.specs.Formals.{line_words}
use Rattle.occ_report.proofs.formals.line_words.Given as goal

abbrev pub invariant-loop-lines : goal.invariant-loop-lines
invariant-loop-lines l = line_words (logical_lines l.lines) l.number ≡ line_words (logical_lines l.initial.lines) l.number

abbrev pub decreases-loop-lines : goal.decreases-loop-lines
decreases-loop-lines l = length l.lines
