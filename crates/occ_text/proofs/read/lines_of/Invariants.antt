use Rattle.std.proofs.Common.{◌≡◌, ◌≤◌, ◌+◌, length, None}
use Rattle.std.specs.Prelude.{option_map}
use Rattle.std.specs.List.{enumerate_from}
use Rattle.std.specs.Str.Lines.{lines}
use Rattle.occ_text.specs.Faults.{BeginsUpTo}
use Rattle.occ_text.specs.Words.{logical_line_of, logical_lines}
use Rattle.occ_text.specs.Reading.{logical_lines_from}
use Rattle.occ_text.proofs.LineSteps.{after_logical_lines}
use Rattle.occ_text.proofs.read.lines_of.Given as goal

abbrev pub invariant-loop-rest : goal.invariant-loop-rest
invariant-loop-rest l = record {
  so_far : after_logical_lines (logical_lines l.finished.items) (logical_lines_from (option_map logical_line_of l.pending) (enumerate_from (l.number + 1) (lines l.rest))) ≡ logical_lines_from None (enumerate_from 1 (lines l.text));
  small : l.number + length l.rest ≤ length l.text;
  counted : l.number + length (lines l.rest) ≡ length (lines l.text);
  first : BeginsUpTo l.number l.pending;
}

abbrev pub decreases-loop-rest : goal.decreases-loop-rest
decreases-loop-rest l = length l.rest
