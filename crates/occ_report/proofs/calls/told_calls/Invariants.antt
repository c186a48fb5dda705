use Rattle.std.proofs.Common.{length}
use Rattle.std.specs.List.{All}
use Rattle.occ_text.specs.Words.{logical_lines}
use Rattle.occ_report.specs.Calls.{IsCallIn}
use Rattle.occ_report.proofs.calls.told_calls.Given as goal

abbrev pub invariant-loop-call : goal.invariant-loop-call
invariant-loop-call l = All (IsCallIn (logical_lines l.lines)) l.told.items

abbrev pub decreases-loop-call : goal.decreases-loop-call
decreases-loop-call l = length l.rest
