use Rattle.std.proofs.Common.{◌≡◌, ◌++◌, length}
use Rattle.occ_report.specs.Calls.{lines_of_calls}
use Rattle.occ_report.proofs.calls.write_lines.Given as goal

abbrev pub invariant-loop-number : goal.invariant-loop-number
invariant-loop-number l = l.out.items ++ lines_of_calls l.calls l.rest ≡ l.fn.out.items ++ lines_of_calls l.calls l.fn.numbers

abbrev pub decreases-loop-number : goal.decreases-loop-number
decreases-loop-number l = length l.rest
