use Rattle.std.proofs.Common.{◌≡◌, length}
use Rattle.occ_report.specs.Calls.{last_number}
use Rattle.occ_report.proofs.calls.last_of.Given as goal

abbrev pub invariant-loop-number : goal.invariant-loop-number
invariant-loop-number l = last_number l.last l.rest ≡ last_number 0 l.fn.numbers

abbrev pub decreases-loop-number : goal.decreases-loop-number
decreases-loop-number l = length l.rest
