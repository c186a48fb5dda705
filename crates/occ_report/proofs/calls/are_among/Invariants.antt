use Rattle.std.proofs.Common.{◌≡◌, length}
use Rattle.occ_report.specs.Calls.{are_among}
use Rattle.occ_report.proofs.calls.are_among.Given as goal

abbrev pub invariant-loop-number : goal.invariant-loop-number
invariant-loop-number l = are_among l.rest l.all ≡ are_among l.fn.numbers l.all

abbrev pub decreases-loop-number : goal.decreases-loop-number
decreases-loop-number l = length l.rest
