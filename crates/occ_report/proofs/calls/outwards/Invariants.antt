use Rattle.std.proofs.Common.{◌≡◌, ◌++◌, length}
use Rattle.occ_report.specs.Calls.{outwards}
use Rattle.occ_report.proofs.calls.outwards.Given as goal

abbrev pub invariant-calls : goal.invariant-calls
invariant-calls l = l.found.items ++ outwards l.left l.calls l.at ≡ outwards (length l.calls) l.calls l.fn.number

abbrev pub decreases-calls : goal.decreases-calls
decreases-calls l = l.left
