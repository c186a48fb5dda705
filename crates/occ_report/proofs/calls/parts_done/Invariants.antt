use Rattle.std.proofs.Common.{◌≡◌, ◌+◌, ◌≤◌, length}
use Rattle.occ_report.specs.Calls.{parts_done}
use Rattle.occ_report.proofs.calls.parts_done.Given as goal

abbrev pub invariant-loop-instruction : goal.invariant-loop-instruction
invariant-loop-instruction l = record {
  few : l.count + length l.rest ≤ length l.fn.code;
  same : l.count + parts_done l.rest ≡ parts_done l.fn.code;
}

abbrev pub decreases-loop-instruction : goal.decreases-loop-instruction
decreases-loop-instruction l = length l.rest
