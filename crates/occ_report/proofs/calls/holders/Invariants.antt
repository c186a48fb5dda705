use Rattle.std.proofs.Common.{◌≡◌, ◌+◌, ◌++◌, length}
use Rattle.occ_report.specs.Calls.{holders}
use Rattle.occ_report.proofs.calls.holders.Given as goal

abbrev pub invariant-loop-call : goal.invariant-loop-call
invariant-loop-call l = record {
  counted : l.number + length l.rest ≡ length l.fn.calls + 1;
  same : l.found.items ++ holders l.line l.done l.number l.rest ≡ holders l.line l.done 1 l.fn.calls;
}

abbrev pub decreases-loop-call : goal.decreases-loop-call
decreases-loop-call l = length l.rest
