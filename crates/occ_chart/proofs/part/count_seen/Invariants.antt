use Rattle.std.proofs.Common.{◌≡◌, ◌+◌, ◌≤◌, length}
use Rattle.occ_chart.specs.LeftOut.{count_seen}
use Rattle.occ_chart.proofs.part.count_seen.Given as goal

abbrev pub invariant-loop-communication : goal.invariant-loop-communication
invariant-loop-communication l = record {
  within : l.count + length l.communication-iterator ≤ length l.communications;
  counted : l.count + count_seen l.left_out l.communication-iterator ≡ count_seen l.left_out l.communications;
}
