use Rattle.std.proofs.Common.{◌≡◌, ◌+◌, ◌≤◌, length}
use Rattle.occ_net.specs.Histories.{messages_in}
use Rattle.occ_net.proofs.history.count_on.Given as goal

abbrev pub invariant-loop-communication : goal.invariant-loop-communication
invariant-loop-communication l = record {
  counted : l.count + length (messages_in l.communication-iterator l.chan) ≡ length (messages_in l.entries l.chan);
  few : l.count + length l.communication-iterator ≤ length l.entries;
}
