use Rattle.std.proofs.Common.{◌≡◌, length}
use Rattle.occ_net.specs.Histories.{messages_in}
use Rattle.occ_net.proofs.history.first_on.Given as goal

abbrev pub invariant-loop-communication : goal.invariant-loop-communication
invariant-loop-communication l = messages_in l.entries l.chan ≡ messages_in l.initial.entries l.chan

abbrev pub decreases-loop-communication : goal.decreases-loop-communication
decreases-loop-communication l = length l.entries
