use Rattle.std.proofs.Common.{◌≡◌}
use Rattle.std.specs.Prelude.{slice_get}
use Rattle.occ_net.specs.Histories.{messages_in}
use Rattle.occ_net.proofs.history.message_on.Given as goal

abbrev pub invariant-loop-communication : goal.invariant-loop-communication
invariant-loop-communication l = slice_get (messages_in l.communication-iterator l.chan) l.left ≡ slice_get (messages_in l.entries l.chan) l.number
