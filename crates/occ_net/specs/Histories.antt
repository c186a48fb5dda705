-- The messages of a channel, read from the trace.
-- Manual: nothing; this is (own).
use Rattle.std.specs.Prelude.{List, Option, map, slice_get, ℕ, ◌≡◌}
use Rattle.occ_term.specs.declared.message.Message.{Message}
use Rattle.occ_term.specs.declared.protocol.Protocol.{Protocol}
use Rattle.occ_term.specs.Runs.{messages_on}
use Rattle.occ_machine.specs.Compiled.{Program}
use Rattle.occ_net_replay.specs.Following.{AllFit}
use Rattle.occ_net_replay.specs.Replay.{Net}
use Rattle.occ_term.specs.declared.communication.Communication.{Communication}

-- those of these communications
abbrev pub messages_in : List Communication → ℕ → List Message
messages_in trace chan = messages_on chan trace

-- the protocol of the program's channel with this number; none past its last channel
abbrev pub protocol_on : Program → ℕ → Option Protocol
protocol_on p chan = slice_get (map (λ x. x.protocol) p.channels) chan

-- The messages that were output on the channel, which are those that were input on it, in order. Each is of the channel's protocol.
pub record IsHistory (p : Program) (net : Net) (chan : ℕ) (messages : List Message) : Type 0 where
  pub output : net.output chan ≡ messages
  pub input : net.input chan ≡ messages
  pub trace : messages_on chan net.trace ≡ messages
  pub fits : AllFit (protocol_on p chan) messages

-- each channel has those of the trace
abbrev pub HasHistories : Program → Net → Type 0
HasHistories p net = (chan : ℕ) → IsHistory p net chan (messages_on chan net.trace)
