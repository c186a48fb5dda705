-- What a network came to.
-- Manual: nothing; this is (own).
use Rattle.std.specs.Prelude.{List, None, [], ℕ, ◌≡◌}
use Rattle.occ_term.specs.Runs.{bytes_of, messages_on}
use Rattle.occ_machine.specs.Compiled.{Program}
use Rattle.occ_net_replay.specs.declared.choice.Choice.{Choice}
use Rattle.occ_term.specs.declared.ending.Ending.TheVariants as E
use Rattle.occ_net_replay.specs.Following.{or_limit}
use Rattle.occ_net_replay.specs.Replay.{Net, ending_of}
use Rattle.occ_net_tables.specs.declared.running.Outcome.{Outcome as Alone}
use Rattle.occ_net_tables.specs.Outcomes.{Begins}
use Rattle.occ_net_tables.specs.Places.{Placed}
use Rattle.occ_net.specs.Histories.{HasHistories}
use Rattle.occ_net.specs.Networks.{IsState, Past, fresh}
use Rattle.occ_net.specs.declared.outcome.Outcome.{Outcome}

-- where it has ended, no fault was noted
abbrev pub EndsClean : Program → Net → Type 0
EndsClean p net = or_limit (ending_of p.errors net) ≡ E.Ended → net.noted ≡ []

-- The ending of its network's state, Limit where there is none, and the bytes that were input from the screen's and the error channel.
-- It has ended only where no fault was noted. On each channel the messages output are those input, in order, each of its protocol.
pub record Shows (net : Net) (o : Outcome) : Type 0 where
  pub ending : o.ending ≡ or_limit (ending_of o.network.program.errors net)
  pub clean : o.ending ≡ E.Ended → net.noted ≡ []
  pub screen : o.screen.items ≡ bytes_of (messages_on 1 net.trace)
  pub error : o.error.items ≡ bytes_of (messages_on 2 net.trace)
  pub histories : HasHistories o.network.program net

-- What one thread's outcome has of a network in this state: its choices, its ending, Limit where there is none, and its communications.
pub record IsReplayOf (n : Past) (net : Net) (o : Alone) : Type 0 where
  pub choices : o.choices.items ≡ n.choices
  pub ending : o.ending ≡ or_limit (ending_of n.program.errors net)
  pub trace : net.trace ≡ o.trace

-- A run of the listed choices: those that were used are the first ones, and the network has their places, whose replay is in the same
-- state. Limit only where the whole list was used and no ending came.
pub record IsOutcome (p : Program) (keyboard : List ℕ) (list : List Choice) (o : Outcome) : Type 0 where
  pub net : Net
  pub places : Placed p keyboard o.choices.items o.network.choices net
  pub network : o.network ≡ record (fresh p keyboard) { choices = o.network.choices }
  pub state : IsState o.network net
  pub shows : Shows net o
  pub used : Begins o.choices.items list
  pub whole : ending_of p.errors net ≡ None → o.choices.items ≡ list
