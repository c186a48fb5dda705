-- What a run of a plan comes to.
-- Manual: nothing; this is (own).
use Rattle.std.specs.Prelude.{List, None, ℕ, ◌++◌, ◌≡◌}
use Rattle.occ_machine.specs.Compiled.{Program}
use Rattle.occ_net_replay.specs.declared.choice.Choice.{Choice}
use Rattle.occ_net_tables.specs.declared.running.Keep.{Keep}
use Rattle.occ_net_tables.specs.declared.running.Outcome.{Outcome}
use Rattle.occ_net_tables.specs.declared.running.Ran.{Ran}
use Rattle.occ_net_tables.specs.Running.{HasRun}
use Rattle.occ_net_replay.specs.Replay.{Net, Replays, ending_of}
use Rattle.occ_net_replay.specs.Following.{or_limit}

-- one list is a beginning of the other
pub record Begins {X : Type 0} (front whole : List X) : Type 0 where
  pub rest : List X
  pub is : whole ≡ front ++ rest

-- The replay of the used choices, which are a beginning of the list; Limit only where the whole list was used and no ending came.
pub record IsOutcome (p : Program) (keyboard : List ℕ) (list : List Choice) (o : Outcome) : Type 0 where
  pub net : Net
  pub replays : Replays p keyboard o.choices.items net
  pub trace : net.trace ≡ o.trace
  pub used : Begins o.choices.items list
  pub ending : o.ending ≡ or_limit (ending_of p.errors net)
  pub whole : ending_of p.errors net ≡ None → o.choices.items ≡ list

-- A run has used the first choices of the list, and the tables hold what their replay comes to. Limit only where the whole list was used
-- and no ending came.
pub record IsRan (p : Program) (keyboard : List ℕ) (list : List Choice) (keep : Keep) (r : Ran) : Type 0 where
  pub given : List Choice
  pub run : HasRun p keyboard keep given r.kept.items r.tables
  pub used : Begins given list
  pub ending : r.ending ≡ or_limit (ending_of p.errors run.net)
  pub whole : ending_of p.errors run.net ≡ None → given ≡ list
