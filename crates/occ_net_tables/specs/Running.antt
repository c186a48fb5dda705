-- What tables hold in the middle of a run.
-- Manual: nothing; this is (own).
use Rattle.std.specs.Prelude.{List, ℕ, ◌≡◌}
use Rattle.occ_machine.specs.Compiled.{Program}
use Rattle.occ_net_replay.specs.declared.choice.Choice.{Choice}
use Rattle.occ_net_replay.specs.Replay.{Net}
use Rattle.occ_net_tables.specs.declared.running.Keep.{Keep}
use Rattle.occ_net_tables.specs.declared.tables.Tables.{Tables}
use Rattle.occ_net_tables.specs.Holding.{Holds}
use Rattle.occ_net_tables.specs.Places.{Placed, all_kept}

-- The network holds what the replay of the given choices comes to, and this was kept of them.
pub record HasRun (p : Program) (keyboard : List ℕ) (keep : Keep) (given kept : List Choice) (n : Tables) : Type 0 where
  pub net : Net
  pub places : List Choice
  pub placed : Placed p keyboard given places net
  pub kept_is : kept ≡ all_kept keep given places
  pub holds : Holds p keyboard n net
