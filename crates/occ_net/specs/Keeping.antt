-- What a network keeps.
-- Manual: nothing; this is (own).
use Rattle.std.specs.Prelude.{length, ◌≡◌}
use Rattle.occ_net_replay.specs.Following.{AreBytes}
use Rattle.occ_net_replay.specs.Replay.{Net}
use Rattle.occ_net_tables.specs.declared.tables.Tables.{Tables}
use Rattle.occ_net_tables.specs.Holding.{Holds}
use Rattle.occ_net_tables.specs.Places.{Placed}
use Rattle.occ_net.specs.Networks.{Past, IsState}

-- Its tables hold the replay of its choices, which are places. There is a mark for each process.
pub record KeepsReplay (n : Past) (tables : Tables) : Type 0 where
  pub net : Net
  pub places : Placed n.program n.keyboard n.choices n.choices net
  pub holds : (now : Net) → IsState n now → Holds n.program n.keyboard tables now
  pub bytes : AreBytes n.keyboard
  pub marked : length n.out ≡ length n.program.bodies
