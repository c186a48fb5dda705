use Rattle.std.proofs.Common.{List, ℕ}
use Rattle.occ_machine.specs.Compiled.{Program}
use Rattle.occ_net_replay.specs.Replay.{Net}
use Rattle.occ_net_tables.specs.Holding.{Holds}
use Rattle.occ_ends.specs.Ends.{AreWaits, LeadWithin, others_noted}
use Rattle.occ_ends.proofs.circling.graph.Given as goal

abbrev pub invariant-loop-number : goal.invariant-loop-number
invariant-loop-number l =
    LeadWithin l.below l.number l.fans
    × ((p : Program) (keyboard : List ℕ) (net : Net) → Holds p keyboard l.tables net → AreWaits (others_noted l.ends net.tasks) l.below l.number l.fans)
