use Rattle.std.proofs.Common.{List, drop, map, ℕ}
use Rattle.occ_machine.specs.Compiled.{Program}
use Rattle.occ_net_replay.specs.Replay.{Net}
use Rattle.occ_net_tables.specs.Holding.{Holds}
use Rattle.occ_ends.specs.Ends.{noted_for, stands}
use Rattle.occ_ends.proofs.Marking.{LeavesIn}
use Rattle.occ_ends.proofs.ends.mark_all.Given as goal

abbrev pub invariant-loop-process : goal.invariant-loop-process
invariant-loop-process l =
    (p : Program) (keyboard : List ℕ) (net : Net) → Holds p keyboard l.tables net
    → LeavesIn (stands net.tasks) (λ u. u.ins) (map noted_for l.uses) l.fn.ends.readers.items l.ends.readers.items (map noted_for (drop l.process-index l.uses))
    × LeavesIn (stands net.tasks) (λ u. u.outs) (map noted_for l.uses) l.fn.ends.writers.items l.ends.writers.items (map noted_for (drop l.process-index l.uses))
