use Rattle.std.proofs.Common.{◌≡◌, List, ℕ}
use Rattle.occ_machine.specs.Compiled.{Program}
use Rattle.occ_net_replay.specs.Replay.{Net}
use Rattle.occ_net_tables.specs.Holding.{Holds}
use Rattle.occ_shown.specs.Answers.{names_of}
use Rattle.occ_explaining.specs.Charting.{feet_of}
use Rattle.occ_explaining.proofs.feet.feet.Given as goal

abbrev pub invariant-loop-number : goal.invariant-loop-number
invariant-loop-number l = (p : Program) (keyboard : List ℕ) (net : Net) → Holds p keyboard l.tables net → l.stubs.items ≡ feet_of (names_of l.channels) net.tasks l.number
