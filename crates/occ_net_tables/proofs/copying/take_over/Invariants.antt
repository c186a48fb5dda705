use Rattle.std.proofs.Common.{◌≡◌, drop}
use Rattle.occ_term.specs.CellRows.{cells_in}
use Rattle.occ_net_replay.specs.Replay.{taken_over}
use Rattle.occ_net_tables.proofs.copying.take_over.Given as goal

abbrev pub invariant-loop-row : goal.invariant-loop-row
invariant-loop-row l = taken_over (cells_in (drop l.row-index l.row-items)) l.from l.to ≡ taken_over l.writes l.from l.initial.to
