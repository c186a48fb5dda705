use Rattle.std.proofs.Common.{◌≡◌, ◌-◌}
use Rattle.occ_term.specs.CellRows.{cells_of, numbers_from}
use Rattle.occ_net_replay.specs.Replay.{taken_over}
use Rattle.occ_net_tables.proofs.copying.take_each.Given as goal

abbrev pub invariant-loop-cell : goal.invariant-loop-cell
invariant-loop-cell l = taken_over (numbers_from l.cell (l.row.end - l.cell)) l.from l.to ≡ taken_over (cells_of l.row) l.from l.initial.to
