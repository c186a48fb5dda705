use Rattle.std.proofs.Common.{◌≡◌, ◌≤◌}
use Rattle.occ_net_tables.specs.Holding.{HeldBy}
use Rattle.occ_report.specs.Reports.{ended_among}
use Rattle.occ_report.proofs.ended.ended_among.Given as goal

abbrev pub invariant-loop-number : goal.invariant-loop-number
invariant-loop-number l = (l.ended ≤ l.number) × HeldBy l.tables (λ net. l.ended ≡ ended_among net.tasks l.number)
