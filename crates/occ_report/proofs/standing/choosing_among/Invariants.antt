use Rattle.std.proofs.Common.{◌≡◌, ◌++◌, length}
use Rattle.occ_net_tables.specs.Holding.{HeldBy}
use Rattle.occ_report.specs.Reports.{choosing_among}
use Rattle.occ_report.proofs.standing.choosing_among.Given as goal

abbrev pub invariant-loop-number : goal.invariant-loop-number
invariant-loop-number l = HeldBy l.tables (λ net. l.choosing.items ++ choosing_among net.tasks l.rest ≡ choosing_among net.tasks l.fn.numbers)

abbrev pub decreases-loop-number : goal.decreases-loop-number
decreases-loop-number l = length l.rest
