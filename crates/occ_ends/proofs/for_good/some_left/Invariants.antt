use Rattle.std.proofs.Common.{◌≡◌, length}
use Rattle.occ_net_tables.specs.Holding.{HeldBy}
use Rattle.occ_ends.specs.ForGood.{some_left}
use Rattle.occ_ends.proofs.for_good.some_left.Given as goal

abbrev pub invariant-loop-branch : goal.invariant-loop-branch
invariant-loop-branch l = HeldBy l.tables (λ net. some_left net.tasks l.flags l.rest ≡ some_left net.tasks l.flags l.branches)

abbrev pub decreases-loop-branch : goal.decreases-loop-branch
decreases-loop-branch l = length l.rest
