use Rattle.std.proofs.Common.{◌≡◌, ◌++◌, length}
use Rattle.occ_net_tables.specs.Holding.{HeldBy}
use Rattle.occ_ends.specs.Ends.{unended_among}
use Rattle.occ_ends.proofs.circling.unended_among.Given as goal

abbrev pub invariant-loop-branch : goal.invariant-loop-branch
invariant-loop-branch l = HeldBy l.tables (λ net. l.others.items ++ unended_among net.tasks l.rest ≡ unended_among net.tasks l.branches)

abbrev pub decreases-loop-branch : goal.decreases-loop-branch
decreases-loop-branch l = length l.rest
