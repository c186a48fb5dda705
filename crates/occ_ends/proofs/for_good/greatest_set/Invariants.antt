use Rattle.std.proofs.Common.{map}
use Rattle.occ_ends.specs.Ends.{noted_for}
use Rattle.occ_ends.specs.Endless.{HeldIn, flag}
use Rattle.occ_ends.specs.ForGood.{HasProcesses, IsClosedSet, IsWithin, Set}
use Rattle.occ_ends.proofs.for_good.greatest_set.Given as goal

abbrev pub invariant-loop : goal.invariant-loop
invariant-loop l = HeldIn l.code l.tables (λ net. (set : Set) → HasProcesses net.tasks set → IsClosedSet (map noted_for l.uses) net.tasks set → IsWithin set (flag l.flags.items))
