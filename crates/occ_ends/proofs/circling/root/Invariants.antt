use Rattle.occ_ends.specs.Ends.{IsRoot}
use Rattle.occ_ends.proofs.circling.root.Given as goal

abbrev pub invariant-loop-number : goal.invariant-loop-number
invariant-loop-number l = IsRoot l.number l.fan.items
