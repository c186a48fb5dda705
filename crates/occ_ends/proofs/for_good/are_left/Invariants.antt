use Rattle.occ_ends.specs.ForGood.{AreLeftBy}
use Rattle.occ_ends.proofs.for_good.are_left.Given as goal

abbrev pub invariant-loop-number : goal.invariant-loop-number
invariant-loop-number l = AreLeftBy l.tables l.uses l.flags l.number
