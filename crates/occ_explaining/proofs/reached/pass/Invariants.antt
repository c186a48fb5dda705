use Rattle.occ_explaining.proofs.Passing.{Passing}
use Rattle.occ_explaining.proofs.reached.pass.Given as goal

abbrev pub invariant-loop-at : goal.invariant-loop-at
invariant-loop-at l = Passing l.calls l.fn.reached.keys l.reached.keys l.others.items l.at

abbrev pub decreases-loop-at : goal.decreases-loop-at
decreases-loop-at l = l.at
