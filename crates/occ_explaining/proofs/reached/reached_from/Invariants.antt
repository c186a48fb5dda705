use Rattle.std.proofs.Common.{vec_len}
use Rattle.occ_explaining.specs.Calls.{named}
use Rattle.occ_explaining.proofs.Rounds.{Round}
use Rattle.occ_explaining.proofs.reached.reached_from.Given as goal

abbrev pub invariant-loop-left : goal.invariant-loop-left
invariant-loop-left l = Round (named l.main) l.initial.left.items l.reached.keys l.left.items

abbrev pub decreases-loop-left : goal.decreases-loop-left
decreases-loop-left l = vec_len l.left
