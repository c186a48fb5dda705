use Rattle.occ_usage.specs.Noted.{uses_in}
use Rattle.occ_usage.proofs.Branches.{Scan}
use Rattle.occ_usage.proofs.clashes.clash_between.Given as goal

abbrev pub invariant-loop-one : goal.invariant-loop-one
invariant-loop-one l = Scan (uses_in l.left) l.right l.one-index
