use Rattle.std.proofs.Common.{◌≡◌, take}
use Rattle.occ_term.specs.Names.{with_subscripts}
use Rattle.occ_term.proofs.names.write_subscripts.Given as goal

abbrev pub invariant-loop-k : goal.invariant-loop-k
invariant-loop-k l = l.out.items ≡ with_subscripts l.initial.out.items (take l.k-index l.subscripts)
