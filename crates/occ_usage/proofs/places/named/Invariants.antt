use Rattle.occ_usage.proofs.Components.{Names}
use Rattle.occ_usage.proofs.places.named.Given as goal

abbrev pub invariant-loop-subscript : goal.invariant-loop-subscript
invariant-loop-subscript l = Names l.place l.whole l.subscript-index l.sizes l.span
