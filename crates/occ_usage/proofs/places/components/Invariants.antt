use Rattle.std.proofs.Common.{◌≡◌, ◌*◌, drop, min}
use Rattle.occ_term.specs.Messages.{product}
use Rattle.occ_usage.proofs.places.components.Given as goal

abbrev pub invariant-loop-size : goal.invariant-loop-size
invariant-loop-size l = min (l.all * product (drop l.size-index l.sizes)) 18446744073709551615 ≡ min (product l.sizes) 18446744073709551615
