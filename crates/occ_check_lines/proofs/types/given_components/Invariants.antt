use Rattle.occ_check_lines.proofs.SizeLists.{Counted}
use Rattle.occ_check_lines.proofs.types.given_components.Given as goal

abbrev pub invariant-loop-size : goal.invariant-loop-size
invariant-loop-size l = Counted l.sizes l.size-index l.count
