use Rattle.occ_term.specs.ArraySizes.{AreFew}
use Rattle.occ_check_lines.proofs.Leaving.{Leaves}
use Rattle.occ_check_lines.proofs.reading.left_by.Given as goal

abbrev pub invariant-loop-subscript : goal.invariant-loop-subscript
invariant-loop-subscript l = Leaves l.under_these l.subscript-index l.sizes l.left × AreFew l.left
