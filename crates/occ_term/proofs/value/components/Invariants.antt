use Rattle.std.proofs.Common.{◌≡◌, ◌*◌, ◌≤◌, drop}
use Rattle.occ_term.specs.Messages.{product}
use Rattle.occ_term.specs.UnfoldedProgram.{most_cells}
use Rattle.occ_term.proofs.value.components.Given as goal

abbrev pub invariant-loop-size : goal.invariant-loop-size
invariant-loop-size l = product l.sizes ≤ most_cells → l.count * product (drop l.size-index l.sizes) ≡ product l.sizes
