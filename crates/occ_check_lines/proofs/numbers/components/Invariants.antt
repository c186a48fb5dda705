use Rattle.std.proofs.Common.{◌≡◌, ◌*◌, ◌≤◌, min, drop}
use Rattle.occ_term.specs.Messages.{product}
use Rattle.occ_check_lines.proofs.numbers.components.Given as goal

abbrev pub invariant-loop-size : goal.invariant-loop-size
invariant-loop-size l = (l.count ≤ 4294967295) × (min (l.count * product (drop l.size-index l.sizes)) 4294967295 ≡ min (product l.sizes) 4294967295)
