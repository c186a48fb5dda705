use Rattle.std.proofs.Common.{◌≡◌}
use Rattle.occ_explaining.specs.Shown.{name_lines}
use Rattle.occ_explaining.proofs.paged.name_lines.Given as goal

abbrev pub invariant-loop-number : goal.invariant-loop-number
invariant-loop-number l = l.bytes.items ≡ name_lines l.places l.number
