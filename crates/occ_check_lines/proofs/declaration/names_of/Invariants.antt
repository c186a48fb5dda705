use Rattle.std.proofs.Common.{◌≡◌, ◌∷◌, take}
use Rattle.occ_check_lines.proofs.declaration.names_of.Given as goal

abbrev pub invariant-loop-name : goal.invariant-loop-name
invariant-loop-name l = l.all ≡ l.names.first ∷ take l.name-index l.name-items
