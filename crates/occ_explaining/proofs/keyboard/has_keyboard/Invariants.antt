use Rattle.std.proofs.Common.{◌≡◌, drop}
use Rattle.occ_explaining.proofs.NotedInputs.{among}
use Rattle.occ_explaining.proofs.keyboard.has_keyboard.Given as goal

-- what holds of those that are left holds of all
abbrev pub invariant-loop-one : goal.invariant-loop-one
invariant-loop-one l = among l.uses ≡ among (drop l.one-index l.uses)
