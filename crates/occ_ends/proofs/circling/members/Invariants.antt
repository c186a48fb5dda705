use Rattle.std.proofs.Common.{◌≡◌, map, take}
use Rattle.occ_ends.proofs.circling.members.Given as goal

abbrev pub invariant-loop-edge : goal.invariant-loop-edge
invariant-loop-edge l = l.numbers.items ≡ map (λ e. e.choice.which) (take l.edge-index l.round)
