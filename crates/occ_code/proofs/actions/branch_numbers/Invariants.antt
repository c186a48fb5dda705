use Rattle.std.proofs.Common.{◌≡◌, map, take}
use Rattle.occ_code.proofs.actions.branch_numbers.Given as goal

abbrev pub invariant-loop-branch : goal.invariant-loop-branch
invariant-loop-branch l = l.numbers ≡ map (λ branch. branch.number) (take l.branch-index l.branches)
