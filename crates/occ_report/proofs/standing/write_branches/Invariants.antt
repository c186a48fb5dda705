use Rattle.std.proofs.Common.{◌≡◌, ◌++◌, length}
use Rattle.occ_report.specs.Reports.{branches_text}
use Rattle.occ_report.proofs.standing.write_branches.Given as goal

abbrev pub invariant-loop-branch : goal.invariant-loop-branch
invariant-loop-branch l = l.out.items ++ branches_text l.rest ≡ l.fn.out.items ++ branches_text l.fn.branches

abbrev pub decreases-loop-branch : goal.decreases-loop-branch
decreases-loop-branch l = length l.rest
