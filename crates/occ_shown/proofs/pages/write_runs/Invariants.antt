use Rattle.std.proofs.Common.{◌≡◌, ◌++◌, length}
use Rattle.occ_shown.specs.Pages.{runs_data}
use Rattle.occ_shown.proofs.pages.write_runs.Given as goal

abbrev pub invariant-loop-first : goal.invariant-loop-first
invariant-loop-first l = l.out.items ++ runs_data l.rest ≡ l.fn.out.items ++ runs_data l.fn.runs

abbrev pub decreases-loop-first : goal.decreases-loop-first
decreases-loop-first l = length l.rest
