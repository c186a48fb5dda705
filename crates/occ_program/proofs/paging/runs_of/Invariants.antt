use Rattle.std.proofs.Common.{List, ◌≡◌, ◌+◌, ◌++◌, length}
use Rattle.occ_shown.specs.declared.pages.RunTexts.{RunTexts}
use Rattle.occ_program.specs.Pages.{AreRunsOf}
use Rattle.occ_program.proofs.paging.runs_of.Given as goal

-- with the runs of the answers that are left, those so far are the runs of all answers
abbrev pub invariant-loop-first : goal.invariant-loop-first
invariant-loop-first l = record {
  counted : l.number + length l.rest ≡ 1 + length l.answers;
  so : (rs : List RunTexts) → AreRunsOf l.words l.inputs l.asked l.more l.number l.rest rs → AreRunsOf l.words l.inputs l.asked l.more 1 l.answers (l.runs.items ++ rs);
}

abbrev pub decreases-loop-first : goal.decreases-loop-first
decreases-loop-first l = length l.rest
