use Rattle.std.proofs.Common.{◌≡◌, ◌++◌, ◌+◌, false, length}
use Rattle.occ_term.specs.Runs.{entries}
use Rattle.occ_shown.specs.Answers.{names_of}
use Rattle.occ_run.proofs.watched.append_news.Given as goal

-- what is pending and those that are left, numbered on
abbrev pub invariant-loop-communication : goal.invariant-loop-communication
invariant-loop-communication g l =
    (l.publisher.published ≡ l.fn.publisher.published)
    × (l.publisher.closed ≡ false)
    × (l.number + length l.communication-iterator ≡ l.fn.number + length l.news)
    × (l.publisher.pending ++ entries (names_of l.channels) (l.number + 1) l.communication-iterator ≡ l.fn.publisher.pending ++ entries (names_of l.channels) (l.fn.number + 1) l.news)
