use Rattle.occ_run.proofs.Telling.{HasTold}
use Rattle.occ_run.proofs.watched.follow.Given as goal

-- what was held is published, and behind it the trace of a replay
abbrev pub invariant-loop : goal.invariant-loop
invariant-loop g l =
    let u = g.U.OneRun in HasTold u.takings u.program u.keyboard u.limit l.fn.publisher.published l.front l.mark l.number l.publisher
