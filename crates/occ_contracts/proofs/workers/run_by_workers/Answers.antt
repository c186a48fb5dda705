use Rattle.occ_contracts.proofs.Crews.{thread_or_memory}
use Rattle.occ_contracts.proofs.workers.run_by_workers.Goals as goal

pub returns-clause-crew : goal.returns-clause-crew
returns-clause-crew g c = λ some few. thread_or_memory c.args.workers some few _ c.run_workers.ensures.workers c.run_workers.ensures.own
