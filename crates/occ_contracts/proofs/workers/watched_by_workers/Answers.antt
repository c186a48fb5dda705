use Rattle.occ_contracts.proofs.Crews.{not_their_number}
use Rattle.occ_contracts.proofs.workers.watched_by_workers.Goals as goal

pub returns-clause-crew : goal.returns-clause-crew
returns-clause-crew g c = λ some few. not_their_number c.args.workers some few _ c.run_watched.ensures.workers
