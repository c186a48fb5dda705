use Rattle.occ_contracts.proofs.Crews.{not_their_number}
use Rattle.occ_contracts.proofs.workers.watched_network_by_a_crew.Goals as goal

pub returns : goal.returns
returns g c = not_their_number c.args.workers c.requires.some c.requires.few _ c.watch_network.ensures.workers
