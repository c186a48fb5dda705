use Rattle.occ_net_replay.proofs.Law.{ready_tasks_stop}
use Rattle.occ_net_replay.proofs.laws.ready_tasks_stop.Goals as goal

pub returns : goal.returns
returns c = ready_tasks_stop
