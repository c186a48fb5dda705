use Rattle.occ_net_replay.proofs.ReadyProcesses.{ready_go_on}
use Rattle.occ_net_replay.proofs.laws.ready_go_on.Goals as goal

pub returns : goal.returns
returns c = ready_go_on
