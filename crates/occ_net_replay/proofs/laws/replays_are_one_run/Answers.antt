use Rattle.occ_net_replay.proofs.Law.{replays_are_one_run}
use Rattle.occ_net_replay.proofs.laws.replays_are_one_run.Goals as goal

pub returns : goal.returns
returns c = replays_are_one_run
