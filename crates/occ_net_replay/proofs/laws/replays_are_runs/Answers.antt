use Rattle.occ_net_replay.proofs.Law.{replays_are_runs}
use Rattle.occ_net_replay.proofs.laws.replays_are_runs.Goals as goal

pub returns : goal.returns
returns c = replays_are_runs
