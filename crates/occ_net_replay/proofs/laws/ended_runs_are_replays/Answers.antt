use Rattle.occ_net_replay.proofs.Converse.{ended_runs_are_replays}
use Rattle.occ_net_replay.proofs.laws.ended_runs_are_replays.Goals as goal

pub returns : goal.returns
returns c = ended_runs_are_replays
