use Rattle.occ_net_replay.proofs.Converse.{runs_are_replays}
use Rattle.occ_net_replay.proofs.laws.runs_are_replays.Goals as goal

pub returns : goal.returns
returns c = runs_are_replays
