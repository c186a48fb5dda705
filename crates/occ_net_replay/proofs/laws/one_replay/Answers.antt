use Rattle.occ_net_replay.proofs.Same.{one_replay}
use Rattle.occ_net_replay.proofs.laws.one_replay.Goals as goal

pub returns : goal.returns
returns c = one_replay
