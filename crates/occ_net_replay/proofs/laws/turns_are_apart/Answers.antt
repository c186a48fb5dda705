use Rattle.occ_net_replay.proofs.TwoTurns.{turns_are_apart}
use Rattle.occ_net_replay.proofs.laws.turns_are_apart.Goals as goal

pub returns : goal.returns
returns c = turns_are_apart
