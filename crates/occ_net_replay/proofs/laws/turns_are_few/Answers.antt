use Rattle.occ_net_replay.proofs.Alone.{turns_are_few}
use Rattle.occ_net_replay.proofs.laws.turns_are_few.Goals as goal

pub returns : goal.returns
returns c = turns_are_few
