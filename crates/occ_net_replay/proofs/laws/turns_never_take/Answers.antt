use Rattle.occ_net_replay.proofs.Alone.{turns_never_take}
use Rattle.occ_net_replay.proofs.laws.turns_never_take.Goals as goal

pub returns : goal.returns
returns c = turns_never_take
