use Rattle.occ_net_replay.proofs.Alone.{turns_listen_alone}
use Rattle.occ_net_replay.proofs.laws.turns_listen_alone.Goals as goal

pub returns : goal.returns
returns c = turns_listen_alone
