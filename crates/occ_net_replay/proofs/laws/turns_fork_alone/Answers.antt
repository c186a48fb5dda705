use Rattle.occ_net_replay.proofs.Alone.{turns_fork_alone}
use Rattle.occ_net_replay.proofs.laws.turns_fork_alone.Goals as goal

pub returns : goal.returns
returns c = turns_fork_alone
