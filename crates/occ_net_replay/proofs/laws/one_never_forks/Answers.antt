use Rattle.occ_net_replay.proofs.Law.{one_never_forks_is}
use Rattle.occ_net_replay.proofs.laws.one_never_forks.Goals as goal

pub returns : goal.returns
returns c = one_never_forks_is
