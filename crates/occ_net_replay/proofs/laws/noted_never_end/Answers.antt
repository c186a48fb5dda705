use Rattle.occ_net_replay.proofs.Law.{noted_never_end}
use Rattle.occ_net_replay.proofs.laws.noted_never_end.Goals as goal

pub returns : goal.returns
returns c = noted_never_end
