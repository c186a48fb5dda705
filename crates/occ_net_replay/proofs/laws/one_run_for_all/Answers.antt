use Rattle.occ_net_replay.proofs.Law as law
use Rattle.occ_net_replay.proofs.laws.one_run_for_all.Goals as goal

pub returns : goal.returns
returns c = law.one_run_for_all
