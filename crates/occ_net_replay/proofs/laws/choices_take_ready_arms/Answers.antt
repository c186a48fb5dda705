use Rattle.occ_net_replay.proofs.Choosing.{choices_take_ready_arms}
use Rattle.occ_net_replay.proofs.laws.choices_take_ready_arms.Goals as goal

pub returns : goal.returns
returns c = choices_take_ready_arms
