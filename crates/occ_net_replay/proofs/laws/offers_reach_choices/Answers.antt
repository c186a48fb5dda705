use Rattle.occ_net_replay.proofs.Choosing.{offers_reach_choices}
use Rattle.occ_net_replay.proofs.laws.offers_reach_choices.Goals as goal

pub returns : goal.returns
returns c = offers_reach_choices
