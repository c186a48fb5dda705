use Rattle.occ_net_replay.proofs.Alone.{turns_offer_alone}
use Rattle.occ_net_replay.proofs.laws.turns_offer_alone.Goals as goal

pub returns : goal.returns
returns c = turns_offer_alone
