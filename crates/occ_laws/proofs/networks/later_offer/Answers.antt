use Rattle.occ_laws.proofs.NetworkExamples.{later_offer}
use Rattle.occ_laws.proofs.networks.later_offer.Goals as goal

pub returns : goal.returns
returns c = later_offer
