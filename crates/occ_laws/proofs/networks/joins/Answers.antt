use Rattle.occ_laws.proofs.NetworkExamples.{joins}
use Rattle.occ_laws.proofs.networks.joins.Goals as goal

pub returns : goal.returns
returns c = joins
