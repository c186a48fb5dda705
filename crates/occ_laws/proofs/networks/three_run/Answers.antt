use Rattle.occ_laws.proofs.NetworkExamples.{three_run}
use Rattle.occ_laws.proofs.networks.three_run.Goals as goal

pub returns : goal.returns
returns c = three_run
