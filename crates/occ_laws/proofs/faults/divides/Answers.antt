use Rattle.occ_laws.proofs.FaultExamples.{divides}
use Rattle.occ_laws.proofs.faults.divides.Goals as goal

pub returns : goal.returns
returns c = divides
