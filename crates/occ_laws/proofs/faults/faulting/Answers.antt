use Rattle.occ_laws.proofs.FaultExamples.{faulting_plays}
use Rattle.occ_laws.proofs.faults.faulting.Goals as goal

pub returns : goal.returns
returns c = faulting_plays
