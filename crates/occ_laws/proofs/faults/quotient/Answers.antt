use Rattle.occ_laws.proofs.FaultExamples.{quotient_plays}
use Rattle.occ_laws.proofs.faults.quotient.Goals as goal

pub returns : goal.returns
returns c = quotient_plays
