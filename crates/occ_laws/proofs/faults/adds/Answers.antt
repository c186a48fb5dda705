use Rattle.occ_laws.proofs.FaultExamples.{adds_plays}
use Rattle.occ_laws.proofs.faults.adds.Goals as goal

pub returns : goal.returns
returns c = adds_plays
