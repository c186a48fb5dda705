use Rattle.occ_laws.proofs.FaultExamples.{too_many_plays}
use Rattle.occ_laws.proofs.faults.too_many.Goals as goal

pub returns : goal.returns
returns c = too_many_plays
