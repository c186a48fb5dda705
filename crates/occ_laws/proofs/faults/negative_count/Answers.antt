use Rattle.occ_laws.proofs.FaultExamples.{negative_count_plays}
use Rattle.occ_laws.proofs.faults.negative_count.Goals as goal

pub returns : goal.returns
returns c = negative_count_plays
