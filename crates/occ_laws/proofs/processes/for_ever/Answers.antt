use Rattle.occ_laws.proofs.ProcessExamples.{for_ever_plays}
use Rattle.occ_laws.proofs.processes.for_ever.Goals as goal

pub returns : goal.returns
returns c = for_ever_plays
