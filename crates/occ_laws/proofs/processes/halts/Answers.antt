use Rattle.occ_laws.proofs.ProcessExamples.{halts}
use Rattle.occ_laws.proofs.processes.halts.Goals as goal

pub returns : goal.returns
returns c = halts
