use Rattle.occ_laws.proofs.ProcessExamples.{no_time_plays}
use Rattle.occ_laws.proofs.processes.no_time.Goals as goal

pub returns : goal.returns
returns c = no_time_plays
