use Rattle.occ_laws.proofs.ProcessExamples.{line_then_stop_plays}
use Rattle.occ_laws.proofs.processes.line_then_stop.Goals as goal

pub returns : goal.returns
returns c = line_then_stop_plays
