use Rattle.occ_laws.proofs.ProcessExamples.{no_option_plays}
use Rattle.occ_laws.proofs.processes.no_option.Goals as goal

pub returns : goal.returns
returns c = no_option_plays
