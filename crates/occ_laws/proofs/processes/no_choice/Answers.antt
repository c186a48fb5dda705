use Rattle.occ_laws.proofs.ProcessExamples.{no_choice_plays}
use Rattle.occ_laws.proofs.processes.no_choice.Goals as goal

pub returns : goal.returns
returns c = no_choice_plays
