use Rattle.occ_laws.proofs.ProcessExamples.{third_choice_plays}
use Rattle.occ_laws.proofs.processes.third_choice.Goals as goal

pub returns : goal.returns
returns c = third_choice_plays
