use Rattle.occ_laws.proofs.ProcessExamples.{own_variable_plays}
use Rattle.occ_laws.proofs.processes.own_variable.Goals as goal

pub returns : goal.returns
returns c = own_variable_plays
