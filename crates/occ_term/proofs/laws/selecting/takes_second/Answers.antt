use Rattle.occ_term.proofs.ArmExamples.{takes_second}
use Rattle.occ_term.proofs.laws.selecting.takes_second.Goals as goal

pub returns : goal.returns
returns c = takes_second
