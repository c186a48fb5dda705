use Rattle.occ_term.proofs.ArmExamples.{takes_first}
use Rattle.occ_term.proofs.laws.selecting.takes_first.Goals as goal

pub returns : goal.returns
returns c = takes_first
