use Rattle.occ_term.proofs.ArmExamples.{takes_last}
use Rattle.occ_term.proofs.laws.selecting.takes_last.Goals as goal

pub returns : goal.returns
returns c = takes_last
