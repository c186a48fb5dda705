use Rattle.occ_term.proofs.ArmExamples.{opens_all}
use Rattle.occ_term.proofs.laws.selecting.opens_all.Goals as goal

pub returns : goal.returns
returns c = opens_all
