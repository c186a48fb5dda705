use Rattle.occ_code.proofs.RunningTurns as turns
use Rattle.occ_code.proofs.laws.bodies_do.Goals as goal

pub returns : goal.returns
returns c = turns.bodies_do
