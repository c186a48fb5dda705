use Rattle.occ_laws.proofs.TurnExamples.{writes_a}
use Rattle.occ_laws.proofs.turns.writes_a.Goals as goal

pub returns : goal.returns
returns c = writes_a
