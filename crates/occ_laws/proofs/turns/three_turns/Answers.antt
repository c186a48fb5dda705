use Rattle.occ_laws.proofs.TurnExamples.{three_turns}
use Rattle.occ_laws.proofs.turns.three_turns.Goals as goal

pub returns : goal.returns
returns c = three_turns
