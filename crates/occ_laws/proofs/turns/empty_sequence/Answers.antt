use Rattle.occ_laws.proofs.TurnExamples.{empty_sequence}
use Rattle.occ_laws.proofs.turns.empty_sequence.Goals as goal

pub returns : goal.returns
returns c = empty_sequence
