use Rattle.occ_laws.proofs.TurnExamples.{letter_ends}
use Rattle.occ_laws.proofs.turns.letter_ends.Goals as goal

pub returns : goal.returns
returns c = letter_ends
