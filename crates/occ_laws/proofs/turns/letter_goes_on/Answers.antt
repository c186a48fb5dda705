use Rattle.occ_laws.proofs.TurnExamples.{letter_goes_on}
use Rattle.occ_laws.proofs.turns.letter_goes_on.Goals as goal

pub returns : goal.returns
returns c = letter_goes_on
