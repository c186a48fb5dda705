use Rattle.occ_laws.proofs.TurnExamples.{two_letters}
use Rattle.occ_laws.proofs.turns.two_letters.Goals as goal

pub returns : goal.returns
returns c = two_letters
