use Rattle.occ_laws.proofs.TurnExamples.{long_turns}
use Rattle.occ_laws.proofs.turns.long_turns.Goals as goal

pub returns : goal.returns
returns c = long_turns
