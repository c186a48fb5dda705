use Rattle.occ_laws.proofs.TurnExamples.{before_turns}
use Rattle.occ_laws.proofs.turns.no_turn.Goals as goal

pub returns : goal.returns
returns c = before_turns
