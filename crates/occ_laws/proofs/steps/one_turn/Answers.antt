use Rattle.occ_term.proofs.OneResult.{one_turn}
use Rattle.occ_laws.proofs.steps.one_turn.Goals as goal

pub returns : goal.returns
returns c = one_turn
