use Rattle.occ_laws.proofs.TurnExamples.{meets_at_once}
use Rattle.occ_laws.proofs.turns.meets_at_once.Goals as goal

pub returns : goal.returns
returns c = meets_at_once
