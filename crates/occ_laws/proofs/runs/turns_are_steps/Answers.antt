use Rattle.occ_term.proofs.TurnSteps.{turns_are_steps}
use Rattle.occ_laws.proofs.runs.turns_are_steps.Goals as goal

pub returns : goal.returns
returns c = turns_are_steps
