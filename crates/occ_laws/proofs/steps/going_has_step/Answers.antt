use Rattle.occ_term.proofs.Going.{going}
use Rattle.occ_laws.proofs.steps.going_has_step.Goals as goal

pub returns : goal.returns
returns c = going
