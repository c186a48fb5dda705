use Rattle.occ_term.proofs.TypedSteps as steps
use Rattle.occ_laws.proofs.steps.steps_keep_types.Goals as goal

pub returns : goal.returns
returns c = steps.steps_keep_types
