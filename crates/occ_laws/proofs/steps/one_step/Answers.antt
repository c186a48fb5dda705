use Rattle.occ_term.proofs.OneResult.{one_step}
use Rattle.occ_laws.proofs.steps.one_step.Goals as goal

pub returns : goal.returns
returns c = one_step
