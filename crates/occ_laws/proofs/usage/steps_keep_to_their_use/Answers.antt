use Rattle.occ_term.proofs.KeptSteps as kept
use Rattle.occ_laws.proofs.usage.steps_keep_to_their_use.Goals as goal

pub returns : goal.returns
returns c = kept.steps_keep_to_their_use
