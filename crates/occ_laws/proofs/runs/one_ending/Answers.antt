use Rattle.occ_term.proofs.OneResult.{one_ending}
use Rattle.occ_laws.proofs.runs.one_ending.Goals as goal

pub returns : goal.returns
returns c = one_ending
