use Rattle.occ_term.proofs.TakenArms.{same_again}
use Rattle.occ_term.proofs.laws.selecting.same_again.Goals as goal

pub returns : goal.returns
returns c = same_again
