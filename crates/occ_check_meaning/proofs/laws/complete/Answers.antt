use Rattle.occ_check_meaning.proofs.Complete.{complete}
use Rattle.occ_check_meaning.proofs.laws.complete.Goals as goal

pub returns : goal.returns
returns c = λ sc depth n m p t u. complete u
