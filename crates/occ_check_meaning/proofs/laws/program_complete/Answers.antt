use Rattle.occ_check_meaning.proofs.Complete as Complete
use Rattle.occ_check_meaning.proofs.laws.program_complete.Goals as goal

pub returns : goal.returns
returns c = λ items t m u. Complete.program_complete u
