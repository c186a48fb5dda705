use Rattle.occ_check_meaning.proofs.ScopedTree as Scoped
use Rattle.occ_check_meaning.proofs.well_formed.arms_set_the_same_again.Goals as goal

pub returns : goal.returns
returns c = λ items t m u. Scoped.arms_set_the_same_again u
