use Rattle.occ_check_meaning.proofs.ScopedTree as Scoped
use Rattle.occ_check_meaning.proofs.well_formed.alternatives_are_scoped.Goals as goal

pub returns : goal.returns
returns c = λ items t m u. Scoped.alternatives_are_scoped u
