use Rattle.occ_check_meaning.proofs.CountingTree.{unfolding_counted, program_counted}
use Rattle.occ_check_meaning.proofs.well_formed.counted.Goals as goal

pub returns : goal.returns
returns c = record { part = λ sc depth n m p t u. unfolding_counted u; whole = λ items t m u. program_counted u }
