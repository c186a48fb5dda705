use Rattle.occ_check_meaning.proofs.Growth.{unfolding_grown, program_grown, start_limits}
use Rattle.occ_check_meaning.proofs.well_formed.only_grows.Goals as goal

pub returns : goal.returns
returns c = record { part = λ sc depth n m p t u. unfolding_grown u; whole = λ items t m u. (program_grown u, (program_grown u).limits start_limits) }
