use Rattle.occ_check_meaning.proofs.Limits.{keeps_limits}
use Rattle.occ_check_meaning.proofs.well_formed.limits_are_kept.Goals as goal

pub returns : goal.returns
returns c = λ items t m u. keeps_limits u
