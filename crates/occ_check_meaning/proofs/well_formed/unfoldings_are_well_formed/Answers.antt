use Rattle.occ_check_meaning.proofs.WellFormed.{well_formed}
use Rattle.occ_check_meaning.proofs.well_formed.unfoldings_are_well_formed.Goals as goal

pub returns : goal.returns
returns c = well_formed
