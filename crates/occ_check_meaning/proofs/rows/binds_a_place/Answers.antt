use Rattle.occ_check_meaning.proofs.Computed as Rows
use Rattle.occ_check_meaning.proofs.rows.binds_a_place.Goals as goal

pub returns : goal.returns
returns c = Rows.binds_a_place
