use Rattle.occ_check_meaning.proofs.Computed as Rows
use Rattle.occ_check_meaning.proofs.rows.decides_by_the_left.Goals as goal

pub returns : goal.returns
returns c = Rows.decides_by_the_left
