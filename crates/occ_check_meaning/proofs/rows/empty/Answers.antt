use Rattle.occ_check_meaning.proofs.Computed as Rows
use Rattle.occ_check_meaning.proofs.rows.empty.Goals as goal

pub returns : goal.returns
returns c = Rows.empty
