use Rattle.occ_check_meaning.proofs.Computed as Rows
use Rattle.occ_check_meaning.proofs.rows.refuses_overlap.Goals as goal

pub returns : goal.returns
returns c = Rows.refuses_overlap
