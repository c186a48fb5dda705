use Rattle.occ_check_meaning.proofs.Computed as Rows
use Rattle.occ_check_meaning.proofs.rows.copies_none.Goals as goal

pub returns : goal.returns
returns c = Rows.copies_none
