use Rattle.occ_check_meaning.proofs.Computed as Rows
use Rattle.occ_check_meaning.proofs.rows.copies_have_constants.Goals as goal

pub returns : goal.returns
returns c = record { copies = Rows.copies_have_constants; names = Rows.copies_names }
