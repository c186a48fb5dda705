use Rattle.occ_check_meaning.proofs.Computed as Rows
use Rattle.occ_check_meaning.proofs.rows.names_a_value.Goals as goal

pub returns : goal.returns
returns c = Rows.names_a_value
