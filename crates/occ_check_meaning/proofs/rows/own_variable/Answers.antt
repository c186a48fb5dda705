use Rattle.occ_check_meaning.proofs.Computed as Rows
use Rattle.occ_check_meaning.proofs.rows.own_variable.Goals as goal

pub returns : goal.returns
returns c = Rows.own_variable
