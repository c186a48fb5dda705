use Rattle.occ_check_meaning.proofs.Computed as Rows
use Rattle.occ_check_meaning.proofs.rows.gives_a_value_once.Goals as goal

pub returns : goal.returns
returns c = Rows.gives_a_value_once
