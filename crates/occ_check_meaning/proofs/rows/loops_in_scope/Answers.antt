use Rattle.occ_check_meaning.proofs.Computed as Rows
use Rattle.occ_check_meaning.proofs.rows.loops_in_scope.Goals as goal

pub returns : goal.returns
returns c = Rows.loops_in_scope
