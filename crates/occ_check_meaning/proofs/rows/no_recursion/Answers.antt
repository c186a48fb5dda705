use Rattle.occ_check_meaning.proofs.Computed as Rows
use Rattle.occ_check_meaning.proofs.rows.no_recursion.Goals as goal

pub returns : goal.returns
returns c = record { called = Rows.called; idle = Rows.not_called }
