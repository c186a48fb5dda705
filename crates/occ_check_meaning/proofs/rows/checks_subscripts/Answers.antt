use Rattle.occ_check_meaning.proofs.Computed as Rows
use Rattle.occ_check_meaning.proofs.rows.checks_subscripts.Goals as goal

pub returns : goal.returns
returns c = record { above = Rows.above; below = Rows.below }
