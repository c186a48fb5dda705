use Rattle.occ_check_meaning.proofs.Computed as Rows
use Rattle.occ_check_meaning.proofs.rows.sizes_take_cells.Goals as goal

pub returns : goal.returns
returns c = record { carried = Rows.carries_large; held = Rows.holds_no_large }
