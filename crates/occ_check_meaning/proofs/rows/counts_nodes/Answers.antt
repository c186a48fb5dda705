use Rattle.occ_check_meaning.proofs.Computed as Rows
use Rattle.occ_check_meaning.proofs.rows.counts_nodes.Goals as goal

pub returns : goal.returns
returns c = Rows.counts_nodes
