use Rattle.occ_term.proofs.RestOnReads.{items_rest_on_reads}
use Rattle.occ_laws.proofs.usage.items_rest_on_reads.Goals as goal

pub returns : goal.returns
returns c = items_rest_on_reads
