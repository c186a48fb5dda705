use Rattle.occ_term.proofs.RestOnReads.{values_rest_on_reads}
use Rattle.occ_laws.proofs.usage.values_rest_on_reads.Goals as goal

pub returns : goal.returns
returns c = values_rest_on_reads
