use Rattle.occ_term.proofs.StepReads.{steps_rest_on_reads}
use Rattle.occ_laws.proofs.usage.steps_rest_on_reads.Goals as goal

pub returns : goal.returns
returns c = steps_rest_on_reads
