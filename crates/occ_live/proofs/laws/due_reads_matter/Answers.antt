use Rattle.occ_live.proofs.Runs.{due_reads_matter}
use Rattle.occ_live.proofs.laws.due_reads_matter.Goals as goal

pub returns : goal.returns
returns c = due_reads_matter
