use Rattle.occ_laws.proofs.UsageExamples.{reads_clash}
use Rattle.occ_laws.proofs.usage.reads_clash.Goals as goal

pub returns : goal.returns
returns c = reads_clash
