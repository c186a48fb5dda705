use Rattle.occ_laws.proofs.UsageExamples.{accepts}
use Rattle.occ_laws.proofs.usage.accepts.Goals as goal

pub returns : goal.returns
returns c = accepts
