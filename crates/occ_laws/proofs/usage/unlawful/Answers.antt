use Rattle.occ_laws.proofs.UsageExamples.{unlawful}
use Rattle.occ_laws.proofs.usage.unlawful.Goals as goal

pub returns : goal.returns
returns c = unlawful
