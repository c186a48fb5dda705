use Rattle.occ_laws.proofs.NetworkExamples.{counted_plays}
use Rattle.occ_laws.proofs.networks.counted.Goals as goal

pub returns : goal.returns
returns c = counted_plays
