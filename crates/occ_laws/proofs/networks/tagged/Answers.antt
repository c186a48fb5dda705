use Rattle.occ_laws.proofs.NetworkExamples.{tagged_plays}
use Rattle.occ_laws.proofs.networks.tagged.Goals as goal

pub returns : goal.returns
returns c = tagged_plays
