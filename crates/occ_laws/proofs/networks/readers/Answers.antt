use Rattle.occ_laws.proofs.NetworkExamples.{readers_plays}
use Rattle.occ_laws.proofs.networks.readers.Goals as goal

pub returns : goal.returns
returns c = readers_plays
