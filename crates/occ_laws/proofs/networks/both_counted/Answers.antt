use Rattle.occ_laws.proofs.NetworkExamples.{both_counted_plays}
use Rattle.occ_laws.proofs.networks.both_counted.Goals as goal

pub returns : goal.returns
returns c = both_counted_plays
