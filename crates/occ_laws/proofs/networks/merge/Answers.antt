use Rattle.occ_laws.proofs.NetworkExamples.{merge_plays}
use Rattle.occ_laws.proofs.networks.merge.Goals as goal

pub returns : goal.returns
returns c = merge_plays
