use Rattle.occ_laws.proofs.NetworkExamples.{pipeline_plays}
use Rattle.occ_laws.proofs.networks.pipeline.Goals as goal

pub returns : goal.returns
returns c = pipeline_plays
