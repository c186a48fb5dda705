use Rattle.occ_laws.proofs.NetworkExamples.{echo_plays}
use Rattle.occ_laws.proofs.networks.echo.Goals as goal

pub returns : goal.returns
returns c = echo_plays
