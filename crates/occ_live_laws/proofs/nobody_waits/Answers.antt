use Rattle.occ_live_laws.proofs.Live.{nobody_waits}
use Rattle.occ_live_laws.proofs.nobody_waits.Goals as goal

pub returns : goal.returns
returns c = nobody_waits
