use Rattle.occ_live_laws.proofs.Live.{live_at_end}
use Rattle.occ_live_laws.proofs.live_at_end.Goals as goal

pub returns : goal.returns
returns c = live_at_end
