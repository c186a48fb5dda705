use Rattle.occ_live_laws.proofs.Live.{live_replays}
use Rattle.occ_live_laws.proofs.live_replays.Goals as goal

pub returns : goal.returns
returns c = live_replays
