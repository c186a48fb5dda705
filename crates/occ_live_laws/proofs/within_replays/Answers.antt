use Rattle.occ_live_laws.proofs.Live.{within_replays}
use Rattle.occ_live_laws.proofs.within_replays.Goals as goal

pub returns : goal.returns
returns c = within_replays
