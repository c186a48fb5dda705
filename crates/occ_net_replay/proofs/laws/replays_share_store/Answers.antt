use Rattle.occ_net_replay.proofs.Law.{replays_share_store}
use Rattle.occ_net_replay.proofs.laws.replays_share_store.Goals as goal

pub returns : goal.returns
returns c = replays_share_store
