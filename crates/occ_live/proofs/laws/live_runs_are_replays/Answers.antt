use Rattle.occ_live.proofs.Runs.{is_replayed}
use Rattle.occ_live.proofs.laws.live_runs_are_replays.Goals as goal

pub returns : goal.returns
returns c = λ p list. is_replayed p list
