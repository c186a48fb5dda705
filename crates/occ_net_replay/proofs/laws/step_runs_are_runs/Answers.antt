use Rattle.occ_net_replay.proofs.Stepping.{step_runs_are_runs}
use Rattle.occ_net_replay.proofs.laws.step_runs_are_runs.Goals as goal

pub returns : goal.returns
returns c = step_runs_are_runs
