use Rattle.occ_net_replay.proofs.Stepping.{ended_step_runs_are_runs}
use Rattle.occ_net_replay.proofs.laws.ended_step_runs_are_runs.Goals as goal

pub returns : goal.returns
returns c = ended_step_runs_are_runs
