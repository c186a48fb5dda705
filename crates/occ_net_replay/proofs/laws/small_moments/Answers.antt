use Rattle.occ_net_replay.proofs.MomentExamples.{either_arm_rows, missing_rows, other_arm_rows, other_stop_rows, other_store_rows, same_stop_rows, unquiet_rows}
use Rattle.occ_net_replay.proofs.laws.small_moments.Goals as goal

pub returns-clause-same : goal.returns-clause-same
returns-clause-same c = same_stop_rows

pub returns-clause-other : goal.returns-clause-other
returns-clause-other c = other_stop_rows

pub returns-clause-missing : goal.returns-clause-missing
returns-clause-missing c = missing_rows

pub returns-clause-unquiet : goal.returns-clause-unquiet
returns-clause-unquiet c = unquiet_rows

pub returns-clause-store : goal.returns-clause-store
returns-clause-store c = other_store_rows

pub returns-clause-either : goal.returns-clause-either
returns-clause-either c = either_arm_rows

pub returns-clause-arm : goal.returns-clause-arm
returns-clause-arm c = other_arm_rows
