use Rattle.occ_net_replay.proofs.Examples.{choice_rows, ending_rows, fork_rows, meeting_rows, noted_rows, priority, stop_rows, turn_rows}
use Rattle.occ_net_replay.proofs.laws.small_networks.Goals as goal

pub returns-clause-turns : goal.returns-clause-turns
returns-clause-turns c = turn_rows

pub returns-clause-meetings : goal.returns-clause-meetings
returns-clause-meetings c = meeting_rows

pub returns-clause-choices : goal.returns-clause-choices
returns-clause-choices c = choice_rows

pub returns-clause-priority : goal.returns-clause-priority
returns-clause-priority c = priority

pub returns-clause-forks : goal.returns-clause-forks
returns-clause-forks c = fork_rows

pub returns-clause-noted : goal.returns-clause-noted
returns-clause-noted c = noted_rows

pub returns-clause-endings : goal.returns-clause-endings
returns-clause-endings c = ending_rows

pub returns-clause-stops : goal.returns-clause-stops
returns-clause-stops c = stop_rows
