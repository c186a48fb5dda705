use Rattle.occ_term.proofs.Priority as priority
use Rattle.occ_net_replay.proofs.laws.priority_takes_first.Goals as goal

pub returns : goal.returns
returns c = priority.priority_takes_first (λ a. a.chan)
