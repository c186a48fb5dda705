use Rattle.occ_term.proofs.Priority.{priority_takes_first}
use Rattle.occ_term.specs.Selecting.{waits_for}
use Rattle.occ_term.proofs.laws.selecting.priority_takes_first.Goals as goal

pub returns : goal.returns
returns c = priority_takes_first waits_for
