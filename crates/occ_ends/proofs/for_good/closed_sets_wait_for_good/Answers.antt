use Rattle.occ_ends.proofs.ClosedSets.{closed_sets_wait_for_good}
use Rattle.occ_ends.proofs.for_good.closed_sets_wait_for_good.Goals as goal

pub returns : goal.returns
returns c = closed_sets_wait_for_good
