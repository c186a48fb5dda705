use Rattle.occ_ends.proofs.Circles.{circles_wait_for_good}
use Rattle.occ_ends.proofs.for_good.circles_wait_for_good.Goals as goal

pub returns : goal.returns
returns c = circles_wait_for_good
