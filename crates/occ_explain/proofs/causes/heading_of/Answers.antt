use Rattle.occ_explain.specs.Causes.{heading_of}
use Rattle.occ_explain.proofs.causes.heading_of.Goals as goal

pub returns : goal.returns
unfolding heading_of
returns c = c.find.ensures
