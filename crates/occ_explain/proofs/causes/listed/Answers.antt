use Rattle.occ_explain.specs.Causes.{cause_of}
use Rattle.occ_explain.proofs.causes.listed.Goals as goal

pub returns : goal.returns
unfolding cause_of
returns c = c.find.ensures
