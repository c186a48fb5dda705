use Rattle.occ_usage.proofs.UseSets.{adds_one}
use Rattle.occ_usage.proofs.noted.Noted.push.Goals as goal

pub returns : goal.returns
returns c = adds_one _ c.in_ok-push.ensures.ok
