use Rattle.occ_live_laws.proofs.Shown.{ends_for_all}
use Rattle.occ_live_laws.proofs.ends_for_all.Goals as goal

pub returns : goal.returns
returns c u p quantum read more first since net last e live ended g = ends_for_all u p quantum read more first since net last live g e ended
