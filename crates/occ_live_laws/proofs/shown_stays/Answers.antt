use Rattle.occ_live_laws.proofs.Shown.{shown_stays}
use Rattle.occ_live_laws.proofs.shown_stays.Goals as goal

pub returns : goal.returns
returns c = shown_stays
