use Rattle.occ_live_laws.proofs.Shown.{shown_grows}
use Rattle.occ_live_laws.proofs.shown_grows.Goals as goal

pub returns : goal.returns
returns c = shown_grows
