use Rattle.occ_play.proofs.Again as again
use Rattle.occ_play.proofs.laws.played_alone.Goals as goal

pub returns : goal.returns
returns c = again.played_alone
