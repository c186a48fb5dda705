use Rattle.occ_live_laws.proofs.Deaf.{others_are_deaf}
use Rattle.occ_live_laws.proofs.others_are_deaf.Goals as goal

pub returns : goal.returns
returns c = others_are_deaf
