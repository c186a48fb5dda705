use Rattle.occ_live_laws.proofs.More.{turns_with_more}
use Rattle.occ_live_laws.proofs.turns_with_more.Goals as goal

pub returns : goal.returns
returns c = turns_with_more
