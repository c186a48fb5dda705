use Rattle.occ_text.proofs.LineLaws.{one_reading}
use Rattle.occ_text.proofs.laws.one_reading.Goals as goal

pub returns : goal.returns
returns c = one_reading
