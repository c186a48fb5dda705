use Rattle.occ_choices.proofs.Files as files
use Rattle.occ_choices.proofs.laws.one_reading.Goals as goal

pub returns : goal.returns
returns c = files.one_reading
