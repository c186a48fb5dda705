use Rattle.occ_choices.proofs.Files as files
use Rattle.occ_choices.proofs.laws.written_is_read.Goals as goal

pub returns : goal.returns
returns c = files.written_is_read
