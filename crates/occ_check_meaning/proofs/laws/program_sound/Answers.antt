use Rattle.occ_check_meaning.proofs.SoundTree as Tree
use Rattle.occ_check_meaning.proofs.laws.program_sound.Goals as goal

pub returns : goal.returns
returns c = λ items t m e. Tree.program_sound items (t, m) e
