use Rattle.occ_check_meaning.proofs.SoundTree.{unfolded_sound, every_sound}
use Rattle.occ_check_meaning.proofs.laws.sound.Goals as goal

pub returns : goal.returns
returns c = λ sc depth n m p t e. unfolded_sound p sc (every_sound sc) depth n (t, m) e
