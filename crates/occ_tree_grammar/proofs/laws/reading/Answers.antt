use Rattle.occ_tree_grammar.proofs.ProcessSound.{program_sound}
use Rattle.occ_tree_grammar.proofs.ProcessAgain.{program_again}
use Rattle.occ_tree_grammar.proofs.laws.reading.Goals as goal

pub returns-clause-sound : goal.returns-clause-sound
returns-clause-sound c = program_sound

pub returns-clause-again : goal.returns-clause-again
returns-clause-again c = program_again
