use Rattle.occ_tree_grammar.proofs.ExpressionSound.{expression_sound}
use Rattle.occ_tree_grammar.proofs.ExpressionAgain.{expression_again}
use Rattle.occ_tree_grammar.proofs.laws.reading_expressions.Goals as goal

pub returns-clause-sound : goal.returns-clause-sound
returns-clause-sound c = expression_sound

pub returns-clause-again : goal.returns-clause-again
returns-clause-again c = expression_again
