use Rattle.occ_laws.proofs.ExpressionExamples.{next_letter_plays}
use Rattle.occ_laws.proofs.expressions.next_letter.Goals as goal

pub returns : goal.returns
returns c = next_letter_plays
