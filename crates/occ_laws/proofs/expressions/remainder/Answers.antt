use Rattle.occ_laws.proofs.ExpressionExamples.{remainder_plays}
use Rattle.occ_laws.proofs.expressions.remainder.Goals as goal

pub returns : goal.returns
returns c = remainder_plays
