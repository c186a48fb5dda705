use Rattle.occ_laws.proofs.ExpressionExamples.{swap_plays}
use Rattle.occ_laws.proofs.expressions.swap.Goals as goal

pub returns : goal.returns
returns c = swap_plays
