use Rattle.occ_laws.proofs.ExpressionExamples.{chain_plays}
use Rattle.occ_laws.proofs.expressions.chain.Goals as goal

pub returns : goal.returns
returns c = chain_plays
