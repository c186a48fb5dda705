use Rattle.occ_code.proofs.RunningExpressions as expressions
use Rattle.occ_code.proofs.laws.expressions_run.Goals as goal

pub returns : goal.returns
returns c = expressions.expressions_run
