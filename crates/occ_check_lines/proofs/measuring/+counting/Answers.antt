use Rattle.std.proofs.Common.{arith}
use Rattle.std.proofs.lemmas.Grind.{common_steps}
use Rattle.occ_check_lines.proofs.measuring.+counting.Goals as goal

pub count_expression-returns : goal.count_expression-returns
count_expression-returns t c = grind (arith, common_steps)

pub count_subscripts-returns : goal.count_subscripts-returns
count_subscripts-returns t c = grind (arith, common_steps)
