use Rattle.std.proofs.Common.{arith}
use Rattle.std.proofs.lemmas.Grind.{common_steps}
use Rattle.occ_check_lines.proofs.measuring.count_item.Goals as goal

pub returns-in_err-count_expression-in-Counted : goal.returns-in_err-count_expression-in-Counted
returns-in_err-count_expression-in-Counted c = grind (arith, common_steps)

pub returns-in-One : goal.returns-in-One
returns-in-One c = grind (arith, common_steps)

pub returns-in-Many : goal.returns-in-Many
returns-in-Many c = grind (arith, common_steps)

pub returns-in_ok-count_expression-in-Counted : goal.returns-in_ok-count_expression-in-Counted
returns-in_ok-count_expression-in-Counted c = grind (arith, common_steps)
