use Rattle.std.proofs.Common.{arith}
use Rattle.std.proofs.lemmas.Grind.{common_steps}
use Rattle.occ_check_lines.proofs.measuring.count_target.Goals as goal

pub returns-in_err-node-in-Into : goal.returns-in_err-node-in-Into
returns-in_err-node-in-Into c = grind (arith, common_steps)

pub returns-in_err-node-in-IntoCounted : goal.returns-in_err-node-in-IntoCounted
returns-in_err-node-in-IntoCounted c = grind (arith, common_steps)

pub returns-in_err-count_place-in-IntoCounted : goal.returns-in_err-count_place-in-IntoCounted
returns-in_err-count_place-in-IntoCounted c = grind (arith, common_steps)

pub returns-in_ok-node-in-Into : goal.returns-in_ok-node-in-Into
returns-in_ok-node-in-Into c = grind (arith, common_steps)

pub returns-in_ok-count_place-in-IntoCounted : goal.returns-in_ok-count_place-in-IntoCounted
returns-in_ok-count_place-in-IntoCounted c = grind (arith, common_steps)
