use Rattle.std.proofs.Common.{arith}
use Rattle.std.proofs.lemmas.Grind.{common_steps}
use Rattle.occ_check_lines.proofs.measuring.count_tagged_input.Goals as goal

pub returns-in_err-node : goal.returns-in_err-node
returns-in_err-node c = grind (arith, common_steps)

pub returns-in_err-count_place : goal.returns-in_err-count_place
returns-in_err-count_place c = grind (arith, common_steps)

pub returns-in_err-node-2 : goal.returns-in_err-node-2
returns-in_err-node-2 c = grind (arith, common_steps)

pub returns-in_err-count_targets : goal.returns-in_err-count_targets
returns-in_err-count_targets c = grind (arith, common_steps)

pub returns : goal.returns
returns c = grind (arith, common_steps)
