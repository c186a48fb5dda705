use Rattle.std.proofs.Common.{arith}
use Rattle.std.proofs.lemmas.Grind.{common_steps}
use Rattle.occ_tree_reader.proofs.read_decl.behind_protocol.Goals as goal

pub returns-in_err-copy-in-Name : goal.returns-in_err-copy-in-Name
returns-in_err-copy-in-Name c = grind (arith, common_steps)

pub returns-in_err-first-in-Name-2 : goal.returns-in_err-first-in-Name-2
returns-in_err-first-in-Name-2 c = grind (arith, common_steps)

pub returns-in_err-others-in-Name-2 : goal.returns-in_err-others-in-Name-2
returns-in_err-others-in-Name-2 c = grind (arith, common_steps)

pub returns-in_err-rest-in-Name-2 : goal.returns-in_err-rest-in-Name-2
returns-in_err-rest-in-Name-2 c = grind (arith, common_steps)

pub returns-in_err-name-in-Name-2 : goal.returns-in_err-name-in-Name-2
returns-in_err-name-in-Name-2 c = grind (arith, common_steps)

pub returns-in_ok-copy-in-Name : goal.returns-in_ok-copy-in-Name
returns-in_ok-copy-in-Name c = grind (arith, common_steps)

pub returns-in_ok-name-in-Name-2 : goal.returns-in_ok-name-in-Name-2
returns-in_ok-name-in-Name-2 c = grind (arith, common_steps)

pub returns-in_default : goal.returns-in_default
returns-in_default c = grind (arith, common_steps)
