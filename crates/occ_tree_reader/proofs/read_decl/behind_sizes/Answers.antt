use Rattle.std.proofs.Common.{arith}
use Rattle.std.proofs.lemmas.Grind.{common_steps}
use Rattle.occ_tree_reader.proofs.read_decl.behind_sizes.Goals as goal

pub returns-in_err-carried-in-Key : goal.returns-in_err-carried-in-Key
returns-in_err-carried-in-Key c = grind (arith, common_steps)

pub returns-in_err-of-in_default : goal.returns-in_err-of-in_default
returns-in_err-of-in_default c = grind (arith, common_steps)

pub returns-in_ok-carried-in-Key : goal.returns-in_ok-carried-in-Key
returns-in_ok-carried-in-Key c = grind (arith, common_steps)

pub returns-in_ok-of-in_default : goal.returns-in_ok-of-in_default
returns-in_ok-of-in_default c = grind (arith, common_steps)
