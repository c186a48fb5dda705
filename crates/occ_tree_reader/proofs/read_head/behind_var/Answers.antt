use Rattle.std.proofs.Common.{arith}
use Rattle.std.proofs.lemmas.Grind.{common_steps}
use Rattle.occ_tree_reader.proofs.read_head.behind_var.Goals as goal

pub returns-in_err-received-in-Sym : goal.returns-in_err-received-in-Sym
returns-in_err-received-in-Sym c = grind (arith, common_steps)

pub returns-in_err-first-in-Sym-2 : goal.returns-in_err-first-in-Sym-2
returns-in_err-first-in-Sym-2 c = grind (arith, common_steps)

pub returns-in_err-others-in-Sym-2 : goal.returns-in_err-others-in-Sym-2
returns-in_err-others-in-Sym-2 c = grind (arith, common_steps)

pub returns-in_ok-received-in-Sym : goal.returns-in_ok-received-in-Sym
returns-in_ok-received-in-Sym c = grind (arith, common_steps)

pub returns-in_ok-others-in-Sym-2 : goal.returns-in_ok-others-in-Sym-2
returns-in_ok-others-in-Sym-2 c = grind (arith, common_steps)

pub returns-in_default : goal.returns-in_default
returns-in_default c = grind (arith, common_steps)
