use Rattle.std.proofs.Common.{arith}
use Rattle.std.proofs.lemmas.Grind.{common_steps}
use Rattle.occ_tree_reader.proofs.kind.part_behind.Goals as goal

pub returns-in_err-components-in-Sym : goal.returns-in_err-components-in-Sym
returns-in_err-components-in-Sym c = grind (arith, common_steps)

pub returns-in-Sym : goal.returns-in-Sym
returns-in-Sym c = grind (arith, common_steps)

pub returns : goal.returns
returns c = grind (arith, common_steps)
