use Rattle.std.proofs.Common.{arith}
use Rattle.std.proofs.lemmas.Grind.{common_steps}
use Rattle.occ_tree_grammar.specs.Lines.Reading.{target_at}
use Rattle.occ_tree_reader.proofs.item.target.Goals as goal

pub returns-in_err-first : goal.returns-in_err-first
unfolding target_at
returns-in_err-first c = grind (arith, common_steps)

pub returns-in_err-array-in-Sym : goal.returns-in_err-array-in-Sym
unfolding target_at
returns-in_err-array-in-Sym c = grind (arith, common_steps)

pub returns-in_ok-array-in-Sym : goal.returns-in_ok-array-in-Sym
unfolding target_at
returns-in_ok-array-in-Sym c = grind (arith, common_steps)

pub returns-in_default : goal.returns-in_default
unfolding target_at
returns-in_default c = grind (arith, common_steps)
