use Rattle.std.proofs.Common.{arith}
use Rattle.std.proofs.lemmas.Grind.{common_steps}
use Rattle.occ_tree_grammar.specs.Lines.Reading.{actuals_at}
use Rattle.occ_tree_reader.proofs.item.actuals.Goals as goal

pub returns-in_err-first-in_default : goal.returns-in_err-first-in_default
unfolding actuals_at
returns-in_err-first-in_default c = grind (arith, common_steps)

pub returns-in_err-others-in_default : goal.returns-in_err-others-in_default
unfolding actuals_at
returns-in_err-others-in_default c = grind (arith, common_steps)

pub returns-in_err-rest-in_default : goal.returns-in_err-rest-in_default
unfolding actuals_at
returns-in_err-rest-in_default c = grind (arith, common_steps)

pub returns-in-Sym : goal.returns-in-Sym
unfolding actuals_at
returns-in-Sym c = grind (arith, common_steps)

pub returns-in_ok-rest-in_default : goal.returns-in_ok-rest-in_default
unfolding actuals_at
returns-in_ok-rest-in_default c = grind (arith, common_steps)
