use Rattle.std.proofs.Common.{arith}
use Rattle.std.proofs.lemmas.Grind.{common_steps}
use Rattle.occ_tree_grammar.specs.Lines.Reading.{formals_at}
use Rattle.occ_tree_reader.proofs.kind.formals.Goals as goal

pub returns-in_err-spec-in_default : goal.returns-in_err-spec-in_default
unfolding formals_at
returns-in_err-spec-in_default c = grind (arith, common_steps)

pub returns-in_err-name-in_default : goal.returns-in_err-name-in_default
unfolding formals_at
returns-in_err-name-in_default c = grind (arith, common_steps)

pub returns-in_err-others-in_default : goal.returns-in_err-others-in_default
unfolding formals_at
returns-in_err-others-in_default c = grind (arith, common_steps)

pub returns-in_err-rest-in_default : goal.returns-in_err-rest-in_default
unfolding formals_at
returns-in_err-rest-in_default c = grind (arith, common_steps)

pub returns-in-Sym : goal.returns-in-Sym
unfolding formals_at
returns-in-Sym c = grind (arith, common_steps)

pub returns-in_ok-formals-in_default : goal.returns-in_ok-formals-in_default
unfolding formals_at
returns-in_ok-formals-in_default c = grind (arith, common_steps)

pub returns-in_err-formals-in_default : goal.returns-in_err-formals-in_default
unfolding formals_at
returns-in_err-formals-in_default c = grind (arith, common_steps)
