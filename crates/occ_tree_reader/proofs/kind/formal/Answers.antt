use Rattle.std.proofs.Common.{arith}
use Rattle.std.proofs.lemmas.Grind.{common_steps}
use Rattle.occ_tree_grammar.specs.Lines.Reading.{formal_at}
use Rattle.occ_tree_reader.proofs.kind.formal.Goals as goal

pub returns-in_err-name-in-Name : goal.returns-in_err-name-in-Name
unfolding formal_at
returns-in_err-name-in-Name c = grind (arith, common_steps)

pub returns-in_err-spec-in_default : goal.returns-in_err-spec-in_default
unfolding formal_at
returns-in_err-spec-in_default c = grind (arith, common_steps)

pub returns-in_err-name-in_default : goal.returns-in_err-name-in_default
unfolding formal_at
returns-in_err-name-in_default c = grind (arith, common_steps)

pub returns-in_ok-name-in-Name : goal.returns-in_ok-name-in-Name
unfolding formal_at
returns-in_ok-name-in-Name c = grind (arith, common_steps)

pub returns-in_ok-name-in_default : goal.returns-in_ok-name-in_default
unfolding formal_at
returns-in_ok-name-in_default c = grind (arith, common_steps)
