use Rattle.std.proofs.Common.{arith}
use Rattle.std.proofs.lemmas.Grind.{common_steps}
use Rattle.occ_tree_grammar.specs.Lines.Reading.{received_at}
use Rattle.occ_tree_reader.proofs.item.behind_question.Goals as goal

pub returns-in_err-into-in-Key-2 : goal.returns-in_err-into-in-Key-2
unfolding received_at
returns-in_err-into-in-Key-2 c = grind (arith, common_steps)

pub returns-in_err-tag-in-Key-2 : goal.returns-in_err-tag-in-Key-2
unfolding received_at
returns-in_err-tag-in-Key-2 c = grind (arith, common_steps)

pub returns-in-Key : goal.returns-in-Key
unfolding received_at
returns-in-Key c = grind (arith, common_steps)

pub returns-in-empty : goal.returns-in-empty
unfolding received_at
returns-in-empty c = grind (arith, common_steps)

pub returns-in_default-rest : goal.returns-in_default-rest
unfolding received_at
returns-in_default-rest c = grind (arith, common_steps)

pub returns-in_default : goal.returns-in_default
unfolding received_at
returns-in_default c = grind (arith, common_steps)
