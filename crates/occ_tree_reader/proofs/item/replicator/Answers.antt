use Rattle.std.proofs.Common.{arith}
use Rattle.std.proofs.lemmas.Grind.{common_steps}
use Rattle.occ_tree_grammar.specs.Lines.Reading.{replicator_at}
use Rattle.occ_tree_reader.proofs.item.replicator.Goals as goal

pub returns-in_err-base-in-Name : goal.returns-in_err-base-in-Name
unfolding replicator_at
returns-in_err-base-in-Name c = grind (arith, common_steps)

pub returns-in_err-rest-in-Name : goal.returns-in_err-rest-in-Name
unfolding replicator_at
returns-in_err-rest-in-Name c = grind (arith, common_steps)

pub returns-in_err-count-in-Name : goal.returns-in_err-count-in-Name
unfolding replicator_at
returns-in_err-count-in-Name c = grind (arith, common_steps)

pub returns-in_err-name-in-Name : goal.returns-in_err-name-in-Name
unfolding replicator_at
returns-in_err-name-in-Name c = grind (arith, common_steps)

pub returns-in-empty : goal.returns-in-empty
unfolding replicator_at
returns-in-empty c = grind (arith, common_steps)

pub returns-in_ok-name-in-Name : goal.returns-in_ok-name-in-Name
unfolding replicator_at
returns-in_ok-name-in-Name c = grind (arith, common_steps)

pub returns-in_default : goal.returns-in_default
unfolding replicator_at
returns-in_default c = grind (arith, common_steps)
