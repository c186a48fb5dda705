use Rattle.std.proofs.Common.{arith}
use Rattle.std.proofs.lemmas.Grind.{common_steps}
use Rattle.occ_tree_grammar.specs.Lines.HeadReading.{process_head_at}
use Rattle.occ_tree_reader.proofs.read_head.process_head.Goals as goal

pub returns-in_err-replicator-in-Key-6 : goal.returns-in_err-replicator-in-Key-6
unfolding process_head_at
returns-in_err-replicator-in-Key-6 c = grind (arith, common_steps)

pub returns-in_err-replicator-in-Key-7 : goal.returns-in_err-replicator-in-Key-7
unfolding process_head_at
returns-in_err-replicator-in-Key-7 c = grind (arith, common_steps)

pub returns-in_err-replicator-in-Key-5 : goal.returns-in_err-replicator-in-Key-5
unfolding process_head_at
returns-in_err-replicator-in-Key-5 c = grind (arith, common_steps)

pub returns-in_err-replicator-in-Key-4 : goal.returns-in_err-replicator-in-Key-4
unfolding process_head_at
returns-in_err-replicator-in-Key-4 c = grind (arith, common_steps)

pub returns-in_err-replicator-in-Key-3 : goal.returns-in_err-replicator-in-Key-3
unfolding process_head_at
returns-in_err-replicator-in-Key-3 c = grind (arith, common_steps)

pub returns-in_ok-replicator-in-Key-6 : goal.returns-in_ok-replicator-in-Key-6
unfolding process_head_at
returns-in_ok-replicator-in-Key-6 c = grind (arith, common_steps)

pub returns-in-Name : goal.returns-in-Name
unfolding process_head_at
returns-in-Name c = grind (arith, common_steps)

pub returns-in-Key-9 : goal.returns-in-Key-9
unfolding process_head_at
returns-in-Key-9 c = grind (arith, common_steps)

pub returns-in-Key-8 : goal.returns-in-Key-8
unfolding process_head_at
returns-in-Key-8 c = grind (arith, common_steps)

pub returns-in_ok-replicator-in-Key-7 : goal.returns-in_ok-replicator-in-Key-7
unfolding process_head_at
returns-in_ok-replicator-in-Key-7 c = grind (arith, common_steps)

pub returns-in_ok-replicator-in-Key-5 : goal.returns-in_ok-replicator-in-Key-5
unfolding process_head_at
returns-in_ok-replicator-in-Key-5 c = grind (arith, common_steps)

pub returns-in_ok-replicator-in-Key-4 : goal.returns-in_ok-replicator-in-Key-4
unfolding process_head_at
returns-in_ok-replicator-in-Key-4 c = grind (arith, common_steps)

pub returns-in_ok-replicator-in-Key-3 : goal.returns-in_ok-replicator-in-Key-3
unfolding process_head_at
returns-in_ok-replicator-in-Key-3 c = grind (arith, common_steps)

pub returns-in-Key-2 : goal.returns-in-Key-2
unfolding process_head_at
returns-in-Key-2 c = grind (arith, common_steps)

pub returns-in-Key : goal.returns-in-Key
unfolding process_head_at
returns-in-Key c = grind (arith, common_steps)

pub returns-in_default : goal.returns-in_default
unfolding process_head_at
returns-in_default c = grind (arith, common_steps)
