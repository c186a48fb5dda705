use Rattle.std.proofs.Common.{arith}
use Rattle.std.proofs.lemmas.Grind.{common_steps}
use Rattle.occ_tree_grammar.specs.Lines.HeadReading.{option_head_at}
use Rattle.occ_tree_reader.proofs.read_head.option_head.Goals as goal

pub returns-in_err-first-in_default : goal.returns-in_err-first-in_default
unfolding option_head_at
returns-in_err-first-in_default c = grind (arith, common_steps)

pub returns-in_err-others-in_default : goal.returns-in_err-others-in_default
unfolding option_head_at
returns-in_err-others-in_default c = grind (arith, common_steps)

pub returns-in-Key : goal.returns-in-Key
unfolding option_head_at
returns-in-Key c = grind (arith, common_steps)

pub returns-in-Key-2 : goal.returns-in-Key-2
unfolding option_head_at
returns-in-Key-2 c = grind (arith, common_steps)

pub returns-in_ok-others-in_default : goal.returns-in_ok-others-in_default
unfolding option_head_at
returns-in_ok-others-in_default c = grind (arith, common_steps)
