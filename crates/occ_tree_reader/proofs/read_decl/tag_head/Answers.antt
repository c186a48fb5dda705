use Rattle.std.proofs.Common.{arith}
use Rattle.std.proofs.lemmas.Grind.{common_steps}
use Rattle.occ_tree_grammar.specs.Lines.HeadReading.{tag_head_at}
use Rattle.occ_tree_reader.proofs.read_decl.tag_head.Goals as goal

pub returns-in_err-parts-in-Name : goal.returns-in_err-parts-in-Name
unfolding tag_head_at
returns-in_err-parts-in-Name c = grind (arith, common_steps)

pub returns-in_err-tag-in-Name : goal.returns-in_err-tag-in-Name
unfolding tag_head_at
returns-in_err-tag-in-Name c = grind (arith, common_steps)

pub returns-in-empty : goal.returns-in-empty
unfolding tag_head_at
returns-in-empty c = grind (arith, common_steps)

pub returns-in_default-rest : goal.returns-in_default-rest
unfolding tag_head_at
returns-in_default-rest c = grind (arith, common_steps)

pub returns-in_default : goal.returns-in_default
unfolding tag_head_at
returns-in_default c = grind (arith, common_steps)
