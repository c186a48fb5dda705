use Rattle.std.proofs.Common.{arith}
use Rattle.std.proofs.lemmas.Grind.{common_steps}
use Rattle.occ_tree_grammar.specs.Lines.HeadReading.{decl_head_at}
use Rattle.occ_tree_reader.proofs.read_decl.decl_head.Goals as goal

pub returns-in-Key : goal.returns-in-Key
unfolding decl_head_at
returns-in-Key c = grind (arith, common_steps)

pub returns-in-Key-2 : goal.returns-in-Key-2
unfolding decl_head_at
returns-in-Key-2 c = grind (arith, common_steps)

pub returns-in-Key-3 : goal.returns-in-Key-3
unfolding decl_head_at
returns-in-Key-3 c = grind (arith, common_steps)

pub returns-in_default : goal.returns-in_default
unfolding decl_head_at
returns-in_default c = grind (arith, common_steps)
