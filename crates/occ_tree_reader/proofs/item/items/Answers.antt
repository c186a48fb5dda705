use Rattle.std.proofs.Common.{arith}
use Rattle.std.proofs.lemmas.Grind.{common_steps}
use Rattle.occ_tree_grammar.specs.Lines.Reading.{target_at, var_at}
use Rattle.occ_tree_reader.proofs.item.items.Goals as goal

pub returns-in-Key : goal.returns-in-Key
unfolding target_at var_at
returns-in-Key c = grind (arith, common_steps)
