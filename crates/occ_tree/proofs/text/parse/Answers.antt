use Rattle.std.proofs.Common.{Option, List, subst}
use Rattle.occ_text.specs.Words.{logical_lines}
use Rattle.occ_tree_grammar.specs.Expressions.Reading.{Gives}
use Rattle.occ_tree_grammar.specs.Processes.Trees.{Item}
use Rattle.occ_tree_grammar.specs.Processes.Views.{program_of}
use Rattle.occ_tree_grammar.proofs.Whole.{is_found, is_read}
use Rattle.occ_tree.proofs.text.parse.Goals as goal

pub returns-clause-found : goal.returns-clause-found
returns-clause-found c = is_found (logical_lines c.args.source.now.lines.items) c.program.result (rw c.as_slice-lines.ensures.value at c.program.ensures)

pub returns-clause-only : goal.returns-clause-only
returns-clause-only c = λ p f h. subst (λ (o : Option (List Item)). Gives program_of c.program.result o) (is_read (logical_lines c.args.source.now.lines.items) p f h) (rw c.as_slice-lines.ensures.value at c.program.ensures)
