use Rattle.occ_tree_grammar.proofs.ProcessAgain.{one_program}
use Rattle.occ_tree_grammar.proofs.Whole.{one_tree}
use Rattle.occ_tree_grammar.proofs.laws.one_form.Goals as goal

pub returns-clause-within : goal.returns-clause-within
returns-clause-within c = one_tree

pub returns-clause-under_any_bounds : goal.returns-clause-under_any_bounds
returns-clause-under_any_bounds c = one_program
