use Rattle.std.proofs.Common.{subst}
use Rattle.occ_tree_grammar.specs.Expressions.Trees.{alone}
use Rattle.occ_tree_grammar.specs.Lines.Trees.{from}
use Rattle.occ_check_meaning.specs.Items.{as_name}
use Rattle.occ_check_lines.specs.View.{Gives}
use Rattle.occ_check_lines.proofs.Expressions.{variable_given}
use Rattle.occ_check_lines.proofs.item.name_of_operand.Goals as goal

pub returns-in-Variable : goal.returns-in-Variable
returns-in-Variable c =
    subst (λ y. Gives (λ x. x.now) c.name_without.result (as_name (from (alone y))))
    (variable_given _ _ _ _ c.in-Variable.is c.deref.ensures.value) c.name_without.ensures
