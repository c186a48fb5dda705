use Rattle.std.proofs.Common.{ap, Some}
use Rattle.occ_tree_grammar.specs.Expressions.Trees.{Expressions}
use Rattle.occ_tree_grammar.proofs.Children.{expressions_made}
use Rattle.occ_check.proofs.call.named_operand.Goals as goal

pub returns-in-Variable : goal.returns-in-Variable
returns-in-Variable c =
    rw (c.in-Variable.is, c.deref.ensures.value)
    (ap (λ (es : Expressions). Some (c.in-Variable.name, es)) (expressions_made c.in-Variable.subscripts))
