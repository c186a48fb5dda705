use Rattle.std.proofs.Common.{◌≡◌, Some, sym, ap, ◌∙◌, map}
use Rattle.occ_tree_grammar.specs.declared.tree.expr.Operand.{Operand}
use Rattle.occ_tree_grammar.specs.Expressions.Trees.{Expressions, operand_of, expression_of, expressions}
use Rattle.occ_tree_grammar.specs.Lines.Trees.{var}
use Rattle.occ_tree_grammar.specs.Lines.HeadReading.{operand_var}
use Rattle.occ_tree_grammar.proofs.Children.{expressions_made}
use Rattle.occ_tree_grammar.proofs.tree.expr.Operand.into_var.Goals as goal

pub returns-in-Variable : goal.returns-in-Variable
returns-in-Variable c =
    let m = c.in-Variable in
    let read : operand_var (operand_of c.args.self) ≡ Some (var m.name (expressions (map expression_of m.subscripts.items))) = ap (λ (a : Operand). operand_var (operand_of a)) m.is ∙ ap (λ (es : Expressions). Some (var m.name es)) (expressions_made m.subscripts) in
    sym read
