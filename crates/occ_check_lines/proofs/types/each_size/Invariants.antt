use Rattle.occ_tree_grammar.specs.Expressions.Trees.{expression_of}
use Rattle.occ_check_lines.specs.View.{names_in}
use Rattle.occ_check_lines.proofs.EachOf.{SoFar}
use Rattle.occ_check_lines.proofs.SizeLists.{one_size}
use Rattle.occ_check_lines.proofs.types.each_size.Given as goal

abbrev pub invariant-loop-size : goal.invariant-loop-size
invariant-loop-size l = SoFar (one_size (names_in l.context.scope) l.context.line) expression_of (λ z. z) l.sizes l.size-index l.made
