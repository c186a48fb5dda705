use Rattle.occ_tree_grammar.specs.Expressions.Trees.{expression_of}
use Rattle.occ_check_meaning.specs.Expressions.{constant_as}
use Rattle.occ_check_lines.specs.View.{names_in}
use Rattle.occ_check_lines.proofs.EachOf.{SoFar}
use Rattle.occ_check.proofs.options.each_constant.Given as goal

abbrev pub invariant-loop-value : goal.invariant-loop-value
invariant-loop-value l = SoFar (constant_as (names_in l.context.scope) l.context.line l.primitive) expression_of (λ z. z) l.values l.value-index l.made
