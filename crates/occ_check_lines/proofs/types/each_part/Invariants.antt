use Rattle.occ_tree_grammar.specs.Lines.Views as lines
use Rattle.occ_check_meaning.specs.Types.{part_of}
use Rattle.occ_check_lines.specs.View.{names_in}
use Rattle.occ_check_lines.proofs.EachOf.{SoFar}
use Rattle.occ_check_lines.proofs.types.each_part.Given as goal

abbrev pub invariant-loop-part : goal.invariant-loop-part
invariant-loop-part l = SoFar (part_of (names_in l.context.scope) l.context.line) lines.part_of (λ z. z) l.parts l.part-index l.made
