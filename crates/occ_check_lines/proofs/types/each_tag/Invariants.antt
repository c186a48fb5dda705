use Rattle.occ_tree_grammar.specs.Processes.Views as processes
use Rattle.occ_check_meaning.specs.Types.{tag_of}
use Rattle.occ_check_lines.specs.View.{names_in}
use Rattle.occ_check_lines.proofs.EachOf.{SoFar}
use Rattle.occ_check_lines.proofs.types.each_tag.Given as goal

abbrev pub invariant-loop-tag : goal.invariant-loop-tag
invariant-loop-tag l = SoFar (tag_of (names_in l.scope)) processes.tag_of (λ z. z) l.tags l.tag-index l.made
