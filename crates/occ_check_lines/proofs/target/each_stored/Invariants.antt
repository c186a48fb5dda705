use Rattle.occ_tree_grammar.specs.Lines.Views.{target_of as seen_target}
use Rattle.occ_term.specs.View.{target_of}
use Rattle.occ_check_lines.specs.Action.{stored_one}
use Rattle.occ_check_lines.specs.View.{names_in}
use Rattle.occ_check_lines.proofs.Zipping.{Zipping}
use Rattle.occ_check_lines.proofs.target.each_stored.Given as goal

abbrev pub invariant-loop-part : goal.invariant-loop-part
invariant-loop-part l = Zipping (stored_one (names_in l.context.scope) l.context.line) seen_target target_of l.parts l.part-index l.targets l.left l.made
