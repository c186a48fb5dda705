use Rattle.occ_tree_grammar.specs.Lines.Views.{out_of}
use Rattle.occ_term.specs.View.{item_of}
use Rattle.occ_check_meaning.specs.Items.{sent_item}
use Rattle.occ_check_lines.specs.View.{names_in}
use Rattle.occ_check_lines.proofs.Zipping.{Zipping}
use Rattle.occ_check_lines.proofs.item.sent_items.Given as goal

abbrev pub invariant-loop-part : goal.invariant-loop-part
invariant-loop-part l = Zipping (sent_item (names_in l.context.scope) l.context.line) out_of item_of l.parts l.part-index l.outs l.left l.made
