use Rattle.std.proofs.Common.{refl}
use Rattle.occ_term.specs.Uses.{reading, reads_of_item}
use Rattle.occ_term.specs.View.{item_of}
use Rattle.occ_usage.proofs.UseSets.{left_next, left_none}
use Rattle.occ_usage.proofs.expressions.note_items.Goals as goal

pub returns : goal.returns
returns c = left_none _ refl _ _ _ _ c.loop-item-test.false c.loop-item.invariant

pub loop-item-preserved : goal.loop-item-preserved
loop-item-preserved c =
    left_next _ (λ x. reading (reads_of_item (item_of x))) (λ x xs. refl) _ _ _ _ _ _ c.loop-item-test.true c.item-item.is c.loop-item.invariant c.in_ok-note_item.ensures
