use Rattle.occ_term.specs.Uses.{reading, reads_of_items}
use Rattle.occ_term.specs.View.{items_of}
use Rattle.occ_usage.proofs.UseSets.{Left}
use Rattle.occ_usage.proofs.expressions.note_items.Given as goal

abbrev pub invariant-loop-item : goal.invariant-loop-item
invariant-loop-item l = Left (λ xs. reading (reads_of_items (items_of xs))) l.items l.item-index l.initial.noted.uses l.noted.uses
