use Rattle.std.proofs.Common.{◌≡◌, drop}
use Rattle.occ_term.specs.Sizes.{size_of_items}
use Rattle.occ_term.specs.View.{items_of}
use Rattle.occ_check_meaning.specs.Numbers.{room}
use Rattle.occ_check_lines.specs.View.{numbers_of}
use Rattle.occ_check_lines.proofs.measuring.count_items.Given as goal

abbrev pub invariant-loop-item : goal.invariant-loop-item
invariant-loop-item l =
    room l.depth (size_of_items (items_of (drop l.item-index l.items))) (numbers_of l.numbers)
    ≡ room l.depth (size_of_items (items_of l.items)) (numbers_of l.initial.numbers)
