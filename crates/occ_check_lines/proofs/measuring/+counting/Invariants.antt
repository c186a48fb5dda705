use Rattle.std.proofs.Common.{◌≡◌, map, drop}
use Rattle.occ_term.specs.Sizes.{size_of_subscripts}
use Rattle.occ_term.specs.View.{expression_of, subscripts}
use Rattle.occ_check_meaning.specs.Numbers.{room}
use Rattle.occ_check_lines.specs.View.{numbers_of}
use Rattle.occ_check_lines.proofs.measuring.+counting.Given as goal

abbrev pub invariant-count_subscripts-loop-subscript : goal.invariant-count_subscripts-loop-subscript
invariant-count_subscripts-loop-subscript l =
    room l.depth (size_of_subscripts (subscripts (map expression_of (drop l.subscript-index l.list)))) (numbers_of l.numbers)
    ≡ room l.depth (size_of_subscripts (subscripts (map expression_of l.list))) (numbers_of l.initial.numbers)
