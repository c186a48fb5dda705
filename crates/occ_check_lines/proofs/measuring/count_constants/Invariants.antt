use Rattle.std.proofs.Common.{◌≡◌, drop}
use Rattle.occ_term.specs.Sizes.{size_of_constants}
use Rattle.occ_check_meaning.specs.Numbers.{room}
use Rattle.occ_check_lines.specs.View.{numbers_of}
use Rattle.occ_check_lines.proofs.measuring.count_constants.Given as goal

abbrev pub invariant-loop-constant : goal.invariant-loop-constant
invariant-loop-constant l =
    room l.depth (size_of_constants (drop l._constant-index l.constants)) (numbers_of l.numbers)
    ≡ room l.depth (size_of_constants l.constants) (numbers_of l.initial.numbers)
