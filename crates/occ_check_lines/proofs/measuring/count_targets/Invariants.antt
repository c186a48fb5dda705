use Rattle.std.proofs.Common.{◌≡◌, drop}
use Rattle.occ_term.specs.Sizes.{size_of_targets}
use Rattle.occ_term.specs.View.{targets_of}
use Rattle.occ_check_meaning.specs.Numbers.{room}
use Rattle.occ_check_lines.specs.View.{numbers_of}
use Rattle.occ_check_lines.proofs.measuring.count_targets.Given as goal

abbrev pub invariant-loop-target : goal.invariant-loop-target
invariant-loop-target l =
    room l.depth (size_of_targets (targets_of (drop l.target-index l.targets))) (numbers_of l.numbers)
    ≡ room l.depth (size_of_targets (targets_of l.targets)) (numbers_of l.initial.numbers)
