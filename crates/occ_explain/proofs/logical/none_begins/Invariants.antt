use Rattle.std.proofs.Common.{◌≤◌, ◌<◌, ◌⊎◌, All, length, map}
use Rattle.occ_text.specs.Words.{logical_line_of}
use Rattle.occ_explain.specs.Places.{number_of_line}
use Rattle.occ_explain.proofs.logical.none_begins.Given as goal

abbrev pub invariant-loop-lines : goal.invariant-loop-lines
invariant-loop-lines l =
    All (λ x. (number_of_line x ≤ l.from) ⊎ (l.to < number_of_line x)) (map logical_line_of l.lines)
    → All (λ x. (number_of_line x ≤ l.from) ⊎ (l.to < number_of_line x)) (map logical_line_of l.initial.lines)

abbrev pub decreases-loop-lines : goal.decreases-loop-lines
decreases-loop-lines l = length l.lines
