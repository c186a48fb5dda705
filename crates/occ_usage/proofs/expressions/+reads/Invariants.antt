use Rattle.std.proofs.Common.{map}
use Rattle.occ_term.specs.Uses.{reading, reads_in_subscripts}
use Rattle.occ_term.specs.View.{expression_of, subscripts}
use Rattle.occ_usage.proofs.UseSets.{Left}
use Rattle.occ_usage.proofs.expressions.+reads.Given as goal

abbrev pub invariant-note_subscripts-loop-subscript : goal.invariant-note_subscripts-loop-subscript
invariant-note_subscripts-loop-subscript l =
    Left (λ es. reading (reads_in_subscripts (subscripts (map expression_of es)))) l.list l.subscript-index l.initial.noted.uses l.noted.uses
