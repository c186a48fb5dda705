use Rattle.std.proofs.Common.{◌≡◌, length}
use Rattle.occ_term.specs.View.{choices_of, declarations_of}
use Rattle.occ_check_meaning.specs.Actions.{choices_behind}
use Rattle.occ_check.proofs.choices.choices_behind.Given as goal

abbrev pub invariant-outwards : goal.invariant-outwards
invariant-outwards l =
    choices_behind (declarations_of l.heads) (choices_of l.choices) ≡ choices_behind (declarations_of l.initial.heads) (choices_of l.initial.choices)

abbrev pub decreases-outwards : goal.decreases-outwards
decreases-outwards l = length l.heads
