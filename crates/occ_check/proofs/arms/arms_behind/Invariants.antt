use Rattle.std.proofs.Common.{◌≡◌, length}
use Rattle.occ_term.specs.View.{arms_of, declarations_of}
use Rattle.occ_check_meaning.specs.Actions.{arms_behind}
use Rattle.occ_check.proofs.arms.arms_behind.Given as goal

abbrev pub invariant-outwards : goal.invariant-outwards
invariant-outwards l =
    arms_behind (declarations_of l.heads) (arms_of l.arms) ≡ arms_behind (declarations_of l.initial.heads) (arms_of l.initial.arms)

abbrev pub decreases-outwards : goal.decreases-outwards
decreases-outwards l = length l.heads
