use Rattle.std.proofs.Common.{◌≡◌, take}
use Rattle.occ_choices.specs.Plans.{choices_of}
use Rattle.occ_net.proofs.outcome.first_choices.Given as goal

abbrev pub invariant-loop-number : goal.invariant-loop-number
invariant-loop-number l = l.choices.items ≡ take l.number (choices_of l.plan)
