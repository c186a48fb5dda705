-- The choices of a plan.
-- Manual: nothing; this is (own).
use Rattle.std.specs.Prelude.{List, [], suc, zero, ℕ, ◌+◌, ◌∷◌}
use Rattle.occ_net_replay.specs.declared.choice.Choice.{Choice}
use Rattle.occ_choices.specs.declared.plan.Plan.{Plan}
use Rattle.occ_choices.specs.declared.plan.Plan.TheVariants.{Turns, Choices}

-- so many choices from number k on: `which` is the number, `pick` is 0
abbrev pub turns_from : ℕ → ℕ → List Choice
turns_from k zero = []
turns_from k (suc n) = record { which = k; pick = 0 } ∷ turns_from (k + 1) n

abbrev pub choices_of : Plan → List Choice
choices_of (Turns n) = turns_from 0 n
choices_of (Choices v) = v.items
