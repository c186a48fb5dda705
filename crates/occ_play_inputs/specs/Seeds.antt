-- The choices that a seed stands for, so that whoever has the number can make the same list.
-- Manual: nothing; this is (own).
use Rattle.std.specs.Prelude.{List, [], suc, zero, ℕ, ◌%◌, ◌*◌, ◌+◌, ◌/◌, ◌∷◌}
use Rattle.occ_net_replay.specs.declared.choice.Choice.{Choice}

-- each number is made from the one before it
abbrev pub number_after : ℕ → ℕ
number_after x = (x * 1664525 + 1013904223) % 4294967296

-- so many choices, of two numbers each, of which the upper halves are taken
abbrev pub seeded : (seed count : ℕ) → List Choice
seeded x zero = []
seeded x (suc n) = record { which = number_after x / 65536; pick = number_after (number_after x) / 65536 } ∷ seeded (number_after (number_after x)) n
