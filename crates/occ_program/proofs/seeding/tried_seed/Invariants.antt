use Rattle.std.proofs.Common.{ℕ, ◌+◌, ◌<◌}
use Rattle.occ_program.specs.Trying.{RunEnds}
use Rattle.occ_program.proofs.seeding.tried_seed.Given as goal
use Rattle.occ_play_inputs.specs.Seeds.{seeded}

-- the runs of all seeds so far end
abbrev pub invariant-loop-place : goal.invariant-loop-place
invariant-loop-place l = (k : ℕ) → k < l.place → RunEnds l.options l.source l.keyboard (seeded (l.first + k) l.limit)
