use Rattle.std.proofs.Common.{◌<◌, ◌≡◌, ℕ}
use Rattle.std.specs.Prelude.{slice_get}
use Rattle.occ_ends.proofs.circling.place_before.Given as goal

abbrev pub invariant-loop-first : goal.invariant-loop-first
invariant-loop-first l = (k : ℕ) → k < l.first → slice_get l.numbers k ≡ slice_get l.numbers l.place → ⊥
