use Rattle.std.proofs.Common.{◌<◌, ◌≡◌, ℕ}
use Rattle.std.specs.Prelude.{slice_get}
use Rattle.occ_ends.proofs.circling.again.Given as goal

abbrev pub invariant-loop-place : goal.invariant-loop-place
invariant-loop-place l = (i j : ℕ) → i < j → j < l.place → slice_get l.numbers i ≡ slice_get l.numbers j → ⊥
