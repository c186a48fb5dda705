use Rattle.std.proofs.Common.{◌≡◌, ◌<◌, ℕ, length}
use Rattle.std.specs.Prelude.{slice_get}
use Rattle.occ_net_tables.proofs.copying.match_tasks.Given as goal

abbrev pub invariant-loop-place : goal.invariant-loop-place
invariant-loop-place l = (length l.to.items ≡ length l.from) × ((i : ℕ) → i < l.place → slice_get l.to.items i ≡ slice_get l.from i)
