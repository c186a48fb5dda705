use Rattle.std.proofs.Common.{◌<◌, ◌≤◌, IsFalse, ℕ}
use Rattle.occ_ends.specs.Endless.{flag}
use Rattle.occ_ends.proofs.for_good.none_within.Given as goal

abbrev pub invariant-loop-place : goal.invariant-loop-place
invariant-loop-place l = (k : ℕ) → l.first ≤ k → k < l.place → IsFalse (flag l.flags k)
