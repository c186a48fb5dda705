use Rattle.std.proofs.Common.{◌<◌, ℕ}
use Rattle.occ_ends.specs.Endless.{IsEndlessLoop}
use Rattle.occ_ends.proofs.endless.is_in_endless_loop.Given as goal

abbrev pub invariant-loop-last : goal.invariant-loop-last
invariant-loop-last l = (k : ℕ) → k < l.last → IsEndlessLoop l.code l.place k → ⊥
