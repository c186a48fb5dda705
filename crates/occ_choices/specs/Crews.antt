-- How many workers may take the turns of a run.
-- Manual: nothing; this is (own).
use Rattle.std.specs.Prelude.{ℕ, ◌<◌, ◌≤◌}

abbrev pub most_workers : ℕ
most_workers = 64

abbrev pub IsCrew : ℕ → Type 0
IsCrew workers = (0 < workers) × (workers ≤ most_workers)
