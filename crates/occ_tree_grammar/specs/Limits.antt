-- Limits of a text.
-- Manual: nothing; this is (own).
use Rattle.std.specs.Prelude.{ℕ, ◌+◌}

-- how many levels of lines may stand within one another, and how many brackets may stand open at one place
abbrev pub most_levels : ℕ
most_levels = 64

-- at one place fewer brackets than this stand open
abbrev pub brackets : ℕ
brackets = most_levels + 1
