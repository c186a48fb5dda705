-- Sizes from 1 on.
-- Manual: data types.
use Rattle.std.specs.Prelude.{List, [], ℕ, ⊤, ◌∷◌, ◌≤◌}

abbrev pub ArePositive : List ℕ → Type 0
ArePositive [] = ⊤
ArePositive (n ∷ ns) = (1 ≤ n) × ArePositive ns
