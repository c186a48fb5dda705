-- Rising lists of numbers.
-- Manual: nothing; this is (own).
use Rattle.std.specs.Prelude.{List, [], if◌then◌else◌, nat_lt, ℕ, ◌∷◌}

-- before the first number that isn't smaller
abbrev pub put_in : ℕ → List ℕ → List ℕ
put_in n [] = n ∷ []
put_in n (x ∷ xs) = if nat_lt x n then x ∷ put_in n xs else n ∷ x ∷ xs
