-- The sizes of arrays of cells or of channels.
-- Manual: nothing; how many components an array may have is (own).
use Rattle.std.specs.Prelude.{List, [], ℕ, ⊤, ◌<◌, ◌^◌, ◌∷◌}
use Rattle.occ_term.specs.Messages.{product}

-- an array with these sizes has fewer than 2 to the 32 components, and so has each array within it
abbrev pub AreFew : List ℕ → Type 0
AreFew [] = ⊤
AreFew (n ∷ ns) = (product (n ∷ ns) < 2 ^ 32) × AreFew ns
