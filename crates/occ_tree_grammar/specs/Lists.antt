-- Lists of parts of one kind.
-- Manual: nothing; this is (own).
use Rattle.std.specs.Prelude.{List, [], ◌∷◌, ◌++◌}

-- the written forms of all, one after the other
abbrev pub show_all : {A W : Type 0} → (A → List W) → List A → List W
show_all show [] = []
show_all show (a ∷ rest) = show a ++ show_all show rest

-- each of them is so
abbrev pub Each : {A : Type 0} → (A → Type 0) → List A → Type 0
Each P [] = Unit {0}
Each P (a ∷ rest) = P a × Each P rest
