-- What a list has had so far, each thing once.
-- Manual: nothing; this is (own).
use Rattle.std.specs.Prelude.{Bool, List, [], if◌then◌else◌, ◌++◌, ◌∷◌}
use Rattle.std.specs.List.{list_any}

-- one thing more, where it is not there
abbrev pub with_one_more : {A : Type 0} → (A → A → Bool) → List A → A → List A
with_one_more same listed one = if list_any (same one) listed then listed else listed ++ one ∷ []
