-- The names of a declaration.
use Rattle.std.proofs.Common.{◌≡◌, List, ℕ, map}
use Rattle.std.proofs.lemmas.List.{map-id}

-- names that are read one by one are seen as they are
pub names_seen : (names : List (List ℕ)) → map (λ name. name) names ≡ names
names_seen = map-id
