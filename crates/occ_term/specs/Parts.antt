-- The items of a message in code, as the list that they are.
-- Manual: nothing; this is (own).
use Rattle.std.specs.Prelude.{List, [], ◌∷◌}
use Rattle.occ_term.specs.declared.message.Part.{Part}
use Rattle.occ_term.specs.declared.parts.Kept.{Kept}
use Rattle.occ_term.specs.declared.parts.Kept.TheVariants as kept

abbrev pub parts_in : Kept → List Part
parts_in kept.None = []
parts_in (kept.One part) = part ∷ []
parts_in (kept.Several parts) = parts
