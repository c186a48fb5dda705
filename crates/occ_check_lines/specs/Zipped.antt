-- Two lists side by side.
-- Manual: nothing; this is (own).
use Rattle.std.specs.Prelude.{List, None, Option, Some, [], ◌∷◌}
use Rattle.occ_tree_grammar.specs.Many.{◌>>=◌}

-- what two lists give together, where they are of one length
unfoldable pub zipped : {A B C : Type 0} → (A → B → Option C) → List A → List B → Option (List C)
zipped f [] [] = Some []
zipped f [] (b ∷ bs) = None
zipped f (a ∷ rest) [] = None
zipped f (a ∷ rest) (b ∷ bs) = do
  c ← f a b
  cs ← zipped f rest bs
  Some (c ∷ cs)
