-- What may follow an expression: no operator, and no bracket that opens.
-- Manual: nothing; this is (own).
use Rattle.std.specs.Prelude.{◌≡◌, List, [], ◌∷◌, Bool, true, false}
use Rattle.occ_text.specs.declared.token.Sym.TheVariants as s
use Rattle.occ_text.specs.Words.{Word, mark}
use Rattle.occ_tree_grammar.specs.declared.expressions.start.Link.TheVariants.{End}
use Rattle.occ_tree_grammar.specs.Expressions.Reading.{link_of}

abbrev pub opens : Word → Bool
opens (mark s.OpenParen) = true
opens (mark s.OpenBracket) = true
opens _ = false

abbrev pub Plain : List Word → Type 0
Plain [] = Unit {0}
Plain (w ∷ ws) = opens w ≡ false

abbrev pub Stops : List Word → Type 0
Stops [] = Unit {0}
Stops (w ∷ ws) = (link_of w ≡ End) × (opens w ≡ false)
