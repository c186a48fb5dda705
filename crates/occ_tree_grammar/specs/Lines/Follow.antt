-- What may follow a part of a line.
-- Manual: nothing; this is (own).
use Rattle.std.specs.Prelude.{◌≡◌, List, [], ◌∷◌, Bool, true, false}
use Rattle.occ_text.specs.declared.token.Key.TheVariants as k
use Rattle.occ_text.specs.declared.token.Sym.TheVariants as s
use Rattle.occ_text.specs.Words.{Word, key, name, lit, mark}
use Rattle.occ_tree_grammar.specs.declared.expressions.start.Link.TheVariants.{End}
use Rattle.occ_tree_grammar.specs.Expressions.Reading.{link_of}
use Rattle.occ_tree_grammar.specs.Expressions.Follow.{opens}

abbrev pub counts : Word → Bool
counts (mark s.DoubleColon) = true
counts _ = false

-- no operator, no bracket that opens, and no double colon
abbrev pub Ends : List Word → Type 0
Ends [] = Unit {0}
Ends (w ∷ ws) = (link_of w ≡ End) × (opens w ≡ false) × (counts w ≡ false)

-- the words that may begin an expression
abbrev pub begins_expression : Word → Bool
begins_expression (name v) = true
begins_expression (lit l) = true
begins_expression (mark s.OpenParen) = true
begins_expression (mark s.Minus) = true
begins_expression (mark s.Tilde) = true
begins_expression (key k.True) = true
begins_expression (key k.False) = true
begins_expression (key k.BitNot) = true
begins_expression (key k.Not) = true
begins_expression (key k.Size) = true
begins_expression (key k.Bool) = true
begins_expression (key k.Byte) = true
begins_expression (key k.Int) = true
begins_expression (key k.MostPos) = true
begins_expression (key k.MostNeg) = true
begins_expression _ = false

abbrev pub Begins : List Word → Type 0
Begins [] = ⊥
Begins (w ∷ ws) = begins_expression w ≡ true
