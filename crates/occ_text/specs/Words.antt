-- The words of a line and the lines of a text, without where they lie in memory.
-- Manual: the elements of a text; names, literals and keywords. Where a line goes on, and the limits: (own).
use Rattle.std.specs.Prelude.{ℕ, ℤ, List, map}
use Rattle.occ_text.specs.declared.token.Key.{Key}
use Rattle.occ_text.specs.declared.token.Sym.{Sym}
use Rattle.occ_text.specs.declared.token.Token.{Token}
use Rattle.occ_text.specs.declared.token.Token.TheVariants as tokens
use Rattle.occ_text.specs.declared.token.Line.{Line}

-- what a literal stands for
pub data Lit : Type 0 where
  number : ℤ → Lit
  byte : ℕ → Lit
  text : List ℕ → Lit

-- a word: a reserved word, a name, a literal or a symbol
pub data Word : Type 0 where
  key : Key → Word
  name : List ℕ → Word
  lit : Lit → Word
  mark : Sym → Word

-- a logical line: its number, its level and its words
pub data LogicalLine : Type 0 where
  logical_line : (number level : ℕ) → List Word → LogicalLine

-- the word that a token stands for
abbrev pub word : Token → Word
word (tokens.Key k) = key k
word (tokens.Name v) = name v
word (tokens.Number n) = lit (number n)
word (tokens.Byte b) = lit (byte b)
word (tokens.Str v) = lit (text v)
word (tokens.Sym s) = mark s

abbrev pub words : List Token → List Word
words = map word

-- the logical line that a line of the code stands for
abbrev pub logical_line_of : Line → LogicalLine
logical_line_of l = logical_line l.number l.level (words l.words.items)

abbrev pub logical_lines : List Line → List LogicalLine
logical_lines = map logical_line_of
