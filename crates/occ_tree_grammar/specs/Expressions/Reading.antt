-- Reading expressions, as functions on lists of words.
-- Manual: expressions, which have no priorities of operators. The limit of brackets: (own).
use Rattle.std.specs.Prelude.{◌≡◌, ℕ, zero, suc, List, [], ◌∷◌, length, true, false, Option, Some, None, Result, Ok, Err}
use Rattle.occ_text.specs.declared.token.Key.TheVariants as k
use Rattle.occ_text.specs.declared.token.Sym.TheVariants as s
use Rattle.occ_text.specs.Words.{Word, key, name, lit, mark}
use Rattle.occ_tree_grammar.specs.declared.tree.expr.Primitive.{Primitive}
use Rattle.occ_tree_grammar.specs.declared.tree.expr.Primitive.TheVariants as prims
use Rattle.occ_tree_grammar.specs.declared.tree.expr.Dyadic.TheVariants as dyadics
use Rattle.occ_tree_grammar.specs.declared.tree.expr.Monadic.TheVariants as monadics
use Rattle.occ_tree_grammar.specs.declared.tree.expr.Logic.{Logic}
use Rattle.occ_tree_grammar.specs.declared.tree.expr.Logic.TheVariants as logics
use Rattle.occ_tree_grammar.specs.declared.fault.ParseFault.{ParseFault}
use Rattle.occ_tree_grammar.specs.declared.fault.ParseFault.TheVariants.{Memory, Unexpected, Level, Missing, TooDeep}
use Rattle.occ_tree_grammar.specs.declared.expressions.start.Start.{Start}
use Rattle.occ_tree_grammar.specs.declared.expressions.start.Start.TheVariants as starts
use Rattle.occ_tree_grammar.specs.declared.expressions.start.Link.{Link}
use Rattle.occ_tree_grammar.specs.declared.expressions.start.Link.TheVariants as links
use Rattle.occ_tree_grammar.specs.Many.{◌>>=◌, Reader, many}
use Rattle.occ_tree_grammar.specs.Expressions.Trees.{Expression, alone, two, one, convert, limit, chain, Operand, variable, literal, truth, parens, operands, expressions}
use Rattle.occ_tree_grammar.specs.Expressions.Shown.{dimensions}

-- a fault where reading gives nothing, unless memory ran out
abbrev pub Fails : {Y : Type 0} → ParseFault → Option Y → Type 0
Fails Memory read = Unit {0}
Fails (Unexpected line stop) read = read ≡ None
Fails (Level line level) read = read ≡ None
Fails (Missing line level) read = read ≡ None
Fails (TooDeep line stop) read = read ≡ None

-- what a function returned, seen by view, is what reading gives, unless memory ran out
abbrev pub Gives : {X Y : Type 0} → (X → Y) → Result X ParseFault → Option Y → Type 0
Gives view (Ok x) read = read ≡ Some (view x)
Gives view (Err e) read = Fails e read

abbrev pub Read : Type 0 → Type 0
Read A = Reader Word A

abbrev pub after_open_bracket : List Word → Option (List Word)
after_open_bracket (mark s.OpenBracket ∷ ws) = Some ws
after_open_bracket _ = None

abbrev pub after_close : List Word → Option (List Word)
after_close (mark s.CloseParen ∷ ws) = Some ws
after_close _ = None

abbrev pub after_close_bracket : List Word → Option (List Word)
after_close_bracket (mark s.CloseBracket ∷ ws) = Some ws
after_close_bracket _ = None

abbrev pub after_int : List Word → Option (List Word)
after_int (key k.Int ∷ ws) = Some ws
after_int _ = None

abbrev pub prim_at : Read Primitive
prim_at (key k.Bool ∷ ws) = Some (prims.Bool, ws)
prim_at (key k.Byte ∷ ws) = Some (prims.Byte, ws)
prim_at (key k.Int ∷ ws) = Some (prims.Int, ws)
prim_at _ = None

-- how an expression starts
abbrev pub start_of : Word → Start
start_of (mark s.Minus) = starts.Monadic monadics.Negate
start_of (mark s.Tilde) = starts.Monadic monadics.Tilde
start_of (key k.BitNot) = starts.Monadic monadics.BitNot
start_of (key k.Not) = starts.Monadic monadics.Not
start_of (key k.Size) = starts.Monadic monadics.Size
start_of (key k.Bool) = starts.Convert prims.Bool
start_of (key k.Byte) = starts.Convert prims.Byte
start_of (key k.Int) = starts.Convert prims.Int
start_of (key k.MostPos) = starts.MostPos
start_of (key k.MostNeg) = starts.MostNeg
start_of _ = starts.Operand

-- what joins an operand to the next
abbrev pub link_of : Word → Link
link_of (mark s.Plus) = links.Dyadic dyadics.Add
link_of (mark s.Minus) = links.Dyadic dyadics.Subtract
link_of (mark s.Times) = links.Dyadic dyadics.Multiply
link_of (mark s.Divide) = links.Dyadic dyadics.Divide
link_of (mark s.Remainder) = links.Dyadic dyadics.Remainder
link_of (key k.Rem) = links.Dyadic dyadics.Rem
link_of (key k.Plus) = links.Dyadic dyadics.Plus
link_of (key k.Minus) = links.Dyadic dyadics.Minus
link_of (key k.Times) = links.Dyadic dyadics.Times
link_of (mark s.BitAnd) = links.Dyadic dyadics.BitAndSign
link_of (key k.BitAnd) = links.Dyadic dyadics.BitAnd
link_of (mark s.BitOr) = links.Dyadic dyadics.BitOrSign
link_of (key k.BitOr) = links.Dyadic dyadics.BitOr
link_of (mark s.BitXor) = links.Dyadic dyadics.BitXor
link_of (mark s.ShiftLeft) = links.Dyadic dyadics.ShiftLeft
link_of (mark s.ShiftRight) = links.Dyadic dyadics.ShiftRight
link_of (key k.After) = links.Dyadic dyadics.After
link_of (mark s.Equal) = links.Dyadic dyadics.Equal
link_of (mark s.NotEqual) = links.Dyadic dyadics.Unequal
link_of (mark s.Less) = links.Dyadic dyadics.Less
link_of (mark s.Greater) = links.Dyadic dyadics.Greater
link_of (mark s.LessEqual) = links.Dyadic dyadics.AtMost
link_of (mark s.GreaterEqual) = links.Dyadic dyadics.AtLeast
link_of (key k.And) = links.Logic logics.And
link_of (key k.Or) = links.Logic logics.Or
link_of _ = links.End

-- the type of a literal, where it is given
abbrev pub type_mark_at : Read (Option Primitive)
type_mark_at (mark s.OpenParen ∷ ws) = do
  p ← prim_at ws
  rest ← after_close p.1
  Some (Some p.0, rest)
type_mark_at ws = Some (None, ws)

-- what stands in a bracket that was opened
abbrev pub index_with : Read Expression → Read Expression
index_with inner ws = do
  e ← inner ws
  rest ← after_close_bracket e.1
  Some (e.0, rest)

-- expressions in brackets of their own, where inner reads what stands in them
abbrev pub indices_with : Read Expression → Read (List Expression)
indices_with inner = many after_open_bracket (index_with inner) dimensions

-- an operand, where inner reads what stands in brackets
unfoldable pub operand_with : Read Expression → Read Operand
operand_with inner (name v ∷ ws) = do
  es ← indices_with inner ws
  Some (variable v (expressions es.0), es.1)
operand_with inner (lit l ∷ ws) = do
  t ← type_mark_at ws
  Some (literal l t.0, t.1)
operand_with inner (key k.True ∷ ws) = Some (truth true, ws)
operand_with inner (key k.False ∷ ws) = Some (truth false, ws)
operand_with inner (mark s.OpenParen ∷ ws) = do
  e ← inner ws
  rest ← after_close e.1
  Some (parens e.0, rest)
operand_with inner _ = None

-- the words after the operator, where it stands
abbrev pub after_logic : Logic → List Word → Option (List Word)
after_logic logics.And (key k.And ∷ ws) = Some ws
after_logic logics.Or (key k.Or ∷ ws) = Some ws
after_logic _ _ = None

-- what follows the first operand
abbrev pub linked : Read Expression → Operand → Link → List Word → Read Expression
linked inner a (links.Dyadic d) all ws = do
  b ← operand_with inner ws
  Some (two a d b.0, b.1)
linked inner a (links.Logic l) all ws = do
  b ← operand_with inner ws
  rest ← many (after_logic l) (operand_with inner) (length b.1) b.1
  Some (chain l a b.0 (operands rest.0), rest.1)
linked inner a links.End all ws = Some (alone a, all)

abbrev pub after_operand : Read Expression → Operand → Read Expression
after_operand inner a [] = Some (alone a, [])
after_operand inner a (w ∷ ws) = linked inner a (link_of w) (w ∷ ws) ws

abbrev pub started : Read Expression → Start → List Word → Read Expression
started inner (starts.Monadic m) all ws = do
  a ← operand_with inner ws
  Some (one m a.0, a.1)
started inner (starts.Convert p) all ws = do
  a ← operand_with inner ws
  Some (convert p a.0, a.1)
started inner starts.MostPos all ws = do
  rest ← after_int ws
  Some (limit true, rest)
started inner starts.MostNeg all ws = do
  rest ← after_int ws
  Some (limit false, rest)
started inner starts.Operand all ws = do
  a ← operand_with inner all
  after_operand inner a.0 a.1

unfoldable pub expression_with : Read Expression → Read Expression
expression_with inner [] = None
expression_with inner (w ∷ ws) = started inner (start_of w) (w ∷ ws) ws

-- an expression, with the brackets round it and in it fewer than so many
unfoldable pub expression_at : ℕ → Read Expression
expression_at zero ws = None
expression_at (suc n) ws = expression_with (expression_at n) ws
