use Rattle.std.specs.Prelude.{◌↔◌}
use Rattle.std.proofs.Common.{IsTrue, refl}
use Rattle.occ_text.specs.Lines.{leads_on}
use Rattle.occ_text.specs.Words.{Word, key, name, lit, mark}
use Rattle.occ_text.specs.declared.token.Key.TheVariants as k
use Rattle.occ_text.specs.declared.token.Sym.TheVariants as s
use Rattle.occ_tree_grammar.specs.Expressions.Shown.{dyadic_word, logic_word}
use Rattle.occ_tree_grammar.specs.declared.tree.expr.Dyadic.{Dyadic}
use Rattle.occ_tree_grammar.specs.declared.tree.expr.Dyadic.TheVariants as dyadics
use Rattle.occ_tree_grammar.specs.declared.tree.expr.Logic.{Logic}
use Rattle.occ_tree_grammar.specs.declared.tree.expr.Logic.TheVariants as logics
use Rattle.occ_tree_grammar.specs.Joining.{Joins, two_sided, chained, assigns, separates, lists, abbreviates, counts}
use Rattle.occ_tree_grammar.proofs.laws.operators_lead_on.Goals as goal

leads : (d : Dyadic) → IsTrue (leads_on (dyadic_word d))
unfolding leads_on
leads dyadics.Add = refl
leads dyadics.Subtract = refl
leads dyadics.Multiply = refl
leads dyadics.Divide = refl
leads dyadics.Remainder = refl
leads dyadics.Rem = refl
leads dyadics.Plus = refl
leads dyadics.Minus = refl
leads dyadics.Times = refl
leads dyadics.BitAndSign = refl
leads dyadics.BitAnd = refl
leads dyadics.BitOrSign = refl
leads dyadics.BitOr = refl
leads dyadics.BitXor = refl
leads dyadics.ShiftLeft = refl
leads dyadics.ShiftRight = refl
leads dyadics.After = refl
leads dyadics.Equal = refl
leads dyadics.Unequal = refl
leads dyadics.Less = refl
leads dyadics.Greater = refl
leads dyadics.AtMost = refl
leads dyadics.AtLeast = refl

chains : (l : Logic) → IsTrue (leads_on (logic_word l))
unfolding leads_on
chains logics.And = refl
chains logics.Or = refl

leads_from : {w : Word} → Joins w → IsTrue (leads_on w)
unfolding leads_on
leads_from (two_sided d) = leads d
leads_from (chained l) = chains l
leads_from assigns = refl
leads_from separates = refl
leads_from lists = refl
leads_from abbreviates = refl
leads_from counts = refl

joins : (w : Word) → IsTrue (leads_on w) → Joins w
unfolding leads_on
joins (key k.After) h = two_sided dyadics.After
joins (key k.Alt) h = absurd cc
joins (key k.And) h = chained logics.And
joins (key k.Any) h = absurd cc
joins (key k.At) h = absurd cc
joins (key k.BitAnd) h = two_sided dyadics.BitAnd
joins (key k.BitNot) h = absurd cc
joins (key k.BitOr) h = two_sided dyadics.BitOr
joins (key k.Bool) h = absurd cc
joins (key k.Byte) h = absurd cc
joins (key k.Case) h = absurd cc
joins (key k.Chan) h = absurd cc
joins (key k.Else) h = absurd cc
joins (key k.False) h = absurd cc
joins (key k.For) h = counts
joins (key k.From) h = absurd cc
joins (key k.Function) h = absurd cc
joins (key k.If) h = absurd cc
joins (key k.Int) h = absurd cc
joins (key k.Int16) h = absurd cc
joins (key k.Int32) h = absurd cc
joins (key k.Int64) h = absurd cc
joins (key k.Is) h = abbreviates
joins (key k.Minus) h = two_sided dyadics.Minus
joins (key k.MostNeg) h = absurd cc
joins (key k.MostPos) h = absurd cc
joins (key k.Not) h = absurd cc
joins (key k.Of) h = absurd cc
joins (key k.Or) h = chained logics.Or
joins (key k.Par) h = absurd cc
joins (key k.Place) h = absurd cc
joins (key k.Placed) h = absurd cc
joins (key k.Plus) h = two_sided dyadics.Plus
joins (key k.Port) h = absurd cc
joins (key k.Pri) h = absurd cc
joins (key k.Proc) h = absurd cc
joins (key k.Processor) h = absurd cc
joins (key k.Protocol) h = absurd cc
joins (key k.Real32) h = absurd cc
joins (key k.Real64) h = absurd cc
joins (key k.Rem) h = two_sided dyadics.Rem
joins (key k.Result) h = absurd cc
joins (key k.Retypes) h = absurd cc
joins (key k.Round) h = absurd cc
joins (key k.Seq) h = absurd cc
joins (key k.Size) h = absurd cc
joins (key k.Skip) h = absurd cc
joins (key k.Stop) h = absurd cc
joins (key k.Timer) h = absurd cc
joins (key k.Times) h = two_sided dyadics.Times
joins (key k.True) h = absurd cc
joins (key k.Trunc) h = absurd cc
joins (key k.Val) h = absurd cc
joins (key k.Valof) h = absurd cc
joins (key k.While) h = absurd cc
joins (mark s.Assign) h = assigns
joins (mark s.DoubleColon) h = absurd cc
joins (mark s.Colon) h = absurd cc
joins (mark s.Semicolon) h = separates
joins (mark s.Comma) h = lists
joins (mark s.OpenParen) h = absurd cc
joins (mark s.CloseParen) h = absurd cc
joins (mark s.OpenBracket) h = absurd cc
joins (mark s.CloseBracket) h = absurd cc
joins (mark s.Ampersand) h = absurd cc
joins (mark s.Question) h = absurd cc
joins (mark s.Exclamation) h = absurd cc
joins (mark s.Equal) h = two_sided dyadics.Equal
joins (mark s.NotEqual) h = two_sided dyadics.Unequal
joins (mark s.LessEqual) h = two_sided dyadics.AtMost
joins (mark s.GreaterEqual) h = two_sided dyadics.AtLeast
joins (mark s.ShiftLeft) h = two_sided dyadics.ShiftLeft
joins (mark s.ShiftRight) h = two_sided dyadics.ShiftRight
joins (mark s.BitXor) h = two_sided dyadics.BitXor
joins (mark s.Less) h = two_sided dyadics.Less
joins (mark s.Greater) h = two_sided dyadics.Greater
joins (mark s.Plus) h = two_sided dyadics.Add
joins (mark s.Minus) h = two_sided dyadics.Subtract
joins (mark s.Times) h = two_sided dyadics.Multiply
joins (mark s.BitAnd) h = two_sided dyadics.BitAndSign
joins (mark s.Divide) h = two_sided dyadics.Divide
joins (mark s.BitOr) h = two_sided dyadics.BitOrSign
joins (mark s.Remainder) h = two_sided dyadics.Remainder
joins (mark s.Tilde) h = absurd cc
joins (name v) h = absurd cc
joins (lit v) h = absurd cc

pub returns : goal.returns
returns c w = (joins w, leads_from)
