-- The words after which a line goes on, by the grammar's own list of operators.
-- Manual: continuation lines, which break after an operator, `,`, `;`, `:=`, IS or FOR.
use Rattle.occ_text.specs.declared.token.Key.TheVariants as k
use Rattle.occ_text.specs.declared.token.Sym.TheVariants as s
use Rattle.occ_text.specs.Words.{Word, key, mark}
use Rattle.occ_tree_grammar.specs.Expressions.Shown.{dyadic_word, logic_word}
use Rattle.occ_tree_grammar.specs.declared.tree.expr.Dyadic.{Dyadic}
use Rattle.occ_tree_grammar.specs.declared.tree.expr.Logic.{Logic}

pub data Joins : Word → Type 0 where
  two_sided : (d : Dyadic) → Joins (dyadic_word d)
  chained : (l : Logic) → Joins (logic_word l)
  assigns : Joins (mark s.Assign)
  separates : Joins (mark s.Semicolon)
  lists : Joins (mark s.Comma)
  abbreviates : Joins (key k.Is)
  counts : Joins (key k.For)
