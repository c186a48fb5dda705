-- An expression that is shown is read again, where what follows does not go on with it.
use Rattle.std.proofs.Common.{◌≡◌, ℕ, zero, suc, ◌<◌, ◌≤◌, List, [], ◌∷◌, ◌++◌, length, true, false, Option, Some, None, refl, sym, ap, ◌∙◌, append_assoc, arith}
use Rattle.occ_text.specs.declared.token.Key.TheVariants as k
use Rattle.occ_text.specs.declared.token.Sym.TheVariants as s
use Rattle.occ_text.specs.Words.{Word, key, mark}
use Rattle.occ_tree_grammar.specs.declared.tree.expr.Primitive.{Primitive}
use Rattle.occ_tree_grammar.specs.declared.tree.expr.Primitive.TheVariants as prims
use Rattle.occ_tree_grammar.specs.declared.tree.expr.Dyadic.{Dyadic}
use Rattle.occ_tree_grammar.specs.declared.tree.expr.Dyadic.TheVariants as dyadics
use Rattle.occ_tree_grammar.specs.declared.tree.expr.Monadic.{Monadic}
use Rattle.occ_tree_grammar.specs.declared.tree.expr.Monadic.TheVariants as monadics
use Rattle.occ_tree_grammar.specs.declared.tree.expr.Logic.{Logic}
use Rattle.occ_tree_grammar.specs.declared.tree.expr.Logic.TheVariants as logics
use Rattle.occ_tree_grammar.specs.declared.expressions.start.Start.TheVariants as starts
use Rattle.occ_tree_grammar.specs.declared.expressions.start.Link.TheVariants as links
use Rattle.occ_tree_grammar.specs.Lists.{show_all, Each}
use Rattle.occ_tree_grammar.specs.Many.{◌>>=◌, many}
use Rattle.occ_tree_grammar.specs.Expressions.Trees.{Expression, alone, two, one, convert, limit, chain, Operand, variable, literal, truth, parens, Operands, no_operand, more_operands, Expressions, no_expression, more_expressions, operands, expressions}
use Rattle.occ_tree_grammar.specs.Expressions.Shown.{prim_word, dyadic_word, monadic_word, logic_word, show_type, show_expression, show_operand, show_operands, show_indices, depth, depth_operand, depth_operands, depth_indices, dimensions, count_expressions, Narrow, NarrowOperand, NarrowOperands, NarrowExpressions}
use Rattle.occ_tree_grammar.specs.Expressions.Reading.{Read, after_open_bracket, prim_at, start_of, link_of, type_mark_at, index_with, indices_with, operand_with, after_logic, after_operand, expression_with, expression_at}
use Rattle.occ_tree_grammar.specs.Expressions.Follow.{opens, Plain, Stops}
use Rattle.occ_tree_grammar.proofs.ExpressionSound.{operands_shown, indices_shown}
use Rattle.occ_tree_grammar.proofs.Manys.{Again, many_again, all_long}

-- ---- single words

pub prim_again : (p : Primitive) (ws : List Word) → prim_at (prim_word p ∷ ws) ≡ Some (p, ws)
prim_again prims.Bool ws = refl
prim_again prims.Byte ws = refl
prim_again prims.Int ws = refl

starts_monadic : (m : Monadic) → start_of (monadic_word m) ≡ starts.Monadic m
starts_monadic monadics.Negate = refl
starts_monadic monadics.Tilde = refl
starts_monadic monadics.BitNot = refl
starts_monadic monadics.Not = refl
starts_monadic monadics.Size = refl

starts_prim : (p : Primitive) → start_of (prim_word p) ≡ starts.Convert p
starts_prim prims.Bool = refl
starts_prim prims.Byte = refl
starts_prim prims.Int = refl

-- a dyadic operator links, and opens no bracket
links_dyadic : (d : Dyadic) → (link_of (dyadic_word d) ≡ links.Dyadic d) × (opens (dyadic_word d) ≡ false)
links_dyadic dyadics.Add = (refl, refl)
links_dyadic dyadics.Subtract = (refl, refl)
links_dyadic dyadics.Multiply = (refl, refl)
links_dyadic dyadics.Divide = (refl, refl)
links_dyadic dyadics.Remainder = (refl, refl)
links_dyadic dyadics.Rem = (refl, refl)
links_dyadic dyadics.Plus = (refl, refl)
links_dyadic dyadics.Minus = (refl, refl)
links_dyadic dyadics.Times = (refl, refl)
links_dyadic dyadics.BitAndSign = (refl, refl)
links_dyadic dyadics.BitAnd = (refl, refl)
links_dyadic dyadics.BitOrSign = (refl, refl)
links_dyadic dyadics.BitOr = (refl, refl)
links_dyadic dyadics.BitXor = (refl, refl)
links_dyadic dyadics.ShiftLeft = (refl, refl)
links_dyadic dyadics.ShiftRight = (refl, refl)
links_dyadic dyadics.After = (refl, refl)
links_dyadic dyadics.Equal = (refl, refl)
links_dyadic dyadics.Unequal = (refl, refl)
links_dyadic dyadics.Less = (refl, refl)
links_dyadic dyadics.Greater = (refl, refl)
links_dyadic dyadics.AtMost = (refl, refl)
links_dyadic dyadics.AtLeast = (refl, refl)

links_logic : (l : Logic) → (link_of (logic_word l) ≡ links.Logic l) × (opens (logic_word l) ≡ false)
links_logic logics.And = (refl, refl)
links_logic logics.Or = (refl, refl)

logic_again : (l : Logic) (ws : List Word) → after_logic l (logic_word l ∷ ws) ≡ Some ws
logic_again logics.And ws = refl
logic_again logics.Or ws = refl

-- ---- what may follow

-- no operand goes on with these words
no_logic : (l : Logic) (ws : List Word) → Stops ws → after_logic l ws ≡ None
no_logic logics.And (key k.And ∷ ws) h = absurd cc
no_logic logics.Or (key k.Or ∷ ws) h = absurd cc
no_logic _ _ h = refl

pub plain : (ws : List Word) → Stops ws → Plain ws
plain [] h = tt
plain (w ∷ ws) h = h.1

no_bracket : (ws : List Word) → Plain ws → (after_open_bracket ws ≡ None) × Unit {0}
no_bracket (mark s.OpenBracket ∷ ws) h = absurd cc
no_bracket _ h = (refl, tt)

type_again : (t : Option Primitive) (ws : List Word) → Plain ws → type_mark_at (show_type t ++ ws) ≡ Some (t, ws)
type_again None (mark s.OpenParen ∷ ws) h = absurd cc
type_again None _ h = refl
type_again (Some p) ws h = rw (prim_again p (mark s.CloseParen ∷ ws)) refl

-- ---- the lists in an expression

unfoldable pub operand_list : Operands → List Operand
operand_list no_operand = []
operand_list (more_operands a rest) = a ∷ operand_list rest

pub operands_of_list : (all : Operands) → operands (operand_list all) ≡ all
unfolding operand_list
operands_of_list no_operand = refl
operands_of_list (more_operands a rest) = ap (more_operands a) (operands_of_list rest)

unfoldable pub expression_list : Expressions → List Expression
expression_list no_expression = []
expression_list (more_expressions e rest) = e ∷ expression_list rest

pub expressions_of_list : (all : Expressions) → expressions (expression_list all) ≡ all
unfolding expression_list
expressions_of_list no_expression = refl
expressions_of_list (more_expressions e rest) = ap (more_expressions e) (expressions_of_list rest)

list_counted : (all : Expressions) → length (expression_list all) ≡ count_expressions all
unfolding expression_list
list_counted no_expression = refl
list_counted (more_expressions e rest) = ap suc (list_counted rest)

abbrev index_piece : Expression → List Word
index_piece e = mark s.OpenBracket ∷ (show_expression e ++ mark s.CloseBracket ∷ [])

abbrev operand_piece : Logic → Operand → List Word
operand_piece l a = logic_word l ∷ show_operand a

-- ---- an expression that starts by an operand

starts_operand : (inner : Read Expression) (a : Operand) (ws : List Word) → expression_with inner (show_operand a ++ ws) ≡ (operand_with inner (show_operand a ++ ws) >>= λ b. after_operand inner b.0 b.1)
unfolding expression_with
starts_operand inner (variable v es) ws = refl
starts_operand inner (literal l t) ws = refl
starts_operand inner (truth true) ws = refl
starts_operand inner (truth false) ws = refl
starts_operand inner (parens e) ws = refl

nothing_linked : (inner : Read Expression) (a : Operand) (ws : List Word) → Stops ws → after_operand inner a ws ≡ Some (alone a, ws)
nothing_linked inner a [] h = refl
nothing_linked inner a (w ∷ ws) h = rw h.0 refl

-- all subscripts, where each is read again
indices_again : (inner : Read Expression) (es : Expressions) → Each (Again Word Expression index_piece (λ ws. Unit {0}) after_open_bracket (index_with inner)) (expression_list es) → count_expressions es ≤ dimensions → (ws : List Word) → Plain ws
    → indices_with inner (show_indices es ++ ws) ≡ Some (expression_list es, ws)
indices_again inner es each c ws h =
    let shown : show_indices es ≡ show_all index_piece (expression_list es) = ap show_indices (sym (expressions_of_list es)) ∙ indices_shown (expression_list es) in
    rw shown (many_again Word Expression index_piece after_open_bracket (index_with inner) (λ ws. Unit {0}) Plain (λ e ws. tt) no_bracket (expression_list es) each dimensions (rw (list_counted es) c) ws h)

-- all operands of a chain, where each is read again
chain_again : (inner : Read Expression) (l : Logic) (rest : Operands) → Each (Again Word Operand (operand_piece l) Plain (after_logic l) (operand_with inner)) (operand_list rest) → (ws : List Word) → Stops ws
    → many (after_logic l) (operand_with inner) (length (show_operands l rest ++ ws)) (show_operands l rest ++ ws) ≡ Some (operand_list rest, ws)
chain_again inner l rest each ws h =
    let shown : show_operands l rest ≡ show_all (operand_piece l) (operand_list rest) = ap (show_operands l) (sym (operands_of_list rest)) ∙ operands_shown l (operand_list rest) in
    rw shown (many_again Word Operand (operand_piece l) (after_logic l) (operand_with inner) Plain Stops (λ a ws. (links_logic l).1) (λ ws h. (no_logic l ws h, plain ws h)) (operand_list rest) each (length (show_all (operand_piece l) (operand_list rest) ++ ws)) (all_long Word Operand (operand_piece l) (λ a. omega arith) (operand_list rest) ws) ws h)

plain_operands : (l : Logic) (rest : Operands) (ws : List Word) → Plain ws → Plain (show_operands l rest ++ ws)
plain_operands l no_operand ws h = h
plain_operands l (more_operands a rest) ws h = (links_logic l).1

mutual
  unfolding operand_with expression_with expression_at expression_list operand_list

  pub expression_again : (e : Expression) (n : ℕ) (ws : List Word) → depth e < n → Narrow e → Stops ws → expression_at n (show_expression e ++ ws) ≡ Some (e, ws)
  expression_again e zero ws d nar h = absurd (omega arith)
  expression_again (alone a) (suc n) ws d nar h = starts_operand (expression_at n) a ws ∙ rw (operand_again a n ws (omega arith) nar (plain ws h)) (nothing_linked (expression_at n) a ws h)
  expression_again (two a s b) (suc n) ws d nar h =
      let g = links_dyadic s in
      rw (append_assoc (show_operand a) (dyadic_word s ∷ show_operand b) ws, starts_operand (expression_at n) a (dyadic_word s ∷ show_operand b ++ ws), operand_again a n (dyadic_word s ∷ show_operand b ++ ws) (omega arith) nar.0 g.1, g.0, operand_again b n ws (omega arith) nar.1 (plain ws h)) refl
  expression_again (one m a) (suc n) ws d nar h = rw (starts_monadic m, operand_again a n ws (omega arith) nar (plain ws h)) refl
  expression_again (convert p a) (suc n) ws d nar h = rw (starts_prim p, operand_again a n ws (omega arith) nar (plain ws h)) refl
  expression_again (limit true) (suc n) ws d nar h = refl
  expression_again (limit false) (suc n) ws d nar h = refl
  expression_again (chain l a b rest) (suc n) ws d nar h =
      let g = links_logic l in
      let after_b = show_operands l rest ++ ws in
      rw (
        append_assoc (show_operand a) (logic_word l ∷ show_operand b ++ show_operands l rest) ws,
        append_assoc (show_operand b) (show_operands l rest) ws,
        starts_operand (expression_at n) a (logic_word l ∷ (show_operand b ++ after_b)),
        operand_again a n (logic_word l ∷ (show_operand b ++ after_b)) (omega arith) nar.0 g.1,
        g.0,
        operand_again b n after_b (omega arith) nar.1 (plain_operands l rest ws (plain ws h)),
        chain_again (expression_at n) l rest (operands_each rest n l (omega arith) nar.2) ws h,
      ) (ap (λ (t : Operands). Some (chain l a b t, ws)) (operands_of_list rest))

  operands_each : (rest : Operands) (n : ℕ) (l : Logic) → depth_operands rest ≤ n → NarrowOperands rest → Each (Again Word Operand (operand_piece l) Plain (after_logic l) (operand_with (expression_at n))) (operand_list rest)
  operands_each no_operand n l d nar = tt
  operands_each (more_operands a rest) n l d nar = (λ ws h. (show_operand a ++ ws, logic_again l (show_operand a ++ ws), operand_again a n ws (omega arith) nar.0 h), operands_each rest n l (omega arith) nar.1)

  pub operand_again : (a : Operand) (n : ℕ) (ws : List Word) → depth_operand a ≤ n → NarrowOperand a → Plain ws → operand_with (expression_at n) (show_operand a ++ ws) ≡ Some (a, ws)
  operand_again (variable v es) n ws d nar h = rw (indices_again (expression_at n) es (indices_each es n d nar.1) nar.0 ws h) (ap (λ (t : Expressions). Some (variable v t, ws)) (expressions_of_list es))
  operand_again (literal l t) n ws d nar h = rw (type_again t ws h) refl
  operand_again (truth true) n ws d nar h = refl
  operand_again (truth false) n ws d nar h = refl
  operand_again (parens e) n ws d nar h = rw (append_assoc (show_expression e) (mark s.CloseParen ∷ []) ws, expression_again e n (mark s.CloseParen ∷ ws) (omega arith) nar (refl, refl)) refl

  indices_each : (es : Expressions) (n : ℕ) → depth_indices es ≤ n → NarrowExpressions es → Each (Again Word Expression index_piece (λ ws. Unit {0}) after_open_bracket (index_with (expression_at n))) (expression_list es)
  indices_each no_expression n d nar = tt
  indices_each (more_expressions e es) n d nar =
      (λ ws h. (show_expression e ++ mark s.CloseBracket ∷ ws, rw (append_assoc (show_expression e) (mark s.CloseBracket ∷ []) ws) refl, rw (expression_again e n (mark s.CloseBracket ∷ ws) (omega arith) nar.0 (refl, refl)) refl), indices_each es n (omega arith) nar.1)

-- Subscripts and sizes that are shown are read again.
pub sizes_again : (es : Expressions) (n : ℕ) (ws : List Word) → depth_indices es ≤ n → NarrowExpressions es → count_expressions es ≤ dimensions → Plain ws → indices_with (expression_at n) (show_indices es ++ ws) ≡ Some (expression_list es, ws)
sizes_again es n ws d nar c h = indices_again (expression_at n) es (indices_each es n d nar) c ws h
