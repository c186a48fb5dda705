-- No line at the head of a process, or of a part of one, begins a declaration.
use Rattle.std.proofs.Common.{◌≡◌, List, [], ◌∷◌, ◌++◌, true, false, Some, None, refl, sym, ap, ◌∙◌, append_assoc}
use Rattle.std.proofs.lemmas.List.{append-nil}
use Rattle.occ_text.specs.declared.token.Key.TheVariants as k
use Rattle.occ_text.specs.declared.token.Sym.TheVariants as s
use Rattle.occ_text.specs.Words.{Word, key, name, mark}
use Rattle.occ_tree_grammar.specs.declared.tree.expr.Primitive.TheVariants as prims
use Rattle.occ_tree_grammar.specs.declared.tree.expr.Dyadic.{Dyadic}
use Rattle.occ_tree_grammar.specs.declared.tree.expr.Dyadic.TheVariants as dyadics
use Rattle.occ_tree_grammar.specs.declared.tree.expr.Monadic.{Monadic}
use Rattle.occ_tree_grammar.specs.declared.tree.expr.Monadic.TheVariants as monadics
use Rattle.occ_tree_grammar.specs.declared.tree.expr.Logic.{Logic}
use Rattle.occ_tree_grammar.specs.declared.tree.expr.Logic.TheVariants as logics
use Rattle.occ_tree_grammar.specs.declared.lines.separator.Separator.TheVariants as separators
use Rattle.occ_tree_grammar.specs.Expressions.Trees.{Expression, alone, two, one, convert, limit, chain, Operand, variable, literal, truth, parens, Operands, no_operand, more_operands, Expressions, no_expression, more_expressions}
use Rattle.occ_tree_grammar.specs.Expressions.Shown.{dyadic_word, monadic_word, logic_word, show_expression, show_operand, show_operands, show_indices}
use Rattle.occ_tree_grammar.specs.Lines.Trees.{Var, var, Target, into, into_counted, Received, in_line, items, tagged, by_variant, of_data, of_channel}
use Rattle.occ_tree_grammar.specs.Lines.Shown.{show_listed, show_name, show_var, show_target, show_received}
use Rattle.occ_tree_grammar.specs.Lines.Heads.{skip, stop, assign, input, output, call, act, input_variants, sequence, parallel, alternation, conditional, selection, loop, chosen, nested_conditional, values, otherwise, on_input, on_skip, guarded, guarded_variants, nested_alternation, tag, DeclHead, names, value, parts, tags, procedure, show_decl_head}
use Rattle.occ_tree_grammar.specs.Lines.HeadReading.{has_colon, declares}
use Rattle.occ_tree_grammar.specs.Processes.Trees.{Kind, process, choice, option, arm, variant, Head}
use Rattle.occ_tree_grammar.specs.Processes.Shown.{show_head}

-- the words have no colon
Clear : List Word → Type 0
Clear ws = (rest : List Word) → has_colon (ws ++ rest) ≡ has_colon rest

dyadic_clear : (d : Dyadic) (ws : List Word) → has_colon (dyadic_word d ∷ ws) ≡ has_colon ws
dyadic_clear dyadics.Add ws = refl
dyadic_clear dyadics.Subtract ws = refl
dyadic_clear dyadics.Multiply ws = refl
dyadic_clear dyadics.Divide ws = refl
dyadic_clear dyadics.Remainder ws = refl
dyadic_clear dyadics.Rem ws = refl
dyadic_clear dyadics.Plus ws = refl
dyadic_clear dyadics.Minus ws = refl
dyadic_clear dyadics.Times ws = refl
dyadic_clear dyadics.BitAndSign ws = refl
dyadic_clear dyadics.BitAnd ws = refl
dyadic_clear dyadics.BitOrSign ws = refl
dyadic_clear dyadics.BitOr ws = refl
dyadic_clear dyadics.BitXor ws = refl
dyadic_clear dyadics.ShiftLeft ws = refl
dyadic_clear dyadics.ShiftRight ws = refl
dyadic_clear dyadics.After ws = refl
dyadic_clear dyadics.Equal ws = refl
dyadic_clear dyadics.Unequal ws = refl
dyadic_clear dyadics.Less ws = refl
dyadic_clear dyadics.Greater ws = refl
dyadic_clear dyadics.AtMost ws = refl
dyadic_clear dyadics.AtLeast ws = refl

monadic_clear : (m : Monadic) (ws : List Word) → has_colon (monadic_word m ∷ ws) ≡ has_colon ws
monadic_clear monadics.Negate ws = refl
monadic_clear monadics.Tilde ws = refl
monadic_clear monadics.BitNot ws = refl
monadic_clear monadics.Not ws = refl
monadic_clear monadics.Size ws = refl

logic_clear : (l : Logic) (ws : List Word) → has_colon (logic_word l ∷ ws) ≡ has_colon ws
logic_clear logics.And ws = refl
logic_clear logics.Or ws = refl

mutual
  unfolding Clear

  expression_clear : (e : Expression) → Clear (show_expression e)
  expression_clear (alone a) rest = operand_clear a rest
  expression_clear (two a d b) rest = ap has_colon (append_assoc (show_operand a) (dyadic_word d ∷ show_operand b) rest) ∙ operand_clear a (dyadic_word d ∷ show_operand b ++ rest) ∙ dyadic_clear d (show_operand b ++ rest) ∙ operand_clear b rest
  expression_clear (one m a) rest = monadic_clear m (show_operand a ++ rest) ∙ operand_clear a rest
  expression_clear (convert prims.Bool a) rest = operand_clear a rest
  expression_clear (convert prims.Byte a) rest = operand_clear a rest
  expression_clear (convert prims.Int a) rest = operand_clear a rest
  expression_clear (limit true) rest = refl
  expression_clear (limit false) rest = refl
  expression_clear (chain l a b all) rest =
      ap has_colon (append_assoc (show_operand a) (logic_word l ∷ show_operand b ++ show_operands l all) rest) ∙ operand_clear a (logic_word l ∷ (show_operand b ++ show_operands l all) ++ rest) ∙ logic_clear l ((show_operand b ++ show_operands l all) ++ rest)
      ∙ ap has_colon (append_assoc (show_operand b) (show_operands l all) rest) ∙ operand_clear b (show_operands l all ++ rest) ∙ operands_clear l all rest

  operands_clear : (l : Logic) (all : Operands) → Clear (show_operands l all)
  operands_clear l no_operand rest = refl
  operands_clear l (more_operands a all) rest = logic_clear l ((show_operand a ++ show_operands l all) ++ rest) ∙ ap has_colon (append_assoc (show_operand a) (show_operands l all) rest) ∙ operand_clear a (show_operands l all ++ rest) ∙ operands_clear l all rest

  operand_clear : (a : Operand) → Clear (show_operand a)
  operand_clear (variable v es) rest = indices_clear es rest
  operand_clear (literal l None) rest = refl
  operand_clear (literal l (Some prims.Bool)) rest = refl
  operand_clear (literal l (Some prims.Byte)) rest = refl
  operand_clear (literal l (Some prims.Int)) rest = refl
  operand_clear (truth true) rest = refl
  operand_clear (truth false) rest = refl
  operand_clear (parens e) rest = ap has_colon (append_assoc (show_expression e) (mark s.CloseParen ∷ []) rest) ∙ expression_clear e (mark s.CloseParen ∷ rest)

  indices_clear : (es : Expressions) → Clear (show_indices es)
  indices_clear no_expression rest = refl
  indices_clear (more_expressions e es) rest = ap has_colon (append_assoc (show_expression e) (mark s.CloseBracket ∷ show_indices es) rest) ∙ expression_clear e (mark s.CloseBracket ∷ show_indices es ++ rest) ∙ indices_clear es rest

operand_front : (a : Operand) (ws : List Word) → declares (show_operand a ++ ws) ≡ false
unfolding declares
operand_front (variable v es) ws = refl
operand_front (literal l t) ws = refl
operand_front (truth true) ws = refl
operand_front (truth false) ws = refl
operand_front (parens e) ws = refl

-- what follows an expression at the front that may be a conversion
not_declared : (e : Expression) (ws : List Word) → has_colon ws ≡ false → declares (show_expression e ++ ws) ≡ false
unfolding declares Clear
not_declared (alone a) ws h = operand_front a ws
not_declared (two a d b) ws h = ap declares (append_assoc (show_operand a) (dyadic_word d ∷ show_operand b) ws) ∙ operand_front a (dyadic_word d ∷ show_operand b ++ ws)
not_declared (one monadics.Negate a) ws h = refl
not_declared (one monadics.Tilde a) ws h = refl
not_declared (one monadics.BitNot a) ws h = refl
not_declared (one monadics.Not a) ws h = refl
not_declared (one monadics.Size a) ws h = refl
not_declared (convert prims.Bool a) ws h = operand_clear a ws ∙ h
not_declared (convert prims.Byte a) ws h = operand_clear a ws ∙ h
not_declared (convert prims.Int a) ws h = operand_clear a ws ∙ h
not_declared (limit true) ws h = refl
not_declared (limit false) ws h = refl
not_declared (chain l a b all) ws h = ap declares (append_assoc (show_operand a) (logic_word l ∷ show_operand b ++ show_operands l all) ws) ∙ operand_front a (logic_word l ∷ (show_operand b ++ show_operands l all) ++ ws)

-- ---- what stands behind the expression at the front

values_clear : (es : List Expression) → has_colon (show_listed separators.Comma show_expression es) ≡ false
unfolding Clear
values_clear [] = refl
values_clear (e ∷ es) = expression_clear e (show_listed separators.Comma show_expression es) ∙ values_clear es

var_clear : (v : Var) (rest : List Word) → has_colon (show_var v ++ rest) ≡ has_colon rest
unfolding Clear
var_clear (var n es) rest = indices_clear es rest

target_clear : (t : Target) (rest : List Word) → has_colon (show_target t ++ rest) ≡ has_colon rest
target_clear (into v) rest = var_clear v rest
target_clear (into_counted v w) rest = ap has_colon (append_assoc (show_var v) (mark s.DoubleColon ∷ show_var w) rest) ∙ var_clear v (mark s.DoubleColon ∷ show_var w ++ rest) ∙ var_clear w rest

targets_clear : (ts : List Target) → has_colon (show_listed separators.Semicolon show_target ts) ≡ false
targets_clear [] = refl
targets_clear (t ∷ ts) = target_clear t (show_listed separators.Semicolon show_target ts) ∙ targets_clear ts

received_clear : (r : Received) → has_colon (show_received r) ≡ false
received_clear (in_line (items v t ts)) = var_clear v (mark s.Question ∷ show_target t ++ show_listed separators.Semicolon show_target ts) ∙ target_clear t (show_listed separators.Semicolon show_target ts) ∙ targets_clear ts
received_clear (in_line (tagged v t ts)) = var_clear v (mark s.Question ∷ key k.Case ∷ name t ∷ show_listed separators.Semicolon show_target ts) ∙ targets_clear ts
received_clear (by_variant v) = var_clear v (mark s.Question ∷ key k.Case ∷ [])

var_front : (v : Var) (ws : List Word) → declares (show_var v ++ ws) ≡ false
unfolding declares
var_front (var n es) ws = refl

received_front : (r : Received) → declares (show_received r) ≡ false
received_front (in_line (items v t ts)) = var_front v _
received_front (in_line (tagged v t ts)) = var_front v _
received_front (by_variant v) = var_front v _

pub begins_none : (kind : Kind) (h : Head kind) → declares (show_head kind h) ≡ false
unfolding declares
begins_none process (act skip) = refl
begins_none process (act stop) = refl
begins_none process (act (assign v vs e es)) = var_front v _
begins_none process (act (input i)) = received_front (in_line i)
begins_none process (act (output v o os)) = var_front v _
begins_none process (act (call v es)) = refl
begins_none process (input_variants v) = received_front (by_variant v)
begins_none process (sequence r) = refl
begins_none process (parallel r) = refl
begins_none process (alternation true r) = refl
begins_none process (alternation false r) = refl
begins_none process (conditional r) = refl
begins_none process (selection e) = refl
begins_none process (loop e) = refl
begins_none choice (chosen e) = ap declares (sym (append-nil (show_expression e))) ∙ not_declared e [] refl
begins_none choice (nested_conditional r) = refl
begins_none option (values e es) = not_declared e (show_listed separators.Comma show_expression es) (values_clear es)
begins_none option otherwise = refl
begins_none arm (guarded (on_input None i)) = received_front (in_line i)
begins_none arm (guarded (on_input (Some e) i)) = not_declared e (mark s.Ampersand ∷ show_received (in_line i)) (received_clear (in_line i))
begins_none arm (guarded_variants None v) = received_front (by_variant v)
begins_none arm (guarded_variants (Some e) v) = not_declared e (mark s.Ampersand ∷ show_received (by_variant v)) (received_clear (by_variant v))
begins_none arm (guarded (on_skip e)) = not_declared e (mark s.Ampersand ∷ key k.Skip ∷ []) refl
begins_none arm (nested_alternation true r) = refl
begins_none arm (nested_alternation false r) = refl
begins_none variant (tag v ts) = refl

-- ---- the line of a declaration

colon_somewhere : (ws : List Word) → has_colon (ws ++ mark s.Colon ∷ []) ≡ true
colon_somewhere [] = refl
colon_somewhere (mark s.Colon ∷ ws) = refl
colon_somewhere (_ ∷ ws) = colon_somewhere ws

pub declaration_begins : (h : DeclHead) → declares (show_decl_head h) ≡ true
unfolding declares
declaration_begins (names no_expression (of_data prims.Bool) v vs) = colon_somewhere (show_listed separators.Comma show_name vs)
declaration_begins (names no_expression (of_data prims.Byte) v vs) = colon_somewhere (show_listed separators.Comma show_name vs)
declaration_begins (names no_expression (of_data prims.Int) v vs) = colon_somewhere (show_listed separators.Comma show_name vs)
declaration_begins (names no_expression (of_channel c) v vs) = refl
declaration_begins (names (more_expressions e es) t v vs) = refl
declaration_begins (value t v e) = refl
declaration_begins (parts v p ps) = refl
declaration_begins (tags v) = refl
declaration_begins (procedure v fs) = refl
