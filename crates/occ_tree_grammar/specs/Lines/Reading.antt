-- Reading what stands in one line, with fewer than b brackets open at one place.
-- Manual: the syntax summary. The limit of brackets: (own).
use Rattle.std.specs.Prelude.{ℕ, ◌-◌, List, [], ◌∷◌, length, Option, Some, None}
use Rattle.occ_text.specs.declared.token.Key.TheVariants as k
use Rattle.occ_text.specs.declared.token.Sym.TheVariants as s
use Rattle.occ_text.specs.Words.{Word, key, name, mark}
use Rattle.occ_tree_grammar.specs.declared.tree.expr.Primitive.{Primitive}
use Rattle.occ_tree_grammar.specs.declared.lines.separator.Separator.{Separator}
use Rattle.occ_tree_grammar.specs.declared.lines.separator.Separator.TheVariants as separators
use Rattle.occ_tree_grammar.specs.Many.{◌>>=◌, many, ended}
use Rattle.occ_tree_grammar.specs.Expressions.Trees.{Expression, expressions}
use Rattle.occ_tree_grammar.specs.Expressions.Shown.{dimensions}
use Rattle.occ_tree_grammar.specs.Expressions.Reading.{Read, after_open_bracket, after_close, prim_at, index_with, indices_with, expression_at}
use Rattle.occ_tree_grammar.specs.Lines.Trees.{Var, var, Target, into, into_counted, Out, from, from_counted, items, tagged, Received, in_line, by_variant, Replicator, each, Part, single, counted, Carried, carries, follows, Size, open_size, given, ValueType, value_type, Spec, by_value, by_reference, by_channel, Formal, formal, Formals, no_formals, formals, Actuals, no_actuals, actuals}

-- ---- single words

abbrev pub after_separator : Separator → List Word → Option (List Word)
after_separator separators.Comma (mark s.Comma ∷ ws) = Some ws
after_separator separators.Semicolon (mark s.Semicolon ∷ ws) = Some ws
after_separator _ _ = None

-- further parts of a list, each with the separator before it
abbrev pub listed_at : {A : Type 0} → Separator → Read A → Read (List A)
listed_at by read ws = many (after_separator by) read (length ws) ws

abbrev pub name_at : Read (List ℕ)
name_at (name v ∷ ws) = Some (v, ws)
name_at _ = None

abbrev pub after_assign : List Word → Option (List Word)
after_assign (mark s.Assign ∷ ws) = Some ws
after_assign _ = None

abbrev pub after_question : List Word → Option (List Word)
after_question (mark s.Question ∷ ws) = Some ws
after_question _ = None

abbrev pub after_for : List Word → Option (List Word)
after_for (key k.For ∷ ws) = Some ws
after_for _ = None

abbrev pub after_is : List Word → Option (List Word)
after_is (key k.Is ∷ ws) = Some ws
after_is _ = None

abbrev pub after_colon : List Word → Option (List Word)
after_colon (mark s.Colon ∷ ws) = Some ws
after_colon _ = None

-- ---- variables, targets and items

-- what follows the name
abbrev pub var_named : ℕ → List ℕ → Read Var
var_named b v ws = do
  es ← indices_with (expression_at (b - 1)) ws
  Some (var v (expressions es.0), es.1)

unfoldable pub var_at : ℕ → Read Var
var_at b (name v ∷ ws) = var_named b v ws
var_at b _ = None

abbrev pub target_after : ℕ → Var → Read Target
target_after b v (mark s.DoubleColon ∷ ws) = do
  w ← var_at b ws
  Some (into_counted v w.0, w.1)
target_after b v ws = Some (into v, ws)

unfoldable pub target_at : ℕ → Read Target
target_at b ws = do
  v ← var_at b ws
  target_after b v.0 v.1

abbrev pub out_after : ℕ → Expression → Read Out
out_after b e (mark s.DoubleColon ∷ ws) = do
  f ← expression_at b ws
  Some (from_counted e f.0, f.1)
out_after b e ws = Some (from e, ws)

unfoldable pub out_at : ℕ → Read Out
out_at b ws = do
  e ← expression_at b ws
  out_after b e.0 e.1

abbrev pub targets_whole : ℕ → Var → List Word → Option Received
targets_whole b v ws = do
  t ← target_at b ws
  ts ← listed_at separators.Semicolon (target_at b) t.1
  ended (in_line (items v t.0 ts.0)) ts.1

-- the rest of a line, behind the question mark
unfoldable pub received_at : ℕ → Var → List Word → Option Received
received_at b v (key k.Case ∷ []) = Some (by_variant v)
received_at b v (key k.Case ∷ name t ∷ ws) = do
  ts ← listed_at separators.Semicolon (target_at b) ws
  ended (in_line (tagged v t ts.0)) ts.1
received_at b v ws = targets_whole b v ws

-- the rest of a line, where a replicator may stand
unfoldable pub replicator_at : ℕ → List Word → Option (Option Replicator)
replicator_at b [] = Some None
replicator_at b (name v ∷ mark s.Equal ∷ ws) = do
  base ← expression_at b ws
  rest ← after_for base.1
  count ← expression_at b rest
  ended (Some (each v base.0 count.0)) count.1
replicator_at b _ = None

-- the actuals of a call, behind the bracket that opens
unfoldable pub actuals_at : ℕ → Read Actuals
actuals_at b (mark s.CloseParen ∷ ws) = Some (no_actuals, ws)
actuals_at b ws = do
  e ← expression_at b ws
  es ← listed_at separators.Comma (expression_at b) e.1
  rest ← after_close es.1
  Some (actuals e.0 es.0, rest)

-- ---- types and formals

abbrev pub part_after : List Expression → Primitive → Read Part
part_after [] p (mark s.DoubleColon ∷ mark s.OpenBracket ∷ mark s.CloseBracket ∷ ws) = do
  q ← prim_at ws
  Some (counted p q.0, q.1)
part_after es p ws = Some (single (expressions es) p, ws)

unfoldable pub part_at : ℕ → Read Part
part_at b ws = do
  es ← indices_with (expression_at b) ws
  p ← prim_at es.1
  part_after es.0 p.0 p.1

unfoldable pub carried_at : ℕ → Read Carried
carried_at b (name v ∷ ws) = Some (follows v, ws)
carried_at b ws = do
  p ← part_at b ws
  Some (carries p.0, p.1)

-- what stands in a bracket that was opened
abbrev pub size_with : ℕ → Read Size
size_with b (mark s.CloseBracket ∷ ws) = Some (open_size, ws)
size_with b ws = do
  e ← index_with (expression_at b) ws
  Some (given e.0, e.1)

abbrev pub sizes_at : ℕ → Read (List Size)
sizes_at b = many after_open_bracket (size_with b) dimensions

unfoldable pub value_type_at : ℕ → Read ValueType
value_type_at b ws = do
  ds ← sizes_at b ws
  p ← prim_at ds.1
  Some (value_type ds.0 p.0, p.1)

abbrev pub spec_after : ℕ → List Size → Read Spec
spec_after b ds (key k.Chan ∷ key k.Of ∷ ws) = do
  c ← carried_at b ws
  Some (by_channel ds c.0, c.1)
spec_after b ds ws = do
  p ← prim_at ws
  Some (by_reference (value_type ds p.0), p.1)

unfoldable pub spec_at : ℕ → Read Spec
spec_at b (key k.Val ∷ ws) = do
  t ← value_type_at b ws
  Some (by_value t.0, t.1)
spec_at b ws = do
  ds ← sizes_at b ws
  spec_after b ds.0 ds.1

unfoldable pub formal_at : ℕ → Read Formal
formal_at b (name v ∷ ws) = Some (formal None v, ws)
formal_at b ws = do
  t ← spec_at b ws
  v ← name_at t.1
  Some (formal (Some t.0) v.0, v.1)

-- the formals of a procedure, behind the bracket that opens
unfoldable pub formals_at : ℕ → Read Formals
formals_at b (mark s.CloseParen ∷ ws) = Some (no_formals, ws)
formals_at b ws = do
  t ← spec_at b ws
  v ← name_at t.1
  fs ← listed_at separators.Comma (formal_at b) v.1
  rest ← after_close fs.1
  Some (formals t.0 v.0 fs.0, rest)
