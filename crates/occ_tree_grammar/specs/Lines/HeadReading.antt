-- Reading the lines at the head of processes and of their parts. Each reads a whole line.
-- Manual: the syntax summary; primitive and combining processes; declarations.
use Rattle.std.specs.Prelude.{ℕ, List, [], ◌∷◌, Bool, true, false, Option, Some, None}
use Rattle.occ_text.specs.declared.token.Key.TheVariants as k
use Rattle.occ_text.specs.declared.token.Sym.TheVariants as s
use Rattle.occ_text.specs.Words.{Word, key, name, mark}
use Rattle.occ_tree_grammar.specs.declared.lines.separator.Separator.TheVariants as separators
use Rattle.occ_tree_grammar.specs.Many.{◌>>=◌, ended}
use Rattle.occ_tree_grammar.specs.Expressions.Trees.{Expression, alone, Operand, variable, Expressions, expressions}
use Rattle.occ_tree_grammar.specs.Expressions.Reading.{prim_at, indices_with, expression_at}
use Rattle.occ_tree_grammar.specs.Lines.Trees.{Var, var, Received, in_line, by_variant, Sort, of_data, of_channel, ValueType}
use Rattle.occ_tree_grammar.specs.Lines.Reading.{listed_at, name_at, after_assign, after_question, after_is, after_colon, var_named, var_at, target_at, out_at, received_at, replicator_at, actuals_at, part_at, carried_at, value_type_at, formals_at}
use Rattle.occ_tree_grammar.specs.Lines.Heads.{skip, stop, assign, input, output, call, ProcessHead, act, input_variants, sequence, parallel, alternation, conditional, selection, loop, ChoiceHead, chosen, nested_conditional, OptionHead, values, otherwise, on_input, on_skip, ArmHead, guarded, guarded_variants, nested_alternation, VariantHead, tag, DeclHead, names, value, parts, tags, procedure, TagHead, tag_parts}

-- ---- processes

abbrev pub received_head : Received → ProcessHead
received_head (in_line i) = act (input i)
received_head (by_variant v) = input_variants v

abbrev pub assignment_at : ℕ → Var → List Word → Option ProcessHead
assignment_at b v ws = do
  vs ← listed_at separators.Comma (var_at b) ws
  rest ← after_assign vs.1
  e ← expression_at b rest
  es ← listed_at separators.Comma (expression_at b) e.1
  ended (act (assign v vs.0 e.0 es.0)) es.1

-- what follows the variable or the channel at the front
abbrev pub after_var : ℕ → Var → List Word → Option ProcessHead
after_var b v (mark s.Question ∷ ws) = do
  r ← received_at b v ws
  Some (received_head r)
after_var b v (mark s.Exclamation ∷ ws) = do
  o ← out_at b ws
  os ← listed_at separators.Semicolon (out_at b) o.1
  ended (act (output v o.0 os.0)) os.1
after_var b v ws = assignment_at b v ws

abbrev pub var_first : ℕ → List ℕ → List Word → Option ProcessHead
var_first b v ws = do
  x ← var_named b v ws
  after_var b x.0 x.1

abbrev pub after_open : List Word → Option (List Word)
after_open (mark s.OpenParen ∷ ws) = Some ws
after_open _ = None

abbrev pub called : ℕ → List ℕ → Option (List Word) → List Word → Option ProcessHead
called b v (Some ws) all = do
  es ← actuals_at b ws
  ended (act (call v es.0)) es.1
called b v None all = var_first b v all

-- what follows the name at the front: a call, or the rest of a variable or a channel
abbrev pub name_first : ℕ → List ℕ → List Word → Option ProcessHead
name_first b v ws = called b v (after_open ws) ws

unfoldable pub process_head_at : ℕ → List Word → Option ProcessHead
process_head_at b (key k.Skip ∷ ws) = ended (act skip) ws
process_head_at b (key k.Stop ∷ ws) = ended (act stop) ws
process_head_at b (key k.Seq ∷ ws) = do
  r ← replicator_at b ws
  Some (sequence r)
process_head_at b (key k.Par ∷ ws) = do
  r ← replicator_at b ws
  Some (parallel r)
process_head_at b (key k.Alt ∷ ws) = do
  r ← replicator_at b ws
  Some (alternation false r)
process_head_at b (key k.Pri ∷ key k.Alt ∷ ws) = do
  r ← replicator_at b ws
  Some (alternation true r)
process_head_at b (key k.If ∷ ws) = do
  r ← replicator_at b ws
  Some (conditional r)
process_head_at b (key k.Case ∷ ws) = do
  e ← expression_at b ws
  ended (selection e.0) e.1
process_head_at b (key k.While ∷ ws) = do
  e ← expression_at b ws
  ended (loop e.0) e.1
process_head_at b (name v ∷ ws) = name_first b v ws
process_head_at b _ = None

-- ---- choices and options

abbrev pub condition_at : ℕ → List Word → Option ChoiceHead
condition_at b ws = do
  e ← expression_at b ws
  ended (chosen e.0) e.1

unfoldable pub choice_head_at : ℕ → List Word → Option ChoiceHead
choice_head_at b (key k.If ∷ ws) = do
  r ← replicator_at b ws
  Some (nested_conditional r)
choice_head_at b ws = condition_at b ws

abbrev pub values_at : ℕ → List Word → Option OptionHead
values_at b ws = do
  e ← expression_at b ws
  es ← listed_at separators.Comma (expression_at b) e.1
  ended (values e.0 es.0) es.1

unfoldable pub option_head_at : ℕ → List Word → Option OptionHead
option_head_at b (key k.Else ∷ ws) = ended otherwise ws
option_head_at b ws = values_at b ws

-- ---- arms and variants

abbrev pub received_arm : Option Expression → Received → ArmHead
received_arm e (in_line i) = guarded (on_input e i)
received_arm e (by_variant v) = guarded_variants e v

abbrev pub operand_var : Operand → Option Var
operand_var (variable v es) = Some (var v es)
operand_var _ = None

-- the expression, where it is a variable or a channel
abbrev pub as_var : Expression → Option Var
as_var (alone a) = operand_var a
as_var _ = None

-- a channel and what is received from it
abbrev pub reception_at : ℕ → List Word → Option Received
reception_at b ws = do
  v ← var_at b ws
  rest ← after_question v.1
  received_at b v.0 rest

abbrev pub boolean_at : ℕ → Expression → List Word → Option ArmHead
boolean_at b e ws = do
  r ← reception_at b ws
  Some (received_arm (Some e) r)

-- what follows a Boolean and its ampersand
abbrev pub after_and : ℕ → Expression → List Word → Option ArmHead
after_and b e (key k.Skip ∷ ws) = ended (guarded (on_skip e)) ws
after_and b e ws = boolean_at b e ws

-- what follows the channel of a guard and its question mark
abbrev pub channel_first : ℕ → Option Var → List Word → Option ArmHead
channel_first b channel ws = do
  v ← channel
  r ← received_at b v ws
  Some (received_arm None r)

abbrev pub after_condition : ℕ → Expression → List Word → Option ArmHead
after_condition b e (mark s.Question ∷ ws) = channel_first b (as_var e) ws
after_condition b e (mark s.Ampersand ∷ ws) = after_and b e ws
after_condition b e _ = None

abbrev pub guard_at : ℕ → List Word → Option ArmHead
guard_at b ws = do
  e ← expression_at b ws
  after_condition b e.0 e.1

-- what follows PRI
abbrev pub by_priority : ℕ → List Word → Option ArmHead
by_priority b (key k.Alt ∷ ws) = do
  r ← replicator_at b ws
  Some (nested_alternation true r)
by_priority b _ = None

unfoldable pub arm_head_at : ℕ → List Word → Option ArmHead
arm_head_at b (key k.Alt ∷ ws) = do
  r ← replicator_at b ws
  Some (nested_alternation false r)
arm_head_at b (key k.Pri ∷ ws) = by_priority b ws
arm_head_at b ws = guard_at b ws

unfoldable pub variant_head_at : ℕ → List Word → Option VariantHead
variant_head_at b (name v ∷ ws) = do
  ts ← listed_at separators.Semicolon (target_at b) ws
  ended (tag v ts.0) ts.1
variant_head_at b _ = None

-- ---- declarations

abbrev pub names_at : ℕ → Expressions → Sort → List Word → Option DeclHead
names_at b es t ws = do
  v ← name_at ws
  vs ← listed_at separators.Comma name_at v.1
  rest ← after_colon vs.1
  ended (names es t v.0 vs.0) rest

-- what follows the sizes of a declaration
abbrev pub sort_at : ℕ → Expressions → List Word → Option DeclHead
sort_at b es (key k.Chan ∷ key k.Of ∷ ws) = do
  c ← carried_at b ws
  names_at b es (of_channel c.0) c.1
sort_at b es ws = do
  p ← prim_at ws
  names_at b es (of_data p.0) p.1

abbrev pub named_value_at : ℕ → Option ValueType → List Word → Option DeclHead
named_value_at b t ws = do
  v ← name_at ws
  rest ← after_is v.1
  e ← expression_at b rest
  last ← after_colon e.1
  ended (value t v.0 e.0) last

abbrev pub typed_value_at : ℕ → List Word → Option DeclHead
typed_value_at b ws = do
  t ← value_type_at b ws
  named_value_at b (Some t.0) t.1

-- what follows VAL
abbrev pub value_at : ℕ → List Word → Option DeclHead
value_at b (name v ∷ ws) = named_value_at b None (name v ∷ ws)
value_at b ws = typed_value_at b ws

-- what follows PROTOCOL
abbrev pub protocol_at : ℕ → List Word → Option DeclHead
protocol_at b (name v ∷ []) = Some (tags v)
protocol_at b (name v ∷ key k.Is ∷ ws) = do
  p ← part_at b ws
  ps ← listed_at separators.Semicolon (part_at b) p.1
  rest ← after_colon ps.1
  ended (parts v p.0 ps.0) rest
protocol_at b _ = None

-- what follows PROC
abbrev pub procedure_at : ℕ → List Word → Option DeclHead
procedure_at b (name v ∷ mark s.OpenParen ∷ ws) = do
  fs ← formals_at b ws
  ended (procedure v fs.0) fs.1
procedure_at b _ = None

abbrev pub declared_at : ℕ → List Word → Option DeclHead
declared_at b ws = do
  es ← indices_with (expression_at b) ws
  sort_at b (expressions es.0) es.1

unfoldable pub decl_head_at : ℕ → List Word → Option DeclHead
decl_head_at b (key k.Val ∷ ws) = value_at b ws
decl_head_at b (key k.Protocol ∷ ws) = protocol_at b ws
decl_head_at b (key k.Proc ∷ ws) = procedure_at b ws
decl_head_at b ws = declared_at b ws

unfoldable pub tag_head_at : ℕ → List Word → Option TagHead
tag_head_at b (name v ∷ ws) = do
  ps ← listed_at separators.Semicolon (part_at b) ws
  ended (tag_parts v ps.0) ps.1
tag_head_at b _ = None

-- ---- declarations apart from expressions

abbrev pub has_colon : List Word → Bool
has_colon [] = false
has_colon (mark s.Colon ∷ ws) = true
has_colon (w ∷ ws) = has_colon ws

-- The line begins a declaration. A line that begins with a primitive type may be an expression too, and no
-- expression has a colon.
unfoldable pub declares : List Word → Bool
declares (key k.Val ∷ ws) = true
declares (key k.Protocol ∷ ws) = true
declares (key k.Proc ∷ ws) = true
declares (key k.Chan ∷ ws) = true
declares (mark s.OpenBracket ∷ ws) = true
declares (key k.Bool ∷ ws) = has_colon ws
declares (key k.Byte ∷ ws) = has_colon ws
declares (key k.Int ∷ ws) = has_colon ws
declares _ = false
