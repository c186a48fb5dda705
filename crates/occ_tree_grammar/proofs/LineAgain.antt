-- What is shown in a line is read again.
use Rattle.std.proofs.Common.{◌≡◌, ℕ, ◌-◌, List, [], ◌∷◌, ◌++◌, length, Bool, true, false, Option, Some, None, refl, sym, ap, ◌∙◌, append_assoc, arith, zero-le}
use Rattle.std.proofs.lemmas.List.{append-nil}
use Rattle.occ_text.specs.declared.token.Key.TheVariants as k
use Rattle.occ_text.specs.declared.token.Sym.TheVariants as s
use Rattle.occ_text.specs.Words.{Word, key, name, mark}
use Rattle.occ_tree_grammar.specs.declared.tree.expr.Primitive.{Primitive}
use Rattle.occ_tree_grammar.specs.declared.tree.expr.Primitive.TheVariants as prims
use Rattle.occ_tree_grammar.specs.declared.tree.expr.Monadic.TheVariants as monadics
use Rattle.occ_tree_grammar.specs.declared.lines.separator.Separator.{Separator}
use Rattle.occ_tree_grammar.specs.declared.lines.separator.Separator.TheVariants as separators
use Rattle.occ_tree_grammar.specs.Lists.{show_all, Each}
use Rattle.occ_tree_grammar.specs.Many.{◌>>=◌}
use Rattle.occ_tree_grammar.specs.Expressions.Trees.{Expression, alone, two, one, convert, limit, chain, Operand, variable, literal, truth, parens, Expressions, no_expression, more_expressions, expressions}
use Rattle.occ_tree_grammar.specs.Expressions.Shown.{prim_word, dyadic_word, logic_word, show_expression, show_operand, show_operands, show_indices, dimensions}
use Rattle.occ_tree_grammar.specs.Expressions.Reading.{Read, after_open_bracket, after_close, index_with, indices_with, expression_at}
use Rattle.occ_tree_grammar.specs.Expressions.Follow.{opens, Plain, Stops}
use Rattle.occ_tree_grammar.specs.Lines.Trees.{Var, var, Target, into, into_counted, Out, from, from_counted, items, tagged, Received, in_line, by_variant, Replicator, each, Part, single, counted, Carried, carries, follows, Size, open_size, given, ValueType, value_type, Spec, by_value, by_reference, by_channel, Formal, formal, Formals, no_formals, formals, Actuals, no_actuals, actuals}
use Rattle.occ_tree_grammar.specs.Lines.Shown.{separator_word, show_listed, show_name, show_var, show_target, show_out, show_received, show_replicator, show_part, show_carried, show_size, show_value_type, show_spec, show_formal, show_formals, show_actuals}
use Rattle.occ_tree_grammar.specs.Lines.Fits.{FitsExpression, FitsVar, FitsTarget, FitsOut, FitsReceived, FitsReplicator, FitsPart, FitsCarried, FitsSize, FitsAllSizes, FitsValueType, FitsSpec, FitsFormal, FitsFormals, FitsActuals}
use Rattle.occ_tree_grammar.specs.Lines.Reading.{after_separator, listed_at, name_at, var_at, target_after, target_at, out_after, out_at, targets_whole, received_at, replicator_at, actuals_at, part_after, part_at, carried_at, size_with, sizes_at, value_type_at, spec_after, spec_at, formal_at, formals_at}
use Rattle.occ_tree_grammar.specs.Lines.Follow.{Ends, Begins}
use Rattle.occ_tree_grammar.proofs.Manys.{Again, many_again, all_long, each_map}
use Rattle.occ_tree_grammar.proofs.ExpressionAgain.{prim_again, plain, expression_again, sizes_again, expression_list, expressions_of_list}

-- ---- what may follow

pub stops : (ws : List Word) → Ends ws → Stops ws
stops [] h = tt
stops (w ∷ ws) h = (h.0, h.1)

pub ends_plain : (ws : List Word) → Ends ws → Plain ws
ends_plain ws h = plain ws (stops ws h)

pub separator_ends : (by : Separator) (ws : List Word) → Ends (separator_word by ∷ ws)
separator_ends separators.Comma ws = (refl, refl, refl)
separator_ends separators.Semicolon ws = (refl, refl, refl)

separator_again : (by : Separator) (ws : List Word) → after_separator by (separator_word by ∷ ws) ≡ Some ws
separator_again separators.Comma ws = refl
separator_again separators.Semicolon ws = refl

-- ---- lists

-- the list may end here
pub record Last (by : Separator) (ws : List Word) : Type 0 where
  pub no_more : after_separator by ws ≡ None
  pub may_end : Ends ws

module _ (A : Type 0) (show : A → List Word) (fits : A → Type 0) (read : Read A) (again : (a : A) (ws : List Word) → fits a → Ends ws → read (show a ++ ws) ≡ Some (a, ws)) (by : Separator) where
  piece_again : (a : A) → fits a → Again Word A (λ x. separator_word by ∷ show x) Ends (after_separator by) read a
  piece_again a f ws h = (show a ++ ws, separator_again by (show a ++ ws), again a ws f h)

  pub listed_again : (all : List A) (ws : List Word) → Each fits all → Last by ws → listed_at by read (show_listed by show all ++ ws) ≡ Some (all, ws)
  listed_again all ws f h =
      many_again Word A (λ a. separator_word by ∷ show a) (after_separator by) read Ends (Last by) (λ a vs. separator_ends by (show a ++ vs)) (λ vs l. (l.no_more, l.may_end)) all (each_map piece_again all f) (length (show_listed by show all ++ ws)) (all_long Word A (λ a. separator_word by ∷ show a) (λ a. omega arith) all ws) ws h

  pub last_again : (all : List A) → Each fits all → listed_at by read (show_listed by show all) ≡ Some (all, [])
  last_again all f =
      let nothing : after_separator by [] ≡ None = elim by as (λ x. after_separator x [] ≡ None) [ separators.Comma ↦ refl | separators.Semicolon ↦ refl ] in
      ap (listed_at by read) (sym (append-nil (show_listed by show all))) ∙ listed_again all [] f (record { no_more = nothing; may_end = tt })

  pub listed_ends : (all : List A) (ws : List Word) → Ends ws → Ends (show_listed by show all ++ ws)
  listed_ends [] ws h = h
  listed_ends (a ∷ all) ws h = separator_ends by ((show a ++ show_listed by show all) ++ ws)

pub name_again : (v : List ℕ) (ws : List Word) → Unit {0} → Ends ws → name_at (show_name v ++ ws) ≡ Some (v, ws)
name_again v ws f h = refl

-- ---- variables, targets and items

pub fits_again : (b : ℕ) (e : Expression) (ws : List Word) → FitsExpression b e → Ends ws → expression_at b (show_expression e ++ ws) ≡ Some (e, ws)
fits_again b e ws f h = expression_again e b ws f.0 f.1 (stops ws h)

pub last_expression_again : (b : ℕ) (e : Expression) → FitsExpression b e → expression_at b (show_expression e) ≡ Some (e, [])
last_expression_again b e f = ap (expression_at b) (sym (append-nil (show_expression e))) ∙ expression_again e b [] f.0 f.1 tt

pub var_again : (b : ℕ) (v : Var) (ws : List Word) → FitsVar b v → Plain ws → var_at b (show_var v ++ ws) ≡ Some (v, ws)
unfolding var_at
var_again b (var n es) ws f h = rw (sizes_again es (b - 1) ws f.0 f.1 f.2 h) (ap (λ (t : Expressions). Some (var n t, ws)) (expressions_of_list es))

pub ended_var_again : (b : ℕ) (v : Var) (ws : List Word) → FitsVar b v → Ends ws → var_at b (show_var v ++ ws) ≡ Some (v, ws)
ended_var_again b v ws f h = var_again b v ws f (ends_plain ws h)

no_count : (b : ℕ) (v : Var) (ws : List Word) → Ends ws → target_after b v ws ≡ Some (into v, ws)
no_count b v (mark s.DoubleColon ∷ ws) h = absurd cc
no_count b v _ h = refl

pub target_again : (b : ℕ) (t : Target) (ws : List Word) → FitsTarget b t → Ends ws → target_at b (show_target t ++ ws) ≡ Some (t, ws)
unfolding target_at
target_again b (into v) ws f h = rw (var_again b v ws f (ends_plain ws h)) (no_count b v ws h)
target_again b (into_counted v w) ws f h =
    rw (append_assoc (show_var v) (mark s.DoubleColon ∷ show_var w) ws, var_again b v (mark s.DoubleColon ∷ show_var w ++ ws) f.0 refl, var_again b w ws f.1 (ends_plain ws h)) refl

no_out_count : (b : ℕ) (e : Expression) (ws : List Word) → Ends ws → out_after b e ws ≡ Some (from e, ws)
no_out_count b e (mark s.DoubleColon ∷ ws) h = absurd cc
no_out_count b e _ h = refl

pub out_again : (b : ℕ) (o : Out) (ws : List Word) → FitsOut b o → Ends ws → out_at b (show_out o ++ ws) ≡ Some (o, ws)
unfolding out_at
out_again b (from e) ws f h = rw (fits_again b e ws f h) (no_out_count b e ws h)
out_again b (from_counted e g) ws f h =
    rw (append_assoc (show_expression e) (mark s.DoubleColon ∷ show_expression g) ws, expression_again e b (mark s.DoubleColon ∷ show_expression g ++ ws) f.0.0 f.0.1 (refl, refl), fits_again b g ws f.1 h) refl

-- the channel, and what follows the question mark
abbrev pub channel : Received → Var
channel (in_line (items v t ts)) = v
channel (in_line (tagged v t ts)) = v
channel (by_variant v) = v

abbrev pub show_tail : Received → List Word
show_tail (in_line (items v t ts)) = show_target t ++ show_listed separators.Semicolon show_target ts
show_tail (in_line (tagged v t ts)) = key k.Case ∷ name t ∷ show_listed separators.Semicolon show_target ts
show_tail (by_variant v) = key k.Case ∷ []

pub tail_shown : (r : Received) → show_received r ≡ show_var (channel r) ++ mark s.Question ∷ show_tail r
tail_shown (in_line (items v t ts)) = refl
tail_shown (in_line (tagged v t ts)) = refl
tail_shown (by_variant v) = refl

pub channel_fits : (b : ℕ) (r : Received) → FitsReceived b r → FitsVar b (channel r)
channel_fits b (in_line (items v t ts)) f = f.0
channel_fits b (in_line (tagged v t ts)) f = f.0
channel_fits b (by_variant v) f = f

no_tag : (b : ℕ) (v : Var) (t : Target) (ws : List Word) → received_at b v (show_target t ++ ws) ≡ targets_whole b v (show_target t ++ ws)
unfolding received_at
no_tag b v (into (var n es)) ws = refl
no_tag b v (into_counted (var n es) w) ws = refl

closed : (all : List Target) → Ends (show_listed separators.Semicolon show_target all)
closed [] = tt
closed (u ∷ all) = (refl, refl, refl)

pub received_again : (b : ℕ) (r : Received) → FitsReceived b r → received_at b (channel r) (show_tail r) ≡ Some r
unfolding received_at
received_again b (in_line (items v t ts)) f =
    no_tag b v t (show_listed separators.Semicolon show_target ts) ∙ rw (target_again b t (show_listed separators.Semicolon show_target ts) f.1 (closed ts), last_again Target show_target (FitsTarget b) (target_at b) (target_again b) separators.Semicolon ts f.2) refl
received_again b (in_line (tagged v t ts)) f = rw (last_again Target show_target (FitsTarget b) (target_at b) (target_again b) separators.Semicolon ts f.1) refl
received_again b (by_variant v) f = refl

pub replicator_again : (b : ℕ) (r : Option Replicator) → FitsReplicator b r → replicator_at b (show_replicator r) ≡ Some r
unfolding replicator_at
replicator_again b None f = refl
replicator_again b (Some (each v base count)) f = rw (fits_again b base (key k.For ∷ show_expression count) f.0 (refl, refl, refl), last_expression_again b count f.1) refl

-- ---- how an expression begins

operand_begins : (a : Operand) (ws : List Word) → Begins (show_operand a ++ ws)
operand_begins (variable v es) ws = refl
operand_begins (literal l t) ws = refl
operand_begins (truth true) ws = refl
operand_begins (truth false) ws = refl
operand_begins (parens e) ws = refl

pub expression_begins : (e : Expression) (ws : List Word) → Begins (show_expression e ++ ws)
expression_begins (alone a) ws = operand_begins a ws
expression_begins (two a d b) ws = rw (append_assoc (show_operand a) (dyadic_word d ∷ show_operand b) ws) (operand_begins a (dyadic_word d ∷ show_operand b ++ ws))
expression_begins (one monadics.Negate a) ws = refl
expression_begins (one monadics.Tilde a) ws = refl
expression_begins (one monadics.BitNot a) ws = refl
expression_begins (one monadics.Not a) ws = refl
expression_begins (one monadics.Size a) ws = refl
expression_begins (convert prims.Bool a) ws = refl
expression_begins (convert prims.Byte a) ws = refl
expression_begins (convert prims.Int a) ws = refl
expression_begins (limit true) ws = refl
expression_begins (limit false) ws = refl
expression_begins (chain l a b rest) ws = rw (append_assoc (show_operand a) (logic_word l ∷ show_operand b ++ show_operands l rest) ws) (operand_begins a (logic_word l ∷ show_operand b ++ show_operands l rest ++ ws))

no_close : (b : ℕ) (ws : List Word) → Begins ws → actuals_at b ws ≡ (expression_at b ws >>= λ e. listed_at separators.Comma (expression_at b) e.1 >>= λ es. after_close es.1 >>= λ rest. Some (actuals e.0 es.0, rest))
unfolding actuals_at
no_close b (mark s.CloseParen ∷ ws) h = absurd cc
no_close b _ h = refl

close_last : (ws : List Word) → Last separators.Comma (mark s.CloseParen ∷ ws)
close_last ws = record { no_more = refl; may_end = (refl, refl, refl) }

no_actuals_again : (b : ℕ) (ws : List Word) → actuals_at b (mark s.CloseParen ∷ ws) ≡ Some (no_actuals, ws)
unfolding actuals_at
no_actuals_again b ws = refl

pub actuals_again : (b : ℕ) (es : Actuals) (ws : List Word) → FitsActuals b es → actuals_at b (show_actuals es ++ ws) ≡ Some (es, ws)
actuals_again b no_actuals ws f = no_actuals_again b ws
actuals_again b (actuals e es) ws f =
    let others = show_listed separators.Comma show_expression es in
    let tail = others ++ mark s.CloseParen ∷ ws in
    rw (append_assoc (show_expression e) (others ++ mark s.CloseParen ∷ []) ws, append_assoc others (mark s.CloseParen ∷ []) ws, no_close b (show_expression e ++ tail) (expression_begins e tail), fits_again b e tail f.0 (listed_ends Expression show_expression (FitsExpression b) (expression_at b) (fits_again b) separators.Comma es (mark s.CloseParen ∷ ws) (refl, refl, refl)), listed_again Expression show_expression (FitsExpression b) (expression_at b) (fits_again b) separators.Comma es (mark s.CloseParen ∷ ws) f.1 (close_last ws)) refl

-- ---- types and formals

prim_plain : (p : Primitive) → opens (prim_word p) ≡ false
prim_plain prims.Bool = refl
prim_plain prims.Byte = refl
prim_plain prims.Int = refl

no_counted : (es : List Expression) (p : Primitive) (ws : List Word) → Ends ws → part_after es p ws ≡ Some (single (expressions es) p, ws)
no_counted [] p (mark s.DoubleColon ∷ ws) h = absurd cc
no_counted [] p _ h = refl
no_counted (e ∷ es) p ws h = refl

no_sizes : (b : ℕ) (ws : List Word) → Plain ws → indices_with (expression_at b) ws ≡ Some ([], ws)
unfolding expression_list
no_sizes b ws h = sizes_again no_expression b ws zero-le tt zero-le h

pub part_again : (b : ℕ) (p : Part) (ws : List Word) → FitsPart b p → Ends ws → part_at b (show_part p ++ ws) ≡ Some (p, ws)
unfolding part_at
part_again b (single es p) ws f h =
    rw (append_assoc (show_indices es) (prim_word p ∷ []) ws, sizes_again es b (prim_word p ∷ ws) f.0 f.1 f.2 (prim_plain p), prim_again p ws) (no_counted (expression_list es) p ws h ∙ ap (λ (t : Expressions). Some (single t p, ws)) (expressions_of_list es))
part_again b (counted p q) ws f h =
    let tail = mark s.DoubleColon ∷ mark s.OpenBracket ∷ mark s.CloseBracket ∷ prim_word q ∷ ws in
    rw (no_sizes b (prim_word p ∷ tail) (prim_plain p), prim_again p tail, prim_again q ws) refl

no_protocol : (b : ℕ) (p : Part) (ws : List Word) → carried_at b (show_part p ++ ws) ≡ (part_at b (show_part p ++ ws) >>= λ q. Some (carries q.0, q.1))
unfolding carried_at
no_protocol b (single no_expression prims.Bool) ws = refl
no_protocol b (single no_expression prims.Byte) ws = refl
no_protocol b (single no_expression prims.Int) ws = refl
no_protocol b (single (more_expressions e es) p) ws = refl
no_protocol b (counted prims.Bool q) ws = refl
no_protocol b (counted prims.Byte q) ws = refl
no_protocol b (counted prims.Int q) ws = refl

pub carried_again : (b : ℕ) (c : Carried) (ws : List Word) → FitsCarried b c → Ends ws → carried_at b (show_carried c ++ ws) ≡ Some (c, ws)
unfolding carried_at
carried_again b (carries p) ws f h = no_protocol b p ws ∙ rw (part_again b p ws f h) refl
carried_again b (follows v) ws f h = refl

no_open : (b : ℕ) (ws : List Word) → Begins ws → size_with b ws ≡ (index_with (expression_at b) ws >>= λ e. Some (given e.0, e.1))
no_open b (mark s.CloseBracket ∷ ws) h = absurd cc
no_open b _ h = refl

size_again : (b : ℕ) (d : Size) → FitsSize b d → Again Word Size show_size (λ ws. Unit {0}) after_open_bracket (size_with b) d
size_again b open_size f ws h = (mark s.CloseBracket ∷ ws, refl, refl)
size_again b (given e) f ws h =
    let inside = show_expression e ++ mark s.CloseBracket ∷ ws in
    (inside, rw (append_assoc (show_expression e) (mark s.CloseBracket ∷ []) ws) refl, no_open b inside (expression_begins e (mark s.CloseBracket ∷ ws)) ∙ rw (fits_again b e (mark s.CloseBracket ∷ ws) f (refl, refl, refl)) refl)

no_bracket : (ws : List Word) → Plain ws → (after_open_bracket ws ≡ None) × Unit {0}
no_bracket (mark s.OpenBracket ∷ ws) h = absurd cc
no_bracket _ h = (refl, tt)

all_sizes_again : (b : ℕ) (ds : List Size) (ws : List Word) → FitsAllSizes b ds → Plain ws → sizes_at b (show_all show_size ds ++ ws) ≡ Some (ds, ws)
all_sizes_again b ds ws f h = many_again Word Size show_size after_open_bracket (size_with b) (λ ws. Unit {0}) Plain (λ d ws. tt) no_bracket ds (each_map (size_again b) ds f.0) dimensions f.1 ws h

pub value_type_again : (b : ℕ) (t : ValueType) (ws : List Word) → FitsValueType b t → value_type_at b (show_value_type t ++ ws) ≡ Some (t, ws)
unfolding value_type_at
value_type_again b (value_type ds p) ws f = rw (append_assoc (show_all show_size ds) (prim_word p ∷ []) ws, all_sizes_again b ds (prim_word p ∷ ws) f (prim_plain p), prim_again p ws) refl

-- how a type begins, and a channel
abbrev pub begins_type : Word → Bool
begins_type (mark s.OpenBracket) = true
begins_type (key k.Bool) = true
begins_type (key k.Byte) = true
begins_type (key k.Int) = true
begins_type (key k.Chan) = true
begins_type _ = false

abbrev pub BeginsType : List Word → Type 0
BeginsType [] = ⊥
BeginsType (w ∷ ws) = begins_type w ≡ true

sizes_begin : (ds : List Size) (w : Word) (ws : List Word) → begins_type w ≡ true → BeginsType (show_all show_size ds ++ w ∷ ws)
sizes_begin [] w ws h = h
sizes_begin (open_size ∷ ds) w ws h = refl
sizes_begin (given e ∷ ds) w ws h = refl

prim_begins : (p : Primitive) → begins_type (prim_word p) ≡ true
prim_begins prims.Bool = refl
prim_begins prims.Byte = refl
prim_begins prims.Int = refl

pub value_type_begins : (t : ValueType) (ws : List Word) → BeginsType (show_value_type t ++ ws)
value_type_begins (value_type ds p) ws = rw (append_assoc (show_all show_size ds) (prim_word p ∷ []) ws) (sizes_begin ds (prim_word p) ws (prim_begins p))

channel_begins : (ds : List Size) (c : Carried) (ws : List Word) → BeginsType ((show_all show_size ds ++ key k.Chan ∷ key k.Of ∷ show_carried c) ++ ws)
channel_begins ds c ws = rw (append_assoc (show_all show_size ds) (key k.Chan ∷ key k.Of ∷ show_carried c) ws) (sizes_begin ds (key k.Chan) (key k.Of ∷ show_carried c ++ ws) refl)

no_val : (b : ℕ) (ws : List Word) → BeginsType ws → spec_at b ws ≡ (sizes_at b ws >>= λ ds. spec_after b ds.0 ds.1)
unfolding spec_at
no_val b (key k.Val ∷ ws) h = absurd cc
no_val b _ h = refl

no_channel : (b : ℕ) (ds : List Size) (p : Primitive) (ws : List Word) → spec_after b ds (prim_word p ∷ ws) ≡ Some (by_reference (value_type ds p), ws)
no_channel b ds prims.Bool ws = refl
no_channel b ds prims.Byte ws = refl
no_channel b ds prims.Int ws = refl

by_value_again : (b : ℕ) (t : ValueType) (ws : List Word) → FitsValueType b t → spec_at b (key k.Val ∷ show_value_type t ++ ws) ≡ Some (by_value t, ws)
unfolding spec_at
by_value_again b t ws f = rw (value_type_again b t ws f) refl

pub spec_again : (b : ℕ) (t : Spec) (ws : List Word) → FitsSpec b t → Ends ws → spec_at b (show_spec t ++ ws) ≡ Some (t, ws)
spec_again b (by_value t) ws f h = by_value_again b t ws f
spec_again b (by_reference (value_type ds p)) ws f h =
    no_val b (show_value_type (value_type ds p) ++ ws) (value_type_begins (value_type ds p) ws) ∙ rw (append_assoc (show_all show_size ds) (prim_word p ∷ []) ws, all_sizes_again b ds (prim_word p ∷ ws) f (prim_plain p)) (no_channel b ds p ws)
spec_again b (by_channel ds c) ws f h =
    no_val b (show_spec (by_channel ds c) ++ ws) (channel_begins ds c ws) ∙ rw (append_assoc (show_all show_size ds) (key k.Chan ∷ key k.Of ∷ show_carried c) ws, all_sizes_again b ds (key k.Chan ∷ key k.Of ∷ show_carried c ++ ws) f.0 refl, carried_again b c ws f.1 h) refl

-- how a spec begins
abbrev begins_spec : Word → Bool
begins_spec (key k.Val) = true
begins_spec w = begins_type w

abbrev BeginsSpec : List Word → Type 0
BeginsSpec [] = ⊥
BeginsSpec (w ∷ ws) = begins_spec w ≡ true

type_or_spec : (ws : List Word) → BeginsType ws → BeginsSpec ws
type_or_spec [] h = h
type_or_spec (key k.Val ∷ ws) h = refl
type_or_spec (_ ∷ ws) h = h

spec_begins : (t : Spec) (ws : List Word) → BeginsSpec (show_spec t ++ ws)
spec_begins (by_value t) ws = refl
spec_begins (by_reference t) ws = type_or_spec (show_value_type t ++ ws) (value_type_begins t ws)
spec_begins (by_channel ds c) ws = type_or_spec (show_spec (by_channel ds c) ++ ws) (channel_begins ds c ws)

no_name : (b : ℕ) (ws : List Word) → BeginsSpec ws → formal_at b ws ≡ (spec_at b ws >>= λ t. name_at t.1 >>= λ v. Some (formal (Some t.0) v.0, v.1))
unfolding formal_at
no_name b (name v ∷ ws) h = absurd cc
no_name b _ h = refl

own_name : (b : ℕ) (v : List ℕ) (ws : List Word) → formal_at b (name v ∷ ws) ≡ Some (formal None v, ws)
unfolding formal_at
own_name b v ws = refl

formal_again : (b : ℕ) (g : Formal) (ws : List Word) → FitsFormal b g → Ends ws → formal_at b (show_formal g ++ ws) ≡ Some (g, ws)
formal_again b (formal None v) ws f h = own_name b v ws
formal_again b (formal (Some t) v) ws f h =
    rw (append_assoc (show_spec t) (name v ∷ []) ws, no_name b (show_spec t ++ name v ∷ ws) (spec_begins t (name v ∷ ws)), spec_again b t (name v ∷ ws) f (refl, refl, refl)) refl

no_formal : (b : ℕ) (ws : List Word) → BeginsSpec ws → formals_at b ws ≡ (spec_at b ws >>= λ t. name_at t.1 >>= λ v. listed_at separators.Comma (formal_at b) v.1 >>= λ fs. after_close fs.1 >>= λ rest. Some (formals t.0 v.0 fs.0, rest))
unfolding formals_at
no_formal b (mark s.CloseParen ∷ ws) h = absurd cc
no_formal b _ h = refl

none_again : (b : ℕ) (ws : List Word) → formals_at b (mark s.CloseParen ∷ ws) ≡ Some (no_formals, ws)
unfolding formals_at
none_again b ws = refl

pub formals_again : (b : ℕ) (fs : Formals) (ws : List Word) → FitsFormals b fs → formals_at b (show_formals fs ++ ws) ≡ Some (fs, ws)
formals_again b no_formals ws f = none_again b ws
formals_again b (formals t v fs) ws f =
    let others = show_listed separators.Comma show_formal fs in
    let tail = name v ∷ (others ++ mark s.CloseParen ∷ ws) in
    rw (append_assoc (show_spec t) (name v ∷ others ++ mark s.CloseParen ∷ []) ws, append_assoc others (mark s.CloseParen ∷ []) ws, no_formal b (show_spec t ++ tail) (spec_begins t tail), spec_again b t tail f.0 (refl, refl, refl), listed_again Formal show_formal (FitsFormal b) (formal_at b) (formal_again b) separators.Comma fs (mark s.CloseParen ∷ ws) f.1 (close_last ws)) refl
