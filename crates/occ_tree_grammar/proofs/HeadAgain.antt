-- A line at the head of a process, or of a part of one, that is shown is read again.
use Rattle.std.proofs.Common.{◌≡◌, ℕ, ◌<◌, ◌≤◌, ◌-◌, List, [], ◌∷◌, ◌++◌, true, false, Option, Some, None, refl, sym, ap, subst, ◌∙◌, arith}
use Rattle.std.proofs.lemmas.List.{append-nil}
use Rattle.occ_text.specs.declared.token.Key.TheVariants as k
use Rattle.occ_text.specs.declared.token.Sym.TheVariants as s
use Rattle.occ_text.specs.Words.{Word, key, name, mark}
use Rattle.occ_tree_grammar.specs.declared.tree.expr.Primitive.TheVariants as prims
use Rattle.occ_tree_grammar.specs.declared.lines.separator.Separator.TheVariants as separators
use Rattle.occ_tree_grammar.specs.Lists.{Each}
use Rattle.occ_tree_grammar.specs.Many.{◌>>=◌}
use Rattle.occ_tree_grammar.specs.Expressions.Trees.{Expression, alone, variable, Expressions, no_expression, more_expressions, expressions}
use Rattle.occ_tree_grammar.specs.Expressions.Shown.{show_expression, show_indices, depth_indices}
use Rattle.occ_tree_grammar.specs.Expressions.Reading.{indices_with, expression_at}
use Rattle.occ_tree_grammar.specs.Expressions.Follow.{Plain}
use Rattle.occ_tree_grammar.specs.Lines.Trees.{Var, var, Target, Out, Received, in_line, by_variant, Sort, of_data, of_channel, Part, ValueType, Actuals, Formals}
use Rattle.occ_tree_grammar.specs.Lines.Shown.{show_listed, show_name, show_var, show_target, show_out, show_received, show_part, show_sort, show_value_type, show_formals, show_actuals}
use Rattle.occ_tree_grammar.specs.Lines.Fits.{FitsExpression, FitsVar, FitsTarget, FitsOut, FitsReceived, FitsPart, FitsSizes, FitsSort, FitsActuals, FitsFormals}
use Rattle.occ_tree_grammar.specs.Lines.Reading.{name_at, var_at, target_at, out_at, part_at, received_at, actuals_at, formals_at}
use Rattle.occ_tree_grammar.specs.Lines.Heads.{skip, stop, assign, input, output, call, show_action, FitsAction, ProcessHead, act, input_variants, sequence, parallel, alternation, conditional, selection, loop, ChoiceHead, chosen, nested_conditional, OptionHead, values, otherwise, on_input, on_skip, ArmHead, guarded, guarded_variants, nested_alternation, VariantHead, tag, DeclHead, names, value, parts, tags, procedure, TagHead, tag_parts, show_process_head, show_choice_head, show_option_head, show_arm_head, show_variant_head, show_decl_head, show_tag_head, FitsProcessHead, FitsChoiceHead, FitsOptionHead, FitsArmHead, FitsVariantHead, FitsDeclHead, FitsTagHead}
use Rattle.occ_tree_grammar.specs.Lines.HeadReading.{received_head, received_arm, assignment_at, after_var, process_head_at, condition_at, choice_head_at, values_at, option_head_at, reception_at, after_condition, guard_at, arm_head_at, variant_head_at, names_at, sort_at, named_value_at, typed_value_at, value_at, decl_head_at, tag_head_at}
use Rattle.occ_tree_grammar.specs.Lines.Follow.{Ends, Begins}
use Rattle.occ_tree_grammar.proofs.ExpressionAgain.{sizes_again, expressions_of_list}
use Rattle.occ_tree_grammar.proofs.LineAgain.{Last, listed_again, last_again, listed_ends, name_again, fits_again, last_expression_again, var_again, ended_var_again, target_again, out_again, channel, show_tail, tail_shown, channel_fits, received_again, replicator_again, expression_begins, actuals_again, part_again, carried_again, value_type_again, BeginsType, value_type_begins, formals_again}

-- ---- processes

-- a variable at the front, where no bracket of a call follows
var_first : (b : ℕ) (v : Var) (ws : List Word) → Plain ws → process_head_at b (show_var v ++ ws) ≡ (var_at b (show_var v ++ ws) >>= λ x. after_var b x.0 x.1)
unfolding process_head_at var_at
var_first b (var n no_expression) (mark s.OpenParen ∷ ws) h = absurd cc
var_first b (var n no_expression) _ h = refl
var_first b (var n (more_expressions e es)) ws h = refl

assigns : (b : ℕ) (v : Var) (vs : List Var) (ws : List Word) → after_var b v (show_listed separators.Comma show_var vs ++ mark s.Assign ∷ ws) ≡ assignment_at b v (show_listed separators.Comma show_var vs ++ mark s.Assign ∷ ws)
assigns b v [] ws = refl
assigns b v (w ∷ vs) ws = refl

vars_plain : (vs : List Var) (ws : List Word) → Plain (show_listed separators.Comma show_var vs ++ mark s.Assign ∷ ws)
vars_plain [] ws = refl
vars_plain (w ∷ vs) ws = refl

assign_last : (ws : List Word) → Last separators.Comma (mark s.Assign ∷ ws)
assign_last ws = record { no_more = refl; may_end = (refl, refl, refl) }

-- what is left of a line behind an expression
expressions_end : (es : List Expression) → Ends (show_listed separators.Comma show_expression es)
expressions_end [] = tt
expressions_end (e ∷ es) = (refl, refl, refl)

outs_end : (os : List Out) → Ends (show_listed separators.Semicolon show_out os)
outs_end [] = tt
outs_end (o ∷ os) = (refl, refl, refl)

assign_again : (b : ℕ) (v : Var) (vs : List Var) (e : Expression) (es : List Expression) → FitsAction b (assign v vs e es) → process_head_at b (show_action (assign v vs e es)) ≡ Some (act (assign v vs e es))
assign_again b v vs e es f =
    let tail = show_expression e ++ show_listed separators.Comma show_expression es in
    let rest = show_listed separators.Comma show_var vs ++ mark s.Assign ∷ tail in
    var_first b v rest (vars_plain vs tail) ∙ rw (
      var_again b v rest f.0 (vars_plain vs tail),
      assigns b v vs tail,
      listed_again Var show_var (FitsVar b) (var_at b) (ended_var_again b) separators.Comma vs (mark s.Assign ∷ tail) f.1 (assign_last tail),
      fits_again b e (show_listed separators.Comma show_expression es) f.2 (expressions_end es),
      last_again Expression show_expression (FitsExpression b) (expression_at b) (fits_again b) separators.Comma es f.3,
    ) refl

input_again : (b : ℕ) (r : Received) → FitsReceived b r → process_head_at b (show_received r) ≡ Some (received_head r)
input_again b r f =
    let rest = mark s.Question ∷ show_tail r in
    rw (tail_shown r) (var_first b (channel r) rest refl ∙ rw (var_again b (channel r) rest (channel_fits b r f) refl, received_again b r f) refl)

output_again : (b : ℕ) (v : Var) (o : Out) (os : List Out) → FitsAction b (output v o os) → process_head_at b (show_action (output v o os)) ≡ Some (act (output v o os))
output_again b v o os f =
    let rest = mark s.Exclamation ∷ (show_out o ++ show_listed separators.Semicolon show_out os) in
    var_first b v rest refl ∙ rw (
      var_again b v rest f.0 refl,
      out_again b o (show_listed separators.Semicolon show_out os) f.1 (outs_end os),
      last_again Out show_out (FitsOut b) (out_at b) (out_again b) separators.Semicolon os f.2,
    ) refl

last_actuals : (b : ℕ) (es : Actuals) → FitsActuals b es → actuals_at b (show_actuals es) ≡ Some (es, [])
last_actuals b es f = ap (actuals_at b) (sym (append-nil (show_actuals es))) ∙ actuals_again b es [] f

pub process_head_again : (b : ℕ) (h : ProcessHead) → FitsProcessHead b h → process_head_at b (show_process_head h) ≡ Some h
unfolding process_head_at
process_head_again b (act skip) f = refl
process_head_again b (act stop) f = refl
process_head_again b (act (assign v vs e es)) f = assign_again b v vs e es f
process_head_again b (act (input i)) f = input_again b (in_line i) f
process_head_again b (act (output v o os)) f = output_again b v o os f
process_head_again b (act (call v es)) f = rw (last_actuals b es f) refl
process_head_again b (input_variants v) f = input_again b (by_variant v) f
process_head_again b (sequence r) f = rw (replicator_again b r f) refl
process_head_again b (parallel r) f = rw (replicator_again b r f) refl
process_head_again b (alternation true r) f = rw (replicator_again b r f) refl
process_head_again b (alternation false r) f = rw (replicator_again b r f) refl
process_head_again b (conditional r) f = rw (replicator_again b r f) refl
process_head_again b (selection e) f = rw (last_expression_again b e f) refl
process_head_again b (loop e) f = rw (last_expression_again b e f) refl

-- ---- choices and options

no_if : (b : ℕ) (ws : List Word) → Begins ws → choice_head_at b ws ≡ condition_at b ws
unfolding choice_head_at
no_if b (key k.If ∷ ws) h = absurd cc
no_if b _ h = refl

-- an expression that is a whole line
begins_line : (e : Expression) → Begins (show_expression e)
begins_line e = subst Begins (append-nil (show_expression e)) (expression_begins e [])

pub choice_head_again : (b : ℕ) (h : ChoiceHead) → FitsChoiceHead b h → choice_head_at b (show_choice_head h) ≡ Some h
unfolding choice_head_at
choice_head_again b (chosen e) f = no_if b (show_expression e) (begins_line e) ∙ rw (last_expression_again b e f) refl
choice_head_again b (nested_conditional r) f = rw (replicator_again b r f) refl

no_else : (b : ℕ) (ws : List Word) → Begins ws → option_head_at b ws ≡ values_at b ws
unfolding option_head_at
no_else b (key k.Else ∷ ws) h = absurd cc
no_else b _ h = refl

pub option_head_again : (b : ℕ) (h : OptionHead) → FitsOptionHead b h → option_head_at b (show_option_head h) ≡ Some h
unfolding option_head_at
option_head_again b (values e es) f =
    let others = show_listed separators.Comma show_expression es in
    no_else b (show_expression e ++ others) (expression_begins e others) ∙ rw (
      fits_again b e others f.0 (expressions_end es),
      last_again Expression show_expression (FitsExpression b) (expression_at b) (fits_again b) separators.Comma es f.1,
    ) refl
option_head_again b otherwise f = refl

-- ---- arms and variants

no_alt : (b : ℕ) (ws : List Word) → Begins ws → arm_head_at b ws ≡ guard_at b ws
unfolding arm_head_at
no_alt b (key k.Alt ∷ ws) h = absurd cc
no_alt b (key k.Pri ∷ ws) h = absurd cc
no_alt b _ h = refl

-- a channel at the front, read as an expression
channel_read : (b : ℕ) (v : Var) (ws : List Word) → 0 < b → FitsVar b v → arm_head_at b (show_var v ++ mark s.Question ∷ ws) ≡ (received_at b v ws >>= λ r. Some (received_arm None r))
channel_read b (var n es) ws pos f =
    let d : depth_indices es ≤ b - 1 = f.0 in
    let d' : depth_indices es < b = omega arith in
    no_alt b (name n ∷ (show_indices es ++ mark s.Question ∷ ws)) refl ∙ rw (fits_again b (alone (variable n es)) (mark s.Question ∷ ws) (d', (f.2, f.1)) (refl, refl, refl)) refl

-- the channel begins by no SKIP
no_skip : (b : ℕ) (e : Expression) (v : Var) (ws : List Word) → after_condition b e (mark s.Ampersand ∷ (show_var v ++ ws)) ≡ (reception_at b (show_var v ++ ws) >>= λ r. Some (received_arm (Some e) r))
no_skip b e (var n es) ws = refl

boolean_again : (b : ℕ) (e : Expression) (r : Received) → FitsExpression b e → FitsReceived b r → arm_head_at b (show_expression e ++ mark s.Ampersand ∷ show_received r) ≡ Some (received_arm (Some e) r)
boolean_again b e r f g =
    let rest = mark s.Question ∷ show_tail r in
    let tail = mark s.Ampersand ∷ (show_var (channel r) ++ rest) in
    rw (tail_shown r) (no_alt b (show_expression e ++ tail) (expression_begins e tail) ∙ rw (
      fits_again b e tail f (refl, refl, refl),
      no_skip b e (channel r) rest,
      var_again b (channel r) rest (channel_fits b r g) refl,
      received_again b r g,
    ) refl)

reception_again : (b : ℕ) (r : Received) → 0 < b → FitsReceived b r → arm_head_at b (show_received r) ≡ Some (received_arm None r)
reception_again b r pos f = rw (tail_shown r) (channel_read b (channel r) (show_tail r) pos (channel_fits b r f) ∙ rw (received_again b r f) refl)

pub arm_head_again : (b : ℕ) (h : ArmHead) → 0 < b → FitsArmHead b h → arm_head_at b (show_arm_head h) ≡ Some h
unfolding arm_head_at
arm_head_again b (guarded (on_input None i)) pos f = reception_again b (in_line i) pos f
arm_head_again b (guarded (on_input (Some e) i)) pos f = boolean_again b e (in_line i) f.0 f.1
arm_head_again b (guarded_variants None v) pos f = reception_again b (by_variant v) pos f
arm_head_again b (guarded_variants (Some e) v) pos f = boolean_again b e (by_variant v) f.0 f.1
arm_head_again b (guarded (on_skip e)) pos f =
    let tail = mark s.Ampersand ∷ key k.Skip ∷ [] in
    no_alt b (show_expression e ++ tail) (expression_begins e tail) ∙ rw (fits_again b e tail f (refl, refl, refl)) refl
arm_head_again b (nested_alternation true r) pos f = rw (replicator_again b r f) refl
arm_head_again b (nested_alternation false r) pos f = rw (replicator_again b r f) refl

pub variant_head_again : (b : ℕ) (h : VariantHead) → FitsVariantHead b h → variant_head_at b (show_variant_head h) ≡ Some h
unfolding variant_head_at
variant_head_again b (tag v ts) f = rw (last_again Target show_target (FitsTarget b) (target_at b) (target_again b) separators.Semicolon ts f) refl

-- ---- declarations

colon_last : Last separators.Comma (mark s.Colon ∷ [])
colon_last = record { no_more = refl; may_end = (refl, refl, refl) }

part_colon_last : Last separators.Semicolon (mark s.Colon ∷ [])
part_colon_last = record { no_more = refl; may_end = (refl, refl, refl) }

any_name : (vs : List (List ℕ)) → Each (λ v. Unit {0}) vs
any_name [] = tt
any_name (v ∷ vs) = (tt, any_name vs)

names_again : (b : ℕ) (es : Expressions) (t : Sort) (v : List ℕ) (vs : List (List ℕ)) → names_at b es t (name v ∷ (show_listed separators.Comma show_name vs ++ mark s.Colon ∷ [])) ≡ Some (names es t v vs)
names_again b es t v vs = rw (listed_again (List ℕ) show_name (λ n. Unit {0}) name_at name_again separators.Comma vs (mark s.Colon ∷ []) (any_name vs) colon_last) refl

sort_again : (b : ℕ) (es : Expressions) (t : Sort) (v : List ℕ) (ws : List Word) → FitsSort b t → sort_at b es (show_sort t ++ name v ∷ ws) ≡ names_at b es t (name v ∷ ws)
sort_again b es (of_data prims.Bool) v ws f = refl
sort_again b es (of_data prims.Byte) v ws f = refl
sort_again b es (of_data prims.Int) v ws f = refl
sort_again b es (of_channel c) v ws f = rw (carried_again b c (name v ∷ ws) f (refl, refl, refl)) refl

-- a declaration of names begins by a type or a channel
no_keyword : (b : ℕ) (ws : List Word) → BeginsType ws → decl_head_at b ws ≡ (indices_with (expression_at b) ws >>= λ es. sort_at b (expressions es.0) es.1)
unfolding decl_head_at
no_keyword b (key k.Val ∷ ws) h = absurd cc
no_keyword b (key k.Protocol ∷ ws) h = absurd cc
no_keyword b (key k.Proc ∷ ws) h = absurd cc
no_keyword b _ h = refl

sort_begins : (t : Sort) (ws : List Word) → BeginsType (show_sort t ++ ws)
sort_begins (of_data prims.Bool) ws = refl
sort_begins (of_data prims.Byte) ws = refl
sort_begins (of_data prims.Int) ws = refl
sort_begins (of_channel c) ws = refl

sizes_begin : (es : Expressions) (t : Sort) (ws : List Word) → BeginsType (show_indices es ++ (show_sort t ++ ws))
sizes_begin no_expression t ws = sort_begins t ws
sizes_begin (more_expressions e es) t ws = refl

sort_plain : (t : Sort) (ws : List Word) → Plain (show_sort t ++ ws)
sort_plain (of_data prims.Bool) ws = refl
sort_plain (of_data prims.Byte) ws = refl
sort_plain (of_data prims.Int) ws = refl
sort_plain (of_channel c) ws = refl

declared_again : (b : ℕ) (es : Expressions) (t : Sort) (v : List ℕ) (vs : List (List ℕ)) → FitsSizes b es → FitsSort b t → decl_head_at b (show_decl_head (names es t v vs)) ≡ Some (names es t v vs)
declared_again b es t v vs f g =
    let tail = show_listed separators.Comma show_name vs ++ mark s.Colon ∷ [] in
    no_keyword b (show_indices es ++ (show_sort t ++ (name v ∷ tail))) (sizes_begin es t (name v ∷ tail)) ∙ rw (
      sizes_again es b (show_sort t ++ (name v ∷ tail)) f.0 f.1 f.2 (sort_plain t (name v ∷ tail)),
      expressions_of_list es,
      sort_again b es t v tail g,
    ) (names_again b es t v vs)

named_again : (b : ℕ) (t : Option ValueType) (v : List ℕ) (e : Expression) → FitsExpression b e → named_value_at b t (name v ∷ key k.Is ∷ (show_expression e ++ mark s.Colon ∷ [])) ≡ Some (value t v e)
named_again b t v e f = rw (fits_again b e (mark s.Colon ∷ []) f (refl, refl, refl)) refl

no_bare_name : (b : ℕ) (ws : List Word) → BeginsType ws → value_at b ws ≡ typed_value_at b ws
no_bare_name b (name v ∷ ws) h = absurd cc
no_bare_name b _ h = refl

pub decl_head_again : (b : ℕ) (h : DeclHead) → FitsDeclHead b h → decl_head_at b (show_decl_head h) ≡ Some h
unfolding decl_head_at
decl_head_again b (names es t v vs) f = declared_again b es t v vs f.0 f.1
decl_head_again b (value None v e) f = named_again b None v e f
decl_head_again b (value (Some t) v e) f =
    let tail = name v ∷ key k.Is ∷ (show_expression e ++ mark s.Colon ∷ []) in
    no_bare_name b (show_value_type t ++ tail) (value_type_begins t tail) ∙ rw (value_type_again b t tail f.0) (named_again b (Some t) v e f.1)
decl_head_again b (parts v p ps) f =
    let others = show_listed separators.Semicolon show_part ps in
    rw (
      part_again b p (others ++ mark s.Colon ∷ []) f.0 (listed_ends Part show_part (FitsPart b) (part_at b) (part_again b) separators.Semicolon ps (mark s.Colon ∷ []) (refl, refl, refl)),
      listed_again Part show_part (FitsPart b) (part_at b) (part_again b) separators.Semicolon ps (mark s.Colon ∷ []) f.1 part_colon_last,
    ) refl
decl_head_again b (tags v) f = refl
decl_head_again b (procedure v fs) f = rw (last_formals b fs f) refl
  where
    last_formals : (b : ℕ) (fs : Formals) → FitsFormals b fs → formals_at b (show_formals fs) ≡ Some (fs, [])
    last_formals b fs f = ap (formals_at b) (sym (append-nil (show_formals fs))) ∙ formals_again b fs [] f

pub tag_head_again : (b : ℕ) (h : TagHead) → FitsTagHead b h → tag_head_at b (show_tag_head h) ≡ Some h
unfolding tag_head_at
tag_head_again b (tag_parts v ps) f = rw (last_again Part show_part (FitsPart b) (part_at b) (part_again b) separators.Semicolon ps f) refl
