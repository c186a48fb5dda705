-- A line at the head of a process, or of a part of one, that is read is shown so.
use Rattle.std.proofs.lemmas.List.{append-nil}
use Rattle.std.proofs.Common.{◌≡◌, ◌<◌, arith, ℕ, List, [], ◌∷◌, ◌++◌, Option, Some, None, refl, ap, subst, ◌∙◌}
use Rattle.occ_text.specs.declared.token.Key.TheVariants as k
use Rattle.occ_text.specs.declared.token.Sym.TheVariants as s
use Rattle.occ_text.specs.Words.{Word, key, name, mark}
use Rattle.occ_tree_grammar.specs.declared.lines.separator.Separator.TheVariants as separators
use Rattle.occ_tree_grammar.specs.Many.{◌>>=◌, ended}
use Rattle.occ_tree_grammar.specs.Expressions.Trees.{Expression, alone, variable, Expressions, expressions}
use Rattle.occ_tree_grammar.specs.Expressions.Shown.{show_expression, show_indices, depth_indices}
use Rattle.occ_tree_grammar.specs.Expressions.Reading.{prim_at, indices_with, expression_at}
use Rattle.occ_tree_grammar.specs.Lines.Trees.{Var, var, Target, Out, Received, in_line, by_variant, Sort, of_data, of_channel, Part, ValueType}
use Rattle.occ_tree_grammar.specs.Lines.Shown.{show_listed, show_name, show_var, show_target, show_out, show_sort, show_part, show_received, show_actuals, show_formals}
use Rattle.occ_tree_grammar.specs.Lines.Fits.{FitsExpression, FitsVar, FitsReceived, FitsSizes, FitsSort, FitsTarget, FitsOut, FitsPart, FitsValueType}
use Rattle.occ_tree_grammar.specs.Lines.Reading.{listed_at, name_at, after_assign, after_question, after_is, after_colon, var_at, target_at, out_at, received_at, replicator_at, actuals_at, part_at, carried_at, value_type_at, formals_at}
use Rattle.occ_tree_grammar.specs.Lines.Heads.{skip, stop, ProcessHead, act, ChoiceHead, chosen, OptionHead, values, otherwise, on_skip, ArmHead, guarded, VariantHead, DeclHead, value, tags, TagHead, show_process_head, show_choice_head, show_option_head, show_arm_head, show_variant_head, show_value_kind, show_decl_head, show_tag_head, FitsProcessHead, FitsChoiceHead, FitsOptionHead, FitsArmHead, FitsVariantHead, FitsDeclHead, FitsTagHead}
use Rattle.occ_tree_grammar.specs.Lines.HeadReading.{received_head, received_arm, assignment_at, after_var, process_head_at, condition_at, choice_head_at, values_at, option_head_at, as_var, reception_at, after_condition, guard_at, arm_head_at, variant_head_at, names_at, sort_at, named_value_at, typed_value_at, value_at, decl_head_at, tag_head_at}
use Rattle.occ_tree_grammar.proofs.Binds.{bind_some, some_is, ended_is}
use Rattle.occ_tree_grammar.proofs.ExpressionSound.{prim_is, sizes_sound}
use Rattle.occ_tree_grammar.proofs.LineSound.{IsWhole, listed_sound, last_listed, name_is, name_sound, fits_sound, last_expression, var_sound, target_sound, out_sound, received_sound, replicator_sound, actuals_sound, part_sound, carried_sound, value_type_sound, formals_sound}

assign_is : (ws rest : List Word) → after_assign ws ≡ Some rest → ws ≡ mark s.Assign ∷ rest
assign_is (mark s.Assign ∷ ws) rest e = cc
assign_is _ rest e = absurd cc

question_is : (ws rest : List Word) → after_question ws ≡ Some rest → ws ≡ mark s.Question ∷ rest
question_is (mark s.Question ∷ ws) rest e = cc
question_is _ rest e = absurd cc

is_is : (ws rest : List Word) → after_is ws ≡ Some rest → ws ≡ key k.Is ∷ rest
is_is (key k.Is ∷ ws) rest e = cc
is_is _ rest e = absurd cc

colon_is : (ws rest : List Word) → after_colon ws ≡ Some rest → ws ≡ mark s.Colon ∷ rest
colon_is (mark s.Colon ∷ ws) rest e = cc
colon_is _ rest e = absurd cc

-- ---- processes

abbrev IsProcess : ℕ → List Word → ProcessHead → Type 0
IsProcess b = IsWhole show_process_head (FitsProcessHead b)

assignment_sound : (b : ℕ) (v : Var) → FitsVar b v → (ws : List Word) (h : ProcessHead) → assignment_at b v ws ≡ Some h → IsProcess b (show_var v ++ ws) h
assignment_sound b v f ws h x =
    let vs = bind_some (listed_at separators.Comma (var_at b) ws) _ h x in
    let rest = bind_some (after_assign vs.0.1) _ h vs.2 in
    let e = bind_some (expression_at b rest.0) _ h rest.2 in
    let es = bind_some (listed_at separators.Comma (expression_at b) e.0.1) _ h e.2 in
    let nothing = ended_is _ es.0.1 h es.2 in
    let p = listed_sound Var show_var (FitsVar b) (var_at b) (var_sound b) separators.Comma ws vs.0 vs.1 in
    let q = fits_sound b rest.0 e.0 e.1 in
    let r = last_listed Expression show_expression (FitsExpression b) (expression_at b) (fits_sound b) separators.Comma e.0.1 es.0 es.1 nothing.0 in
    let shown = show_listed separators.Comma show_var vs.0.0 in
    let whole : ws ≡ shown ++ mark s.Assign ∷ (show_expression e.0.0 ++ show_listed separators.Comma show_expression es.0.0) = p.0 ∙ ap (λ (u : List Word). shown ++ u) (assign_is vs.0.1 rest.0 rest.1 ∙ ap (λ (u : List Word). mark s.Assign ∷ u) (q.0 ∙ ap (λ (u : List Word). show_expression e.0.0 ++ u) r.0)) in
    subst (IsProcess b (show_var v ++ ws)) nothing.1 (ap (λ (u : List Word). show_var v ++ u) whole, (f, p.1, q.1, r.1))

head_written : (b : ℕ) (r : Received) → FitsReceived b r → (show_received r ≡ show_process_head (received_head r)) × FitsProcessHead b (received_head r)
head_written b (in_line i) f = (refl, f)
head_written b (by_variant v) f = (refl, f)

arm_written : (b : ℕ) (r : Received) → FitsReceived b r → (show_received r ≡ show_arm_head (received_arm None r)) × FitsArmHead b (received_arm None r)
arm_written b (in_line i) f = (refl, f)
arm_written b (by_variant v) f = (refl, f)

boolean_written : (b : ℕ) (e : Expression) (r : Received) → FitsExpression b e → FitsReceived b r → (show_expression e ++ mark s.Ampersand ∷ show_received r ≡ show_arm_head (received_arm (Some e) r)) × FitsArmHead b (received_arm (Some e) r)
boolean_written b e (in_line i) f g = (refl, (f, g))
boolean_written b e (by_variant v) f g = (refl, (f, g))

after_var_sound : (b : ℕ) (v : Var) → FitsVar b v → (ws : List Word) (h : ProcessHead) → after_var b v ws ≡ Some h → IsProcess b (show_var v ++ ws) h
after_var_sound b v f (mark s.Question ∷ ws) h x =
    let r = bind_some (received_at b v ws) _ h x in
    let p = received_sound b v f ws r.0 r.1 in
    let w = head_written b r.0 p.1 in
    subst (IsProcess b (show_var v ++ mark s.Question ∷ ws)) (some_is _ h r.2) (p.0 ∙ w.0, w.1)
after_var_sound b v f (mark s.Exclamation ∷ ws) h x =
    let o = bind_some (out_at b ws) _ h x in
    let os = bind_some (listed_at separators.Semicolon (out_at b) o.0.1) _ h o.2 in
    let nothing = ended_is _ os.0.1 h os.2 in
    let p = out_sound b ws o.0 o.1 in
    let q = last_listed Out show_out (FitsOut b) (out_at b) (out_sound b) separators.Semicolon o.0.1 os.0 os.1 nothing.0 in
    let whole : ws ≡ show_out o.0.0 ++ show_listed separators.Semicolon show_out os.0.0 = p.0 ∙ ap (λ (u : List Word). show_out o.0.0 ++ u) q.0 in
    subst (IsProcess b (show_var v ++ mark s.Exclamation ∷ ws)) nothing.1 (ap (λ (u : List Word). show_var v ++ mark s.Exclamation ∷ u) whole, (f, p.1, q.1))
after_var_sound b v f ws h x = assignment_sound b v f ws h x

var_first_sound : (b : ℕ) (ws : List Word) (h : ProcessHead) → (var_at b ws >>= λ x. after_var b x.0 x.1) ≡ Some h → IsProcess b ws h
var_first_sound b ws h x =
    let v = bind_some (var_at b ws) (λ x. after_var b x.0 x.1) h x in
    let p = var_sound b ws v.0 v.1 in
    let q = after_var_sound b v.0.0 p.1 v.0.1 h v.2 in
    (p.0 ∙ q.0, q.1)

pub process_head_sound : (b : ℕ) (ws : List Word) (h : ProcessHead) → process_head_at b ws ≡ Some h → (ws ≡ show_process_head h) × FitsProcessHead b h
unfolding process_head_at var_at
process_head_sound b (key k.Skip ∷ ws) h x = let q = ended_is (act skip) ws h x in subst (IsProcess b (key k.Skip ∷ ws)) q.1 (ap (λ (u : List Word). key k.Skip ∷ u) q.0, tt)
process_head_sound b (key k.Stop ∷ ws) h x = let q = ended_is (act stop) ws h x in subst (IsProcess b (key k.Stop ∷ ws)) q.1 (ap (λ (u : List Word). key k.Stop ∷ u) q.0, tt)
process_head_sound b (key k.Seq ∷ ws) h x =
    let r = bind_some (replicator_at b ws) _ h x in
    let p = replicator_sound b ws r.0 r.1 in
    subst (IsProcess b (key k.Seq ∷ ws)) (some_is _ h r.2) (ap (λ (u : List Word). key k.Seq ∷ u) p.0, p.1)
process_head_sound b (key k.Par ∷ ws) h x =
    let r = bind_some (replicator_at b ws) _ h x in
    let p = replicator_sound b ws r.0 r.1 in
    subst (IsProcess b (key k.Par ∷ ws)) (some_is _ h r.2) (ap (λ (u : List Word). key k.Par ∷ u) p.0, p.1)
process_head_sound b (key k.Alt ∷ ws) h x =
    let r = bind_some (replicator_at b ws) _ h x in
    let p = replicator_sound b ws r.0 r.1 in
    subst (IsProcess b (key k.Alt ∷ ws)) (some_is _ h r.2) (ap (λ (u : List Word). key k.Alt ∷ u) p.0, p.1)
process_head_sound b (key k.Pri ∷ key k.Alt ∷ ws) h x =
    let r = bind_some (replicator_at b ws) _ h x in
    let p = replicator_sound b ws r.0 r.1 in
    subst (IsProcess b (key k.Pri ∷ key k.Alt ∷ ws)) (some_is _ h r.2) (ap (λ (u : List Word). key k.Pri ∷ key k.Alt ∷ u) p.0, p.1)
process_head_sound b (key k.If ∷ ws) h x =
    let r = bind_some (replicator_at b ws) _ h x in
    let p = replicator_sound b ws r.0 r.1 in
    subst (IsProcess b (key k.If ∷ ws)) (some_is _ h r.2) (ap (λ (u : List Word). key k.If ∷ u) p.0, p.1)
process_head_sound b (key k.Case ∷ ws) h x =
    let e = bind_some (expression_at b ws) _ h x in
    let q = ended_is _ e.0.1 h e.2 in
    let p = last_expression b ws e.0 e.1 q.0 in
    subst (IsProcess b (key k.Case ∷ ws)) q.1 (ap (λ (u : List Word). key k.Case ∷ u) p.0, p.1)
process_head_sound b (key k.While ∷ ws) h x =
    let e = bind_some (expression_at b ws) _ h x in
    let q = ended_is _ e.0.1 h e.2 in
    let p = last_expression b ws e.0 e.1 q.0 in
    subst (IsProcess b (key k.While ∷ ws)) q.1 (ap (λ (u : List Word). key k.While ∷ u) p.0, p.1)
process_head_sound b (name v ∷ mark s.OpenParen ∷ ws) h x =
    let es = bind_some (actuals_at b ws) _ h x in
    let q = ended_is _ es.0.1 h es.2 in
    let p = actuals_sound b ws es.0 es.1 in
    let whole = p.0 ∙ ap (λ (u : List Word). show_actuals es.0.0 ++ u) q.0 ∙ append-nil (show_actuals es.0.0) in
    subst (IsProcess b (name v ∷ mark s.OpenParen ∷ ws)) q.1 (ap (λ (u : List Word). name v ∷ mark s.OpenParen ∷ u) whole, p.1)
process_head_sound b (name v ∷ ws) h x = var_first_sound b (name v ∷ ws) h x
process_head_sound b _ h x = absurd cc

-- ---- choices and options

abbrev IsChoice : ℕ → List Word → ChoiceHead → Type 0
IsChoice b = IsWhole show_choice_head (FitsChoiceHead b)

condition_sound : (b : ℕ) (ws : List Word) (h : ChoiceHead) → condition_at b ws ≡ Some h → IsChoice b ws h
condition_sound b ws h x =
    let e = bind_some (expression_at b ws) (λ e. ended (chosen e.0) e.1) h x in
    let q = ended_is _ e.0.1 h e.2 in
    let p = last_expression b ws e.0 e.1 q.0 in
    subst (IsChoice b ws) q.1 p

pub choice_head_sound : (b : ℕ) (ws : List Word) (h : ChoiceHead) → choice_head_at b ws ≡ Some h → (ws ≡ show_choice_head h) × FitsChoiceHead b h
unfolding choice_head_at
choice_head_sound b (key k.If ∷ ws) h x =
    let r = bind_some (replicator_at b ws) _ h x in
    let p = replicator_sound b ws r.0 r.1 in
    subst (IsChoice b (key k.If ∷ ws)) (some_is _ h r.2) (ap (λ (u : List Word). key k.If ∷ u) p.0, p.1)
choice_head_sound b ws h x = condition_sound b ws h x

abbrev IsOption : ℕ → List Word → OptionHead → Type 0
IsOption b = IsWhole show_option_head (FitsOptionHead b)

values_sound : (b : ℕ) (ws : List Word) (h : OptionHead) → values_at b ws ≡ Some h → IsOption b ws h
values_sound b ws h x =
    let e = bind_some (expression_at b ws) (λ e. listed_at separators.Comma (expression_at b) e.1 >>= λ es. ended (values e.0 es.0) es.1) h x in
    let es = bind_some (listed_at separators.Comma (expression_at b) e.0.1) _ h e.2 in
    let nothing = ended_is _ es.0.1 h es.2 in
    let q = fits_sound b ws e.0 e.1 in
    let r = last_listed Expression show_expression (FitsExpression b) (expression_at b) (fits_sound b) separators.Comma e.0.1 es.0 es.1 nothing.0 in
    subst (IsOption b ws) nothing.1 (q.0 ∙ ap (λ (u : List Word). show_expression e.0.0 ++ u) r.0, (q.1, r.1))

pub option_head_sound : (b : ℕ) (ws : List Word) (h : OptionHead) → option_head_at b ws ≡ Some h → (ws ≡ show_option_head h) × FitsOptionHead b h
unfolding option_head_at
option_head_sound b (key k.Else ∷ ws) h x = let q = ended_is otherwise ws h x in subst (IsOption b (key k.Else ∷ ws)) q.1 (ap (λ (u : List Word). key k.Else ∷ u) q.0, tt)
option_head_sound b ws h x = values_sound b ws h x

-- ---- arms and variants

abbrev IsArm : ℕ → List Word → ArmHead → Type 0
IsArm b = IsWhole show_arm_head (FitsArmHead b)

as_var_sound : (b : ℕ) (e : Expression) → FitsExpression b e → (v : Var) → as_var e ≡ Some v → (show_expression e ≡ show_var v) × FitsVar b v
as_var_sound b (alone (variable n es)) f v x = subst (λ (w : Var). (name n ∷ show_indices es ≡ show_var w) × FitsVar b w) (some_is (var n es) v x) (refl, (let d : depth_indices es < b = f.0 in omega arith, f.1.1, f.1.0))
as_var_sound b _ f v x = absurd cc

boolean_sound : (b : ℕ) (e : Expression) → FitsExpression b e → (ws : List Word) (h : ArmHead) → (reception_at b ws >>= λ r. Some (received_arm (Some e) r)) ≡ Some h → IsArm b (show_expression e ++ mark s.Ampersand ∷ ws) h
boolean_sound b e f ws h x =
    let all = bind_some (reception_at b ws) (λ r. Some (received_arm (Some e) r)) h x in
    let v = bind_some (var_at b ws) _ all.0 all.1 in
    let rest = bind_some (after_question v.0.1) _ all.0 v.2 in
    let p = var_sound b ws v.0 v.1 in
    let q = received_sound b v.0.0 p.1 rest.0 all.0 rest.2 in
    let whole : ws ≡ show_received all.0 = p.0 ∙ ap (λ (u : List Word). show_var v.0.0 ++ u) (question_is v.0.1 rest.0 rest.1) ∙ q.0 in
    let w = boolean_written b e all.0 f q.1 in
    subst (IsArm b (show_expression e ++ mark s.Ampersand ∷ ws)) (some_is _ h all.2) (ap (λ (u : List Word). show_expression e ++ mark s.Ampersand ∷ u) whole ∙ w.0, w.1)

after_condition_sound : (b : ℕ) (e : Expression) → FitsExpression b e → (ws : List Word) (h : ArmHead) → after_condition b e ws ≡ Some h → IsArm b (show_expression e ++ ws) h
after_condition_sound b e f (mark s.Question ∷ ws) h x =
    let v = bind_some (as_var e) _ h x in
    let r = bind_some (received_at b v.0 ws) _ h v.2 in
    let p = as_var_sound b e f v.0 v.1 in
    let q = received_sound b v.0 p.1 ws r.0 r.1 in
    let w = arm_written b r.0 q.1 in
    subst (IsArm b (show_expression e ++ mark s.Question ∷ ws)) (some_is _ h r.2) (ap (λ (u : List Word). u ++ mark s.Question ∷ ws) p.0 ∙ q.0 ∙ w.0, w.1)
after_condition_sound b e f (mark s.Ampersand ∷ key k.Skip ∷ ws) h x = let q = ended_is (guarded (on_skip e)) ws h x in subst (IsArm b (show_expression e ++ mark s.Ampersand ∷ key k.Skip ∷ ws)) q.1 (ap (λ (u : List Word). show_expression e ++ mark s.Ampersand ∷ key k.Skip ∷ u) q.0, f)
after_condition_sound b e f (mark s.Ampersand ∷ ws) h x = boolean_sound b e f ws h x
after_condition_sound b e f _ h x = absurd cc

guard_sound : (b : ℕ) (ws : List Word) (h : ArmHead) → guard_at b ws ≡ Some h → IsArm b ws h
guard_sound b ws h x =
    let e = bind_some (expression_at b ws) (λ e. after_condition b e.0 e.1) h x in
    let p = fits_sound b ws e.0 e.1 in
    let q = after_condition_sound b e.0.0 p.1 e.0.1 h e.2 in
    (p.0 ∙ q.0, q.1)

pub arm_head_sound : (b : ℕ) (ws : List Word) (h : ArmHead) → arm_head_at b ws ≡ Some h → (ws ≡ show_arm_head h) × FitsArmHead b h
unfolding arm_head_at
arm_head_sound b (key k.Alt ∷ ws) h x =
    let r = bind_some (replicator_at b ws) _ h x in
    let p = replicator_sound b ws r.0 r.1 in
    subst (IsArm b (key k.Alt ∷ ws)) (some_is _ h r.2) (ap (λ (u : List Word). key k.Alt ∷ u) p.0, p.1)
arm_head_sound b (key k.Pri ∷ key k.Alt ∷ ws) h x =
    let r = bind_some (replicator_at b ws) _ h x in
    let p = replicator_sound b ws r.0 r.1 in
    subst (IsArm b (key k.Pri ∷ key k.Alt ∷ ws)) (some_is _ h r.2) (ap (λ (u : List Word). key k.Pri ∷ key k.Alt ∷ u) p.0, p.1)
arm_head_sound b (key k.Pri ∷ _) h x = absurd cc
arm_head_sound b ws h x = guard_sound b ws h x

pub variant_head_sound : (b : ℕ) (ws : List Word) (h : VariantHead) → variant_head_at b ws ≡ Some h → (ws ≡ show_variant_head h) × FitsVariantHead b h
unfolding variant_head_at
variant_head_sound b (name v ∷ ws) h x =
    let ts = bind_some (listed_at separators.Semicolon (target_at b) ws) _ h x in
    let nothing = ended_is _ ts.0.1 h ts.2 in
    let q = last_listed Target show_target (FitsTarget b) (target_at b) (target_sound b) separators.Semicolon ws ts.0 ts.1 nothing.0 in
    subst (IsWhole show_variant_head (FitsVariantHead b) (name v ∷ ws)) nothing.1 (ap (λ (u : List Word). name v ∷ u) q.0, q.1)
variant_head_sound b _ h x = absurd cc

-- ---- declarations

abbrev IsDecl : ℕ → List Word → DeclHead → Type 0
IsDecl b = IsWhole show_decl_head (FitsDeclHead b)

names_sound : (b : ℕ) (es : Expressions) (t : Sort) → FitsSizes b es → FitsSort b t → (ws : List Word) (h : DeclHead) → names_at b es t ws ≡ Some h → IsDecl b (show_indices es ++ (show_sort t ++ ws)) h
names_sound b es t f g ws h x =
    let v = bind_some (name_at ws) _ h x in
    let vs = bind_some (listed_at separators.Comma name_at v.0.1) _ h v.2 in
    let rest = bind_some (after_colon vs.0.1) _ h vs.2 in
    let nothing = ended_is _ rest.0 h rest.2 in
    let q = listed_sound (List ℕ) show_name (λ n. Unit {0}) name_at name_sound separators.Comma v.0.1 vs.0 vs.1 in
    let shown = show_listed separators.Comma show_name vs.0.0 in
    let whole : ws ≡ name v.0.0 ∷ shown ++ mark s.Colon ∷ [] = name_is ws v.0 v.1 ∙ ap (λ (u : List Word). name v.0.0 ∷ u) (q.0 ∙ ap (λ (u : List Word). shown ++ u) (colon_is vs.0.1 rest.0 rest.1 ∙ ap (λ (u : List Word). mark s.Colon ∷ u) nothing.0)) in
    subst (IsDecl b (show_indices es ++ (show_sort t ++ ws))) nothing.1 (ap (λ (u : List Word). show_indices es ++ (show_sort t ++ u)) whole, (f, g))

data_sound : (b : ℕ) (es : Expressions) → FitsSizes b es → (ws : List Word) (h : DeclHead) → (prim_at ws >>= λ p. names_at b es (of_data p.0) p.1) ≡ Some h → IsDecl b (show_indices es ++ ws) h
data_sound b es f ws h x =
    let p = bind_some (prim_at ws) (λ p. names_at b es (of_data p.0) p.1) h x in
    let q = names_sound b es (of_data p.0.0) f tt p.0.1 h p.2 in
    (ap (λ (u : List Word). show_indices es ++ u) (prim_is ws p.0 p.1) ∙ q.0, q.1)

sort_sound : (b : ℕ) (es : Expressions) → FitsSizes b es → (ws : List Word) (h : DeclHead) → sort_at b es ws ≡ Some h → IsDecl b (show_indices es ++ ws) h
sort_sound b es f (key k.Chan ∷ key k.Of ∷ ws) h x =
    let c = bind_some (carried_at b ws) _ h x in
    let p = carried_sound b ws c.0 c.1 in
    let q = names_sound b es (of_channel c.0.0) f p.1 c.0.1 h c.2 in
    (ap (λ (u : List Word). show_indices es ++ key k.Chan ∷ key k.Of ∷ u) p.0 ∙ q.0, q.1)
sort_sound b es f ws h x = data_sound b es f ws h x

abbrev FitsKind : ℕ → Option ValueType → Type 0
FitsKind b None = Unit {0}
FitsKind b (Some t) = FitsValueType b t

value_fits : (b : ℕ) (t : Option ValueType) (v : List ℕ) (e : Expression) → FitsKind b t → FitsExpression b e → FitsDeclHead b (value t v e)
value_fits b None v e f g = g
value_fits b (Some t) v e f g = (f, g)

named_value_sound : (b : ℕ) (t : Option ValueType) → FitsKind b t → (ws : List Word) (h : DeclHead) → named_value_at b t ws ≡ Some h → IsDecl b (key k.Val ∷ (show_value_kind t ++ ws)) h
named_value_sound b t f ws h x =
    let v = bind_some (name_at ws) _ h x in
    let rest = bind_some (after_is v.0.1) _ h v.2 in
    let e = bind_some (expression_at b rest.0) _ h rest.2 in
    let last = bind_some (after_colon e.0.1) _ h e.2 in
    let nothing = ended_is _ last.0 h last.2 in
    let p = fits_sound b rest.0 e.0 e.1 in
    let tail : rest.0 ≡ show_expression e.0.0 ++ mark s.Colon ∷ [] = p.0 ∙ ap (λ (u : List Word). show_expression e.0.0 ++ u) (colon_is e.0.1 last.0 last.1 ∙ ap (λ (u : List Word). mark s.Colon ∷ u) nothing.0) in
    let whole : ws ≡ name v.0.0 ∷ key k.Is ∷ (show_expression e.0.0 ++ mark s.Colon ∷ []) = name_is ws v.0 v.1 ∙ ap (λ (u : List Word). name v.0.0 ∷ u) (is_is v.0.1 rest.0 rest.1 ∙ ap (λ (u : List Word). key k.Is ∷ u) tail) in
    subst (IsDecl b (key k.Val ∷ (show_value_kind t ++ ws))) nothing.1 (ap (λ (u : List Word). key k.Val ∷ (show_value_kind t ++ u)) whole, value_fits b t v.0.0 e.0.0 f p.1)

typed_value_sound : (b : ℕ) (ws : List Word) (h : DeclHead) → typed_value_at b ws ≡ Some h → IsDecl b (key k.Val ∷ ws) h
typed_value_sound b ws h x =
    let t = bind_some (value_type_at b ws) (λ t. named_value_at b (Some t.0) t.1) h x in
    let p = value_type_sound b ws t.0 t.1 in
    let q = named_value_sound b (Some t.0.0) p.1 t.0.1 h t.2 in
    (ap (λ (u : List Word). key k.Val ∷ u) p.0 ∙ q.0, q.1)

value_sound : (b : ℕ) (ws : List Word) (h : DeclHead) → value_at b ws ≡ Some h → IsDecl b (key k.Val ∷ ws) h
value_sound b (name v ∷ ws) h x = named_value_sound b None tt (name v ∷ ws) h x
value_sound b ws h x = typed_value_sound b ws h x

declared_sound : (b : ℕ) (ws : List Word) (h : DeclHead) → (indices_with (expression_at b) ws >>= λ es. sort_at b (expressions es.0) es.1) ≡ Some h → IsDecl b ws h
declared_sound b ws h x =
    let es = bind_some (indices_with (expression_at b) ws) (λ es. sort_at b (expressions es.0) es.1) h x in
    let p = sizes_sound b ws es.0 es.1 in
    let q = sort_sound b (expressions es.0.0) (p.1, p.2, p.3) es.0.1 h es.2 in
    (p.0 ∙ q.0, q.1)

pub decl_head_sound : (b : ℕ) (ws : List Word) (h : DeclHead) → decl_head_at b ws ≡ Some h → (ws ≡ show_decl_head h) × FitsDeclHead b h
unfolding decl_head_at
decl_head_sound b (key k.Val ∷ ws) h x = value_sound b ws h x
decl_head_sound b (key k.Protocol ∷ name v ∷ []) h x = subst (IsDecl b (key k.Protocol ∷ name v ∷ [])) (some_is (tags v) h x) (refl, tt)
decl_head_sound b (key k.Protocol ∷ name v ∷ key k.Is ∷ ws) h x =
    let p = bind_some (part_at b ws) _ h x in
    let ps = bind_some (listed_at separators.Semicolon (part_at b) p.0.1) _ h p.2 in
    let rest = bind_some (after_colon ps.0.1) _ h ps.2 in
    let nothing = ended_is _ rest.0 h rest.2 in
    let q = part_sound b ws p.0 p.1 in
    let r = listed_sound Part show_part (FitsPart b) (part_at b) (part_sound b) separators.Semicolon p.0.1 ps.0 ps.1 in
    let shown = show_listed separators.Semicolon show_part ps.0.0 in
    let whole : ws ≡ show_part p.0.0 ++ (shown ++ mark s.Colon ∷ []) = q.0 ∙ ap (λ (u : List Word). show_part p.0.0 ++ u) (r.0 ∙ ap (λ (u : List Word). shown ++ u) (colon_is ps.0.1 rest.0 rest.1 ∙ ap (λ (u : List Word). mark s.Colon ∷ u) nothing.0)) in
    subst (IsDecl b (key k.Protocol ∷ name v ∷ key k.Is ∷ ws)) nothing.1 (ap (λ (u : List Word). key k.Protocol ∷ name v ∷ key k.Is ∷ u) whole, (q.1, r.1))
decl_head_sound b (key k.Protocol ∷ _) h x = absurd cc
decl_head_sound b (key k.Proc ∷ name v ∷ mark s.OpenParen ∷ ws) h x =
    let fs = bind_some (formals_at b ws) _ h x in
    let q = ended_is _ fs.0.1 h fs.2 in
    let p = formals_sound b ws fs.0 fs.1 in
    let whole = p.0 ∙ ap (λ (u : List Word). show_formals fs.0.0 ++ u) q.0 ∙ append-nil (show_formals fs.0.0) in
    subst (IsDecl b (key k.Proc ∷ name v ∷ mark s.OpenParen ∷ ws)) q.1 (ap (λ (u : List Word). key k.Proc ∷ name v ∷ mark s.OpenParen ∷ u) whole, p.1)
decl_head_sound b (key k.Proc ∷ _) h x = absurd cc
decl_head_sound b ws h x = declared_sound b ws h x

pub tag_head_sound : (b : ℕ) (ws : List Word) (h : TagHead) → tag_head_at b ws ≡ Some h → (ws ≡ show_tag_head h) × FitsTagHead b h
unfolding tag_head_at
tag_head_sound b (name v ∷ ws) h x =
    let ps = bind_some (listed_at separators.Semicolon (part_at b) ws) _ h x in
    let nothing = ended_is _ ps.0.1 h ps.2 in
    let q = last_listed Part show_part (FitsPart b) (part_at b) (part_sound b) separators.Semicolon ws ps.0 ps.1 nothing.0 in
    subst (IsWhole show_tag_head (FitsTagHead b) (name v ∷ ws)) nothing.1 (ap (λ (u : List Word). name v ∷ u) q.0, q.1)
tag_head_sound b _ h x = absurd cc
