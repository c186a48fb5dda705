-- What is read of a line is shown so.
use Rattle.std.proofs.Common.{◌≡◌, ℕ, ◌-◌, List, [], ◌∷◌, ◌++◌, length, Option, Some, refl, sym, ap, subst, ◌∙◌, append_assoc}
use Rattle.std.proofs.lemmas.List.{append-nil}
use Rattle.occ_text.specs.declared.token.Key.TheVariants as k
use Rattle.occ_text.specs.declared.token.Sym.TheVariants as s
use Rattle.occ_text.specs.Words.{Word, key, name, mark}
use Rattle.occ_tree_grammar.specs.declared.tree.expr.Primitive.{Primitive}
use Rattle.occ_tree_grammar.specs.declared.lines.separator.Separator.{Separator}
use Rattle.occ_tree_grammar.specs.declared.lines.separator.Separator.TheVariants as separators
use Rattle.occ_tree_grammar.specs.Lists.{show_all, Each}
use Rattle.occ_tree_grammar.specs.Many.{◌>>=◌}
use Rattle.occ_tree_grammar.specs.Expressions.Trees.{Expression, expressions}
use Rattle.occ_tree_grammar.specs.Expressions.Shown.{prim_word, show_expression, show_indices, dimensions}
use Rattle.occ_tree_grammar.specs.Expressions.Reading.{Read, after_open_bracket, after_close, prim_at, index_with, indices_with, expression_at}
use Rattle.occ_tree_grammar.specs.Lines.Trees.{Var, Target, Out, Received, items, Replicator, Part, Carried, Size, given, ValueType, value_type, Spec, by_reference, Formal, formal, Formals, formals, Actuals, actuals}
use Rattle.occ_tree_grammar.specs.Lines.Shown.{separator_word, show_listed, show_name, show_var, show_target, show_out, show_received, show_replicator, show_part, show_carried, show_size, show_value_type, show_spec, show_formal, show_formals, show_actuals}
use Rattle.occ_tree_grammar.specs.Lines.Fits.{FitsExpression, FitsVar, FitsTarget, FitsOut, FitsReceived, FitsReplicator, FitsPart, FitsCarried, FitsSize, FitsAllSizes, FitsValueType, FitsSpec, FitsFormal, FitsFormals, FitsActuals}
use Rattle.occ_tree_grammar.specs.Lines.Reading.{after_separator, listed_at, name_at, after_for, var_at, target_after, target_at, out_after, out_at, targets_whole, received_at, replicator_at, actuals_at, part_after, part_at, carried_at, size_with, sizes_at, value_type_at, spec_after, spec_at, formal_at, formals_at}
use Rattle.occ_tree_grammar.proofs.Binds.{bind_some, some_is, ended_is, after}
use Rattle.occ_tree_grammar.proofs.Manys.{many_sound}
use Rattle.occ_tree_grammar.proofs.ExpressionSound.{open_bracket_is, close_is, prim_is, expression_sound, sizes_sound, index_sound}

-- the words are those of what was read, and the rest
abbrev pub Is : {A : Type 0} → (A → List Word) → (A → Type 0) → List Word → A × List Word → Type 0
Is show fits ws x = (ws ≡ show x.0 ++ x.1) × fits x.0

-- the words are those of what was read
abbrev pub IsWhole : {A : Type 0} → (A → List Word) → (A → Type 0) → List Word → A → Type 0
IsWhole show fits ws h = (ws ≡ show h) × fits h

-- ---- lists

separator_is : (by : Separator) (ws rest : List Word) → after_separator by ws ≡ Some rest → ws ≡ separator_word by ∷ rest
separator_is separators.Comma (mark s.Comma ∷ ws) rest e = cc
separator_is separators.Semicolon (mark s.Semicolon ∷ ws) rest e = cc
separator_is _ _ rest e = absurd cc

module _ (A : Type 0) (show : A → List Word) (fits : A → Type 0) (read : Read A) (one : (ws : List Word) (x : A × List Word) → read ws ≡ Some x → (ws ≡ show x.0 ++ x.1) × fits x.0) (by : Separator) where
  piece_sound : (ws rest : List Word) (x : A × List Word) → after_separator by ws ≡ Some rest → read rest ≡ Some x → (ws ≡ (separator_word by ∷ show x.0) ++ x.1) × fits x.0
  piece_sound ws rest x j e =
      let p = one rest x e in
      (separator_is by ws rest j ∙ ap (λ (t : List Word). separator_word by ∷ t) p.0, p.1)

  pub listed_sound : (ws : List Word) (x : List A × List Word) → listed_at by read ws ≡ Some x → (ws ≡ show_listed by show x.0 ++ x.1) × Each fits x.0
  listed_sound ws x e =
      let p = many_sound Word A (λ a. separator_word by ∷ show a) fits (after_separator by) read piece_sound (length ws) ws x e in
      (p.0, p.1)

  -- the list at the end of a line
  pub last_listed : (ws : List Word) (x : List A × List Word) → listed_at by read ws ≡ Some x → x.1 ≡ [] → (ws ≡ show_listed by show x.0) × Each fits x.0
  last_listed ws x e nothing =
      let p = listed_sound ws x e in
      (p.0 ∙ ap (λ (t : List Word). show_listed by show x.0 ++ t) nothing ∙ append-nil (show_listed by show x.0), p.1)

pub name_is : (ws : List Word) (x : List ℕ × List Word) → name_at ws ≡ Some x → ws ≡ name x.0 ∷ x.1
name_is (name v ∷ ws) x e = ap (λ (y : List ℕ × List Word). name y.0 ∷ y.1) (some_is _ x e)
name_is _ x e = absurd cc

pub name_sound : (ws : List Word) (x : List ℕ × List Word) → name_at ws ≡ Some x → (ws ≡ show_name x.0 ++ x.1) × Unit {0}
name_sound ws x e = (name_is ws x e, tt)

for_is : (ws rest : List Word) → after_for ws ≡ Some rest → ws ≡ key k.For ∷ rest
for_is (key k.For ∷ ws) rest e = cc
for_is _ rest e = absurd cc

-- ---- variables, targets and items

pub fits_sound : (b : ℕ) (ws : List Word) (x : Expression × List Word) → expression_at b ws ≡ Some x → Is show_expression (FitsExpression b) ws x
fits_sound b ws x e = let p = expression_sound b ws x e in (p.0, (p.1, p.2))

-- an expression at the end of a line
pub last_expression : (b : ℕ) (ws : List Word) (x : Expression × List Word) → expression_at b ws ≡ Some x → x.1 ≡ [] → (ws ≡ show_expression x.0) × FitsExpression b x.0
last_expression b ws x e nothing =
    let p = fits_sound b ws x e in
    (p.0 ∙ ap (λ (t : List Word). show_expression x.0 ++ t) nothing ∙ append-nil (show_expression x.0), p.1)

pub var_sound : (b : ℕ) (ws : List Word) (x : Var × List Word) → var_at b ws ≡ Some x → Is show_var (FitsVar b) ws x
unfolding var_at
var_sound b (name v ∷ ws) x e =
    let a = bind_some (indices_with (expression_at (b - 1)) ws) _ x e in
    let p = sizes_sound (b - 1) ws a.0 a.1 in
    subst (Is show_var (FitsVar b) (name v ∷ ws)) (some_is _ x a.2) (ap (λ (t : List Word). name v ∷ t) p.0, (p.1, p.2, p.3))
var_sound b _ x e = absurd cc

target_after_sound : (b : ℕ) (v : Var) → FitsVar b v → (ws : List Word) (x : Target × List Word) → target_after b v ws ≡ Some x → Is show_target (FitsTarget b) (show_var v ++ ws) x
target_after_sound b v f (mark s.DoubleColon ∷ ws) x e =
    let a = bind_some (var_at b ws) _ x e in
    let p = var_sound b ws a.0 a.1 in
    subst (Is show_target (FitsTarget b) (show_var v ++ mark s.DoubleColon ∷ ws)) (some_is _ x a.2)
    (after _ (show_var v) (mark s.DoubleColon ∷ ws) (mark s.DoubleColon ∷ show_var a.0.0) a.0.1 refl (ap (λ (t : List Word). mark s.DoubleColon ∷ t) p.0), (f, p.1))
target_after_sound b v f ws x e = subst (Is show_target (FitsTarget b) (show_var v ++ ws)) (some_is _ x e) (refl, f)

pub target_sound : (b : ℕ) (ws : List Word) (x : Target × List Word) → target_at b ws ≡ Some x → Is show_target (FitsTarget b) ws x
unfolding target_at
target_sound b ws x e =
    let a = bind_some (var_at b ws) _ x e in
    let p = var_sound b ws a.0 a.1 in
    let q = target_after_sound b a.0.0 p.1 a.0.1 x a.2 in
    (p.0 ∙ q.0, q.1)

out_after_sound : (b : ℕ) (f : Expression) → FitsExpression b f → (ws : List Word) (x : Out × List Word) → out_after b f ws ≡ Some x → Is show_out (FitsOut b) (show_expression f ++ ws) x
out_after_sound b f fits (mark s.DoubleColon ∷ ws) x e =
    let a = bind_some (expression_at b ws) _ x e in
    let p = fits_sound b ws a.0 a.1 in
    subst (Is show_out (FitsOut b) (show_expression f ++ mark s.DoubleColon ∷ ws)) (some_is _ x a.2)
    (after _ (show_expression f) (mark s.DoubleColon ∷ ws) (mark s.DoubleColon ∷ show_expression a.0.0) a.0.1 refl (ap (λ (t : List Word). mark s.DoubleColon ∷ t) p.0), (fits, p.1))
out_after_sound b f fits ws x e = subst (Is show_out (FitsOut b) (show_expression f ++ ws)) (some_is _ x e) (refl, fits)

pub out_sound : (b : ℕ) (ws : List Word) (x : Out × List Word) → out_at b ws ≡ Some x → Is show_out (FitsOut b) ws x
unfolding out_at
out_sound b ws x e =
    let a = bind_some (expression_at b ws) _ x e in
    let p = fits_sound b ws a.0 a.1 in
    let q = out_after_sound b a.0.0 p.1 a.0.1 x a.2 in
    (p.0 ∙ q.0, q.1)

targets_sound : (b : ℕ) (v : Var) → FitsVar b v → (ws : List Word) (r : Received) → targets_whole b v ws ≡ Some r → IsWhole show_received (FitsReceived b) (show_var v ++ mark s.Question ∷ ws) r
targets_sound b v f ws r e =
    let t = bind_some (target_at b ws) _ r e in
    let ts = bind_some (listed_at separators.Semicolon (target_at b) t.0.1) _ r t.2 in
    let nothing = ended_is _ ts.0.1 r ts.2 in
    let p = target_sound b ws t.0 t.1 in
    let q = last_listed Target show_target (FitsTarget b) (target_at b) (target_sound b) separators.Semicolon t.0.1 ts.0 ts.1 nothing.0 in
    let whole : ws ≡ show_target t.0.0 ++ show_listed separators.Semicolon show_target ts.0.0 = p.0 ∙ ap (λ (u : List Word). show_target t.0.0 ++ u) q.0 in
    subst (IsWhole show_received (FitsReceived b) (show_var v ++ mark s.Question ∷ ws)) nothing.1 (ap (λ (u : List Word). show_var v ++ mark s.Question ∷ u) whole, (f, p.1, q.1))

pub received_sound : (b : ℕ) (v : Var) → FitsVar b v → (ws : List Word) (r : Received) → received_at b v ws ≡ Some r → IsWhole show_received (FitsReceived b) (show_var v ++ mark s.Question ∷ ws) r
unfolding received_at
received_sound b v f (key k.Case ∷ []) r e = subst (IsWhole show_received (FitsReceived b) (show_var v ++ mark s.Question ∷ key k.Case ∷ [])) (some_is _ r e) (refl, f)
received_sound b v f (key k.Case ∷ name t ∷ ws) r e =
    let ts = bind_some (listed_at separators.Semicolon (target_at b) ws) _ r e in
    let nothing = ended_is _ ts.0.1 r ts.2 in
    let q = last_listed Target show_target (FitsTarget b) (target_at b) (target_sound b) separators.Semicolon ws ts.0 ts.1 nothing.0 in
    subst (IsWhole show_received (FitsReceived b) (show_var v ++ mark s.Question ∷ key k.Case ∷ name t ∷ ws)) nothing.1 (ap (λ (u : List Word). show_var v ++ mark s.Question ∷ key k.Case ∷ name t ∷ u) q.0, (f, q.1))
received_sound b v f ws r e = targets_sound b v f ws r e

pub replicator_sound : (b : ℕ) (ws : List Word) (r : Option Replicator) → replicator_at b ws ≡ Some r → IsWhole show_replicator (FitsReplicator b) ws r
unfolding replicator_at
replicator_sound b [] r e = subst (IsWhole show_replicator (FitsReplicator b) []) (some_is _ r e) (refl, tt)
replicator_sound b (name v ∷ mark s.Equal ∷ ws) r e =
    let base = bind_some (expression_at b ws) _ r e in
    let rest = bind_some (after_for base.0.1) _ r base.2 in
    let count = bind_some (expression_at b rest.0) _ r rest.2 in
    let nothing = ended_is _ count.0.1 r count.2 in
    let p = fits_sound b ws base.0 base.1 in
    let q = last_expression b rest.0 count.0 count.1 nothing.0 in
    let whole : ws ≡ show_expression base.0.0 ++ key k.For ∷ show_expression count.0.0 = p.0 ∙ ap (λ (u : List Word). show_expression base.0.0 ++ u) (for_is base.0.1 rest.0 rest.1 ∙ ap (λ (u : List Word). key k.For ∷ u) q.0) in
    subst (IsWhole show_replicator (FitsReplicator b) (name v ∷ mark s.Equal ∷ ws)) nothing.1 (ap (λ (u : List Word). name v ∷ mark s.Equal ∷ u) whole, (p.1, q.1))
replicator_sound b _ r e = absurd cc

some_actuals_sound : (b : ℕ) (ws : List Word) (x : Actuals × List Word) → (expression_at b ws >>= λ e. listed_at separators.Comma (expression_at b) e.1 >>= λ es. after_close es.1 >>= λ rest. Some (actuals e.0 es.0, rest)) ≡ Some x → Is show_actuals (FitsActuals b) ws x
some_actuals_sound b ws x h =
    let e = bind_some (expression_at b ws) (λ e. listed_at separators.Comma (expression_at b) e.1 >>= λ es. after_close es.1 >>= λ rest. Some (actuals e.0 es.0, rest)) x h in
    let es = bind_some (listed_at separators.Comma (expression_at b) e.0.1) _ x e.2 in
    let rest = bind_some (after_close es.0.1) _ x es.2 in
    let p = fits_sound b ws e.0 e.1 in
    let q = listed_sound Expression show_expression (FitsExpression b) (expression_at b) (fits_sound b) separators.Comma e.0.1 es.0 es.1 in
    let others : e.0.1 ≡ (show_listed separators.Comma show_expression es.0.0 ++ mark s.CloseParen ∷ []) ++ rest.0 = q.0 ∙ ap (λ (u : List Word). show_listed separators.Comma show_expression es.0.0 ++ u) (close_is es.0.1 rest.0 rest.1) ∙ sym (append_assoc (show_listed separators.Comma show_expression es.0.0) (mark s.CloseParen ∷ []) rest.0) in
    subst (Is show_actuals (FitsActuals b) ws) (some_is _ x rest.2) (after ws (show_expression e.0.0) e.0.1 _ rest.0 p.0 others, (p.1, q.1))

pub actuals_sound : (b : ℕ) (ws : List Word) (x : Actuals × List Word) → actuals_at b ws ≡ Some x → Is show_actuals (FitsActuals b) ws x
unfolding actuals_at
actuals_sound b (mark s.CloseParen ∷ ws) x e = subst (Is show_actuals (FitsActuals b) (mark s.CloseParen ∷ ws)) (some_is _ x e) (refl, tt)
actuals_sound b ws x e = some_actuals_sound b ws x e

-- ---- types and formals

part_after_sound : (b : ℕ) (es : List Expression) (p : Primitive) → FitsPart b (Rattle.occ_tree_grammar.specs.Lines.Trees.single (expressions es) p) → (ws : List Word) (x : Part × List Word) → part_after es p ws ≡ Some x → Is show_part (FitsPart b) (show_indices (expressions es) ++ prim_word p ∷ ws) x
part_after_sound b [] p f (mark s.DoubleColon ∷ mark s.OpenBracket ∷ mark s.CloseBracket ∷ ws) x e =
    let q = bind_some (prim_at ws) _ x e in
    subst (Is show_part (FitsPart b) (prim_word p ∷ mark s.DoubleColon ∷ mark s.OpenBracket ∷ mark s.CloseBracket ∷ ws)) (some_is _ x q.2) (ap (λ (u : List Word). prim_word p ∷ mark s.DoubleColon ∷ mark s.OpenBracket ∷ mark s.CloseBracket ∷ u) (prim_is ws q.0 q.1), tt)
part_after_sound b es p f ws x e = subst (Is show_part (FitsPart b) (show_indices (expressions es) ++ prim_word p ∷ ws)) (some_is _ x e) (sym (append_assoc (show_indices (expressions es)) (prim_word p ∷ []) ws), f)

pub part_sound : (b : ℕ) (ws : List Word) (x : Part × List Word) → part_at b ws ≡ Some x → Is show_part (FitsPart b) ws x
unfolding part_at
part_sound b ws x e =
    let es = bind_some (indices_with (expression_at b) ws) _ x e in
    let p = bind_some (prim_at es.0.1) _ x es.2 in
    let q = sizes_sound b ws es.0 es.1 in
    let r = part_after_sound b es.0.0 p.0.0 (q.1, q.2, q.3) p.0.1 x p.2 in
    (q.0 ∙ ap (λ (u : List Word). show_indices (expressions es.0.0) ++ u) (prim_is es.0.1 p.0 p.1) ∙ r.0, r.1)

carried_part_sound : (b : ℕ) (ws : List Word) (x : Carried × List Word) → (part_at b ws >>= λ p. Some (Rattle.occ_tree_grammar.specs.Lines.Trees.carries p.0, p.1)) ≡ Some x → Is show_carried (FitsCarried b) ws x
carried_part_sound b ws x e =
    let p = bind_some (part_at b ws) (λ p. Some (Rattle.occ_tree_grammar.specs.Lines.Trees.carries p.0, p.1)) x e in
    subst (Is show_carried (FitsCarried b) ws) (some_is _ x p.2) (part_sound b ws p.0 p.1)

pub carried_sound : (b : ℕ) (ws : List Word) (x : Carried × List Word) → carried_at b ws ≡ Some x → Is show_carried (FitsCarried b) ws x
unfolding carried_at
carried_sound b (name v ∷ ws) x e = subst (Is show_carried (FitsCarried b) (name v ∷ ws)) (some_is _ x e) (refl, tt)
carried_sound b ws x e = carried_part_sound b ws x e

given_sound : (b : ℕ) (all ws : List Word) (x : Size × List Word) → after_open_bracket all ≡ Some ws → (index_with (expression_at b) ws >>= λ e. Some (given e.0, e.1)) ≡ Some x → Is show_size (FitsSize b) all x
given_sound b all ws x j e =
    let a = bind_some (index_with (expression_at b) ws) (λ e. Some (given e.0, e.1)) x e in
    let p = index_sound b (expression_at b) (expression_sound b) all ws a.0 j a.1 in
    subst (Is show_size (FitsSize b) all) (some_is _ x a.2) p

size_sound : (b : ℕ) (all ws : List Word) (x : Size × List Word) → after_open_bracket all ≡ Some ws → size_with b ws ≡ Some x → Is show_size (FitsSize b) all x
size_sound b all (mark s.CloseBracket ∷ ws) x j e = subst (Is show_size (FitsSize b) all) (some_is _ x e) (open_bracket_is all (mark s.CloseBracket ∷ ws) j, tt)
size_sound b all ws x j e = given_sound b all ws x j e

all_sizes_sound : (b : ℕ) (ws : List Word) (x : List Size × List Word) → sizes_at b ws ≡ Some x → Is (show_all show_size) (FitsAllSizes b) ws x
all_sizes_sound b ws x e =
    let p = many_sound Word Size show_size (FitsSize b) after_open_bracket (size_with b) (size_sound b) dimensions ws x e in
    (p.0, (p.1, p.2))

pub value_type_sound : (b : ℕ) (ws : List Word) (x : ValueType × List Word) → value_type_at b ws ≡ Some x → Is show_value_type (FitsValueType b) ws x
unfolding value_type_at
value_type_sound b ws x e =
    let ds = bind_some (sizes_at b ws) _ x e in
    let p = bind_some (prim_at ds.0.1) _ x ds.2 in
    let q = all_sizes_sound b ws ds.0 ds.1 in
    subst (Is show_value_type (FitsValueType b) ws) (some_is _ x p.2) (after ws (show_all show_size ds.0.0) ds.0.1 (prim_word p.0.0 ∷ []) p.0.1 q.0 (prim_is ds.0.1 p.0 p.1), q.1)

reference_sound : (b : ℕ) (ds : List Size) → FitsAllSizes b ds → (ws : List Word) (x : Spec × List Word) → (prim_at ws >>= λ p. Some (by_reference (value_type ds p.0), p.1)) ≡ Some x → Is show_spec (FitsSpec b) (show_all show_size ds ++ ws) x
reference_sound b ds f ws x e =
    let p = bind_some (prim_at ws) (λ p. Some (by_reference (value_type ds p.0), p.1)) x e in
    subst (Is show_spec (FitsSpec b) (show_all show_size ds ++ ws)) (some_is _ x p.2) (after _ (show_all show_size ds) ws (prim_word p.0.0 ∷ []) p.0.1 refl (prim_is ws p.0 p.1), f)

spec_after_sound : (b : ℕ) (ds : List Size) → FitsAllSizes b ds → (ws : List Word) (x : Spec × List Word) → spec_after b ds ws ≡ Some x → Is show_spec (FitsSpec b) (show_all show_size ds ++ ws) x
spec_after_sound b ds f (key k.Chan ∷ key k.Of ∷ ws) x e =
    let c = bind_some (carried_at b ws) _ x e in
    let p = carried_sound b ws c.0 c.1 in
    subst (Is show_spec (FitsSpec b) (show_all show_size ds ++ key k.Chan ∷ key k.Of ∷ ws)) (some_is _ x c.2) (after _ (show_all show_size ds) (key k.Chan ∷ key k.Of ∷ ws) (key k.Chan ∷ key k.Of ∷ show_carried c.0.0) c.0.1 refl (ap (λ (u : List Word). key k.Chan ∷ key k.Of ∷ u) p.0), (f, p.1))
spec_after_sound b ds f ws x e = reference_sound b ds f ws x e

sized_spec_sound : (b : ℕ) (ws : List Word) (x : Spec × List Word) → (sizes_at b ws >>= λ ds. spec_after b ds.0 ds.1) ≡ Some x → Is show_spec (FitsSpec b) ws x
sized_spec_sound b ws x e =
    let ds = bind_some (sizes_at b ws) (λ ds. spec_after b ds.0 ds.1) x e in
    let p = all_sizes_sound b ws ds.0 ds.1 in
    let q = spec_after_sound b ds.0.0 p.1 ds.0.1 x ds.2 in
    (p.0 ∙ q.0, q.1)

pub spec_sound : (b : ℕ) (ws : List Word) (x : Spec × List Word) → spec_at b ws ≡ Some x → Is show_spec (FitsSpec b) ws x
unfolding spec_at
spec_sound b (key k.Val ∷ ws) x e =
    let t = bind_some (value_type_at b ws) _ x e in
    let p = value_type_sound b ws t.0 t.1 in
    subst (Is show_spec (FitsSpec b) (key k.Val ∷ ws)) (some_is _ x t.2) (ap (λ (u : List Word). key k.Val ∷ u) p.0, p.1)
spec_sound b ws x e = sized_spec_sound b ws x e

own_formal_sound : (b : ℕ) (ws : List Word) (x : Formal × List Word) → (spec_at b ws >>= λ t. name_at t.1 >>= λ v. Some (formal (Some t.0) v.0, v.1)) ≡ Some x → Is show_formal (FitsFormal b) ws x
own_formal_sound b ws x e =
    let t = bind_some (spec_at b ws) (λ t. name_at t.1 >>= λ v. Some (formal (Some t.0) v.0, v.1)) x e in
    let v = bind_some (name_at t.0.1) _ x t.2 in
    let p = spec_sound b ws t.0 t.1 in
    subst (Is show_formal (FitsFormal b) ws) (some_is _ x v.2) (after ws (show_spec t.0.0) t.0.1 (name v.0.0 ∷ []) v.0.1 p.0 (name_is t.0.1 v.0 v.1), p.1)

formal_sound : (b : ℕ) (ws : List Word) (x : Formal × List Word) → formal_at b ws ≡ Some x → Is show_formal (FitsFormal b) ws x
unfolding formal_at
formal_sound b (name v ∷ ws) x e = subst (Is show_formal (FitsFormal b) (name v ∷ ws)) (some_is _ x e) (refl, tt)
formal_sound b ws x e = own_formal_sound b ws x e

abbrev formals_step : ℕ → List Word → Option (Formals × List Word)
formals_step b ws = spec_at b ws >>= λ t. name_at t.1 >>= λ v. listed_at separators.Comma (formal_at b) v.1 >>= λ fs. after_close fs.1 >>= λ rest. Some (formals t.0 v.0 fs.0, rest)

some_formals_sound : (b : ℕ) (ws : List Word) (x : Formals × List Word) → formals_step b ws ≡ Some x → Is show_formals (FitsFormals b) ws x
some_formals_sound b ws x e =
    let t = bind_some (spec_at b ws) (λ t. name_at t.1 >>= λ v. listed_at separators.Comma (formal_at b) v.1 >>= λ fs. after_close fs.1 >>= λ rest. Some (formals t.0 v.0 fs.0, rest)) x e in
    let v = bind_some (name_at t.0.1) _ x t.2 in
    let fs = bind_some (listed_at separators.Comma (formal_at b) v.0.1) _ x v.2 in
    let rest = bind_some (after_close fs.0.1) _ x fs.2 in
    let p = spec_sound b ws t.0 t.1 in
    let q = listed_sound Formal show_formal (FitsFormal b) (formal_at b) (formal_sound b) separators.Comma v.0.1 fs.0 fs.1 in
    let shown = show_listed separators.Comma show_formal fs.0.0 in
    let others : v.0.1 ≡ (shown ++ mark s.CloseParen ∷ []) ++ rest.0 = q.0 ∙ ap (λ (u : List Word). shown ++ u) (close_is fs.0.1 rest.0 rest.1) ∙ sym (append_assoc shown (mark s.CloseParen ∷ []) rest.0) in
    subst (Is show_formals (FitsFormals b) ws) (some_is _ x rest.2) (after ws (show_spec t.0.0) t.0.1 (name v.0.0 ∷ shown ++ mark s.CloseParen ∷ []) rest.0 p.0 (name_is t.0.1 v.0 v.1 ∙ ap (λ (u : List Word). name v.0.0 ∷ u) others), (p.1, q.1))

pub formals_sound : (b : ℕ) (ws : List Word) (x : Formals × List Word) → formals_at b ws ≡ Some x → Is show_formals (FitsFormals b) ws x
unfolding formals_at
formals_sound b (mark s.CloseParen ∷ ws) x e = subst (Is show_formals (FitsFormals b) (mark s.CloseParen ∷ ws)) (some_is _ x e) (refl, tt)
formals_sound b ws x e = some_formals_sound b ws x e
