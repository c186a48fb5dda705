-- Processes and texts that are read are shown so.
use Rattle.std.proofs.Common.{◌≡◌, ℕ, zero, suc, ◌+◌, ◌<◌, List, [], ◌∷◌, ◌++◌, length, cond, Option, Some, None, refl, sym, ap, subst, ◌∙◌, append_assoc, arith}
use Rattle.std.specs.Prelude.{nat_eq}
use Rattle.std.proofs.lemmas.Bool.{eqb-true}
use Rattle.std.proofs.lemmas.List.{append-nil}
use Rattle.occ_text.specs.declared.token.Key.TheVariants as k
use Rattle.occ_text.specs.declared.token.Sym.TheVariants as s
use Rattle.occ_text.specs.Words.{Word, key, mark, LogicalLine, logical_line}
use Rattle.occ_tree_grammar.specs.Lists.{show_all, Each}
use Rattle.occ_tree_grammar.specs.Many.{Reader, many}
use Rattle.occ_tree_grammar.specs.Lines.Heads.{DeclHead, names, value, parts, tags, procedure, TagHead, tag_parts, show_decl_head, show_tag_head, FitsDeclHead, FitsTagHead}
use Rattle.occ_tree_grammar.specs.Lines.HeadReading.{decl_head_at, tag_head_at, declares as begins_declaration}
use Rattle.occ_tree_grammar.specs.Processes.Trees.{Kind, process, choice, option, arm, variant, Under, nothing, one_of, all_of, Head, under, Tag, Protocol, Node, Body, nodes, decls, Decl, declares, item, Item}
use Rattle.occ_tree_grammar.specs.Processes.Shown.{show_head, show_tag, show_protocol, show_node, show_body, show_nodes, show_decls, show_decl, show_item, show_program}
use Rattle.occ_tree_grammar.specs.Processes.Fits.{FitsHead, FitsTag, FitsProtocol, FitsNode, FitsBody, FitsNodes, FitsDecls, FitsDecl, FitsItem}
use Rattle.occ_tree_grammar.specs.Processes.Reading.{head_at, at_level, at_decl, at_any, line_step, line_at, is_case, is_colon, case_at, end_at, tag_of, tag_at, tags_at, item_with, decl_with, body_with, node_with, node_at, as_item, item_at, program_at}
use Rattle.occ_tree_grammar.proofs.Binds.{bind_some, some_is, guard_is, ended_is, after}
use Rattle.occ_tree_grammar.proofs.Manys.{many_sound}
use Rattle.occ_tree_grammar.proofs.HeadSound.{process_head_sound, choice_head_sound, option_head_sound, arm_head_sound, variant_head_sound, decl_head_sound, tag_head_sound}

-- the lines are those of what was read, and the rest
abbrev Is : {A : Type 0} → (A → List LogicalLine) → (A → Type 0) → List LogicalLine → A × List LogicalLine → Type 0
Is show fits lines x = (lines ≡ show x.0 ++ x.1) × fits x.0

-- ---- single lines

pub next_is : (level : ℕ) (lines after : List LogicalLine) → at_level level lines ≡ Some after → lines ≡ after
next_is level [] after e = absurd cc
next_is level (logical_line m j vs ∷ lines) after e = some_is (logical_line m j vs ∷ lines) after (guard_is (nat_eq j level) (Some (logical_line m j vs ∷ lines)) after e).1

pub decl_next_is : (level : ℕ) (lines after : List LogicalLine) → at_decl level lines ≡ Some after → lines ≡ after
decl_next_is level [] after e = absurd cc
decl_next_is level (logical_line m j vs ∷ lines) after e =
    let g = guard_is (nat_eq j level) (cond (begins_declaration vs) (Some (logical_line m j vs ∷ lines)) None) after e in
    some_is (logical_line m j vs ∷ lines) after (guard_is (begins_declaration vs) (Some (logical_line m j vs ∷ lines)) after g.1).1

level_is : (level : ℕ) (lines : List LogicalLine) (l n : ℕ) (ws : List Word) (rest : List LogicalLine) → at_level level lines ≡ Some (logical_line l n ws ∷ rest) → lines ≡ logical_line l level ws ∷ rest
level_is level [] l n ws rest e = absurd cc
level_is level (logical_line m j vs ∷ lines) l n ws rest e =
    let g = guard_is (nat_eq j level) (Some (logical_line m j vs ∷ lines)) (logical_line l n ws ∷ rest) e in
    let same : logical_line m j vs ∷ lines ≡ logical_line l n ws ∷ rest = some_is (logical_line m j vs ∷ lines) (logical_line l n ws ∷ rest) g.1 in
    let here : j ≡ level = eqb-true j level g.0 in
    let alike : n ≡ j = cc in
    same ∙ ap (λ (i : ℕ). logical_line l i ws ∷ rest) (alike ∙ here)

line_step_sound : (level : ℕ) (o : Option (List LogicalLine)) (lines : List LogicalLine) (x : (ℕ × List Word) × List LogicalLine) → at_level level lines ≡ o → line_step o lines ≡ Some x → lines ≡ logical_line x.0.0 level x.0.1 ∷ x.1
line_step_sound level None lines x j e = absurd cc
line_step_sound level (Some []) lines x j e = absurd cc
line_step_sound level (Some (logical_line l n ws ∷ rest)) lines x j e = subst (λ (y : (ℕ × List Word) × List LogicalLine). lines ≡ logical_line y.0.0 level y.0.1 ∷ y.1) (some_is ((l, ws), rest) x e) (level_is level lines l n ws rest j)

pub line_sound : (level : ℕ) (lines : List LogicalLine) (x : (ℕ × List Word) × List LogicalLine) → line_at level lines ≡ Some x → lines ≡ logical_line x.0.0 level x.0.1 ∷ x.1
unfolding line_at
line_sound level lines x e = line_step_sound level (at_level level lines) lines x refl e

colon_words : (ws : List Word) (u : Unit {0}) → is_colon ws ≡ Some u → ws ≡ mark s.Colon ∷ []
colon_words (mark s.Colon ∷ []) u e = refl
colon_words _ u e = absurd cc

case_words : (ws : List Word) (u : Unit {0}) → is_case ws ≡ Some u → ws ≡ key k.Case ∷ []
case_words (key k.Case ∷ []) u e = refl
case_words _ u e = absurd cc

case_sound : (level : ℕ) (lines : List LogicalLine) (x : ℕ × List LogicalLine) → case_at level lines ≡ Some x → lines ≡ logical_line x.0 level (key k.Case ∷ []) ∷ x.1
unfolding case_at
case_sound level lines x e =
    let l = bind_some (line_at level lines) _ x e in
    let sure = bind_some (is_case l.0.0.1) _ x l.2 in
    subst (λ (y : ℕ × List LogicalLine). lines ≡ logical_line y.0 level (key k.Case ∷ []) ∷ y.1) (some_is _ x sure.2) (line_sound level lines l.0 l.1 ∙ ap (λ (ws : List Word). logical_line l.0.0.0 level ws ∷ l.0.1) (case_words l.0.0.1 sure.0 sure.1))

end_sound : (level : ℕ) (lines : List LogicalLine) (x : ℕ × List LogicalLine) → end_at level lines ≡ Some x → lines ≡ logical_line x.0 level (mark s.Colon ∷ []) ∷ x.1
unfolding end_at
end_sound level lines x e =
    let l = bind_some (line_at level lines) _ x e in
    let sure = bind_some (is_colon l.0.0.1) _ x l.2 in
    subst (λ (y : ℕ × List LogicalLine). lines ≡ logical_line y.0 level (mark s.Colon ∷ []) ∷ y.1) (some_is _ x sure.2) (line_sound level lines l.0 l.1 ∙ ap (λ (ws : List Word). logical_line l.0.0.0 level ws ∷ l.0.1) (colon_words l.0.0.1 sure.0 sure.1))

-- ---- protocols of variants

tag_written : (b n level l : ℕ) (h : TagHead) → 0 < n → FitsTagHead b h → (show_tag level (tag_of l h) ≡ logical_line l level (show_tag_head h) ∷ []) × FitsTag b n (tag_of l h)
tag_written b n level l (tag_parts v ps) pos f = (refl, (f, pos))

tag_sound : (b n level : ℕ) (lines : List LogicalLine) (x : Tag × List LogicalLine) → tag_at b n level lines ≡ Some x → Is (show_tag level) (FitsTag b n) lines x
unfolding tag_at
tag_sound b zero level lines x e = absurd cc
tag_sound b (suc n) level lines x e =
    let l = bind_some (line_at level lines) _ x e in
    let h = bind_some (tag_head_at b l.0.0.1) _ x l.2 in
    let p = tag_head_sound b l.0.0.1 h.0 h.1 in
    let w = tag_written b (suc n) level l.0.0.0 h.0 (omega arith) p.1 in
    let whole : lines ≡ show_tag level (tag_of l.0.0.0 h.0) ++ l.0.1 = line_sound level lines l.0 l.1 ∙ ap (λ (ws : List Word). logical_line l.0.0.0 level ws ∷ l.0.1) p.0 ∙ ap (λ (t : List LogicalLine). t ++ l.0.1) (sym w.0) in
    subst (Is (show_tag level) (FitsTag b (suc n)) lines) (some_is _ x h.2) (whole, w.1)

tag_one : (b n level : ℕ) (lines after : List LogicalLine) (x : Tag × List LogicalLine) → at_level level lines ≡ Some after → tag_at b n level after ≡ Some x → (lines ≡ show_tag level x.0 ++ x.1) × FitsTag b n x.0
tag_one b n level lines after x j e = let p = tag_sound b n level after x e in (next_is level lines after j ∙ p.0, p.1)

tags_sound : (b n level l : ℕ) (v : List ℕ) (lines : List LogicalLine) (x : Protocol × List LogicalLine) → tags_at b n level l v lines ≡ Some x → Is (show_protocol level) (FitsProtocol b n) (logical_line l level (show_decl_head (tags v)) ∷ lines) x
unfolding tags_at
tags_sound b zero level l v lines x e = absurd cc
tags_sound b (suc n) level l v lines x e =
    let c = bind_some (case_at (level + 1) lines) _ x e in
    let ts = bind_some (many (at_level (level + 1 + 1)) (tag_at b n (level + 1 + 1)) (length c.0.1) c.0.1) _ x c.2 in
    let last = bind_some (end_at level ts.0.1) _ x ts.2 in
    let p = many_sound LogicalLine Tag (show_tag (level + 1 + 1)) (FitsTag b n) (at_level (level + 1 + 1)) (tag_at b n (level + 1 + 1)) (tag_one b n (level + 1 + 1)) (length c.0.1) c.0.1 ts.0 ts.1 in
    let shown = show_all (show_tag (level + 1 + 1)) ts.0.0 in
    let closed : c.0.1 ≡ (shown ++ logical_line last.0.0 level (mark s.Colon ∷ []) ∷ []) ++ last.0.1 = p.0 ∙ ap (λ (t : List LogicalLine). shown ++ t) (end_sound level ts.0.1 last.0 last.1) ∙ sym (append_assoc shown (logical_line last.0.0 level (mark s.Colon ∷ []) ∷ []) last.0.1) in
    let whole : lines ≡ logical_line c.0.0 (level + 1) (key k.Case ∷ []) ∷ ((shown ++ logical_line last.0.0 level (mark s.Colon ∷ []) ∷ []) ++ last.0.1) = case_sound (level + 1) lines c.0 c.1 ∙ ap (λ (t : List LogicalLine). logical_line c.0.0 (level + 1) (key k.Case ∷ []) ∷ t) closed in
    subst (Is (show_protocol level) (FitsProtocol b (suc n)) (logical_line l level (show_decl_head (tags v)) ∷ lines)) (some_is _ x last.2) (ap (λ (t : List LogicalLine). logical_line l level (show_decl_head (tags v)) ∷ t) whole, p.1)

-- ---- the line of a kind

head_sound : (kind : Kind) (b : ℕ) (ws : List Word) (h : Head kind) → head_at kind b ws ≡ Some h → (ws ≡ show_head kind h) × FitsHead b kind h
head_sound process b ws h e = process_head_sound b ws h e
head_sound choice b ws h e = choice_head_sound b ws h e
head_sound option b ws h e = option_head_sound b ws h e
head_sound arm b ws h e = arm_head_sound b ws h e
head_sound variant b ws h e = variant_head_sound b ws h e

-- ---- lists

pub nodes_shown : (level : ℕ) (kind : Kind) (all : List (Node kind)) → show_nodes level (nodes all) ≡ show_all (show_node level) all
nodes_shown level kind [] = refl
nodes_shown level kind (m ∷ all) = ap (λ (t : List LogicalLine). show_node level m ++ t) (nodes_shown level kind all)

nodes_fit : (b n : ℕ) (kind : Kind) (all : List (Node kind)) → Each (λ m. FitsNode b n m) all → FitsNodes b n (nodes all)
nodes_fit b n kind [] h = tt
nodes_fit b n kind (m ∷ all) h = (h.0, nodes_fit b n kind all h.1)

pub decls_shown : (level : ℕ) (all : List Decl) → show_decls level (decls all) ≡ show_all (show_decl level) all
decls_shown level [] = refl
decls_shown level (d ∷ all) = ap (λ (t : List LogicalLine). show_decl level d ++ t) (decls_shown level all)

decls_fit : (b n : ℕ) (all : List Decl) → Each (λ d. FitsDecl b n d) all → FitsDecls b n (decls all)
decls_fit b n [] h = tt
decls_fit b n (d ∷ all) h = (h.0, decls_fit b n all h.1)

-- ---- what stands a level deeper

module _ (b n level : ℕ) (inner : (j : Kind) → Reader LogicalLine (Node j))
    (inner_is : (j : Kind) (lines : List LogicalLine) (x : Node j × List LogicalLine) → inner j lines ≡ Some x → (lines ≡ show_node (level + 1) x.0 ++ x.1) × FitsNode b n x.0) where
  item_sound : (l : ℕ) (h : DeclHead) → FitsDeclHead b h → (lines : List LogicalLine) (x : Decl × List LogicalLine) → item_with b n level (inner process) l h lines ≡ Some x → Is (show_decl level) (FitsDecl b n) (logical_line l level (show_decl_head h) ∷ lines) x
  item_sound l (names es t v vs) f lines x e = subst (Is (show_decl level) (FitsDecl b n) (logical_line l level (show_decl_head (names es t v vs)) ∷ lines)) (some_is _ x e) (refl, f)
  item_sound l (value t v g) f lines x e = subst (Is (show_decl level) (FitsDecl b n) (logical_line l level (show_decl_head (value t v g)) ∷ lines)) (some_is _ x e) (refl, f)
  item_sound l (parts v p ps) f lines x e = subst (Is (show_decl level) (FitsDecl b n) (logical_line l level (show_decl_head (parts v p ps)) ∷ lines)) (some_is _ x e) (refl, f)
  item_sound l (tags v) f lines x e =
      let p = bind_some (tags_at b n level l v lines) _ x e in
      subst (Is (show_decl level) (FitsDecl b n) (logical_line l level (show_decl_head (tags v)) ∷ lines)) (some_is _ x p.2) (tags_sound b n level l v lines p.0 p.1)
  item_sound l (procedure v fs) f lines x e =
      let m = bind_some (inner process lines) _ x e in
      let last = bind_some (end_at level m.0.1) _ x m.2 in
      let p = inner_is process lines m.0 m.1 in
      let shown = show_node (level + 1) m.0.0 in
      let whole : lines ≡ (shown ++ logical_line last.0.0 level (mark s.Colon ∷ []) ∷ []) ++ last.0.1 = p.0 ∙ ap (λ (t : List LogicalLine). shown ++ t) (end_sound level m.0.1 last.0 last.1) ∙ sym (append_assoc shown (logical_line last.0.0 level (mark s.Colon ∷ []) ∷ []) last.0.1) in
      subst (Is (show_decl level) (FitsDecl b n) (logical_line l level (show_decl_head (procedure v fs)) ∷ lines)) (some_is _ x last.2) (ap (λ (t : List LogicalLine). logical_line l level (show_decl_head (procedure v fs)) ∷ t) whole, (f, p.1))

  pub decl_sound : (lines : List LogicalLine) (x : Decl × List LogicalLine) → decl_with b n level (inner process) lines ≡ Some x → (lines ≡ show_decl level x.0 ++ x.1) × FitsDecl b n x.0
  unfolding decl_with
  decl_sound lines x e =
      let l = bind_some (line_at level lines) _ x e in
      let h = bind_some (decl_head_at b l.0.0.1) _ x l.2 in
      let p = decl_head_sound b l.0.0.1 h.0 h.1 in
      let q = item_sound l.0.0.0 h.0 p.1 l.0.1 x h.2 in
      (line_sound level lines l.0 l.1 ∙ ap (λ (ws : List Word). logical_line l.0.0.0 level ws ∷ l.0.1) p.0 ∙ q.0, q.1)

  decl_one : (lines after : List LogicalLine) (x : Decl × List LogicalLine) → at_decl level lines ≡ Some after → decl_with b n level (inner process) after ≡ Some x → (lines ≡ show_decl level x.0 ++ x.1) × FitsDecl b n x.0
  decl_one lines after x j e = let p = decl_sound after x e in (decl_next_is level lines after j ∙ p.0, p.1)

  node_one : (kind : Kind) (lines after : List LogicalLine) (x : Node kind × List LogicalLine) → at_level (level + 1) lines ≡ Some after → inner kind after ≡ Some x → (lines ≡ show_node (level + 1) x.0 ++ x.1) × FitsNode b n x.0
  node_one kind lines after x j e = let p = inner_is kind after x e in (next_is (level + 1) lines after j ∙ p.0, p.1)

  body_sound : (u : Under) (lines : List LogicalLine) (x : Body u × List LogicalLine) → body_with (level + 1) inner u lines ≡ Some x → (lines ≡ show_body (level + 1) x.0 ++ x.1) × FitsBody b n x.0
  body_sound nothing lines x e = subst (λ (y : Body nothing × List LogicalLine). (lines ≡ show_body (level + 1) y.0 ++ y.1) × FitsBody b n y.0) (some_is _ x e) (refl, tt)
  body_sound (one_of kind) lines x e =
      let m = bind_some (inner kind lines) _ x e in
      subst (λ (y : Body (one_of kind) × List LogicalLine). (lines ≡ show_body (level + 1) y.0 ++ y.1) × FitsBody b n y.0) (some_is _ x m.2) (inner_is kind lines m.0 m.1)
  body_sound (all_of kind) lines x e =
      let ms = bind_some (many (at_level (level + 1)) (inner kind) (length lines) lines) _ x e in
      let p = many_sound LogicalLine (Node kind) (show_node (level + 1)) (λ m. FitsNode b n m) (at_level (level + 1)) (inner kind) (node_one kind) (length lines) lines ms.0 ms.1 in
      subst (λ (y : Body (all_of kind) × List LogicalLine). (lines ≡ show_body (level + 1) y.0 ++ y.1) × FitsBody b n y.0) (some_is _ x ms.2) (p.0 ∙ ap (λ (t : List LogicalLine). t ++ ms.0.1) (sym (nodes_shown (level + 1) kind ms.0.0)), nodes_fit b n kind ms.0.0 p.1)

  node_with_sound : (kind : Kind) (lines : List LogicalLine) (x : Node kind × List LogicalLine) → node_with kind b n level inner lines ≡ Some x → (lines ≡ show_node level x.0 ++ x.1) × FitsNode b (suc n) x.0
  unfolding node_with
  node_with_sound kind lines x e =
      let ds = bind_some (many (at_decl level) (decl_with b n level (inner process)) (length lines) lines) _ x e in
      let l = bind_some (line_at level ds.0.1) _ x ds.2 in
      let h = bind_some (head_at kind b l.0.0.1) _ x l.2 in
      let body = bind_some (body_with (level + 1) inner (under kind h.0) l.0.1) _ x h.2 in
      let p = many_sound LogicalLine Decl (show_decl level) (λ d. FitsDecl b n d) (at_decl level) (decl_with b n level (inner process)) decl_one (length lines) lines ds.0 ds.1 in
      let q = head_sound kind b l.0.0.1 h.0 h.1 in
      let r = body_sound (under kind h.0) l.0.1 body.0 body.1 in
      let first : ds.0.1 ≡ (logical_line l.0.0.0 level (show_head kind h.0) ∷ show_body (level + 1) body.0.0) ++ body.0.1 = line_sound level ds.0.1 l.0 l.1 ∙ ap (λ (ws : List Word). logical_line l.0.0.0 level ws ∷ l.0.1) q.0 ∙ ap (λ (t : List LogicalLine). logical_line l.0.0.0 level (show_head kind h.0) ∷ t) r.0 in
      let declared : lines ≡ show_decls level (decls ds.0.0) ++ ds.0.1 = p.0 ∙ ap (λ (t : List LogicalLine). t ++ ds.0.1) (sym (decls_shown level ds.0.0)) in
      subst (λ (y : Node kind × List LogicalLine). (lines ≡ show_node level y.0 ++ y.1) × FitsNode b (suc n) y.0) (some_is _ x body.2)
      (after lines (show_decls level (decls ds.0.0)) ds.0.1 (logical_line l.0.0.0 level (show_head kind h.0) ∷ show_body (level + 1) body.0.0) body.0.1 declared first, (decls_fit b n ds.0.0 p.1, q.1, r.1))

pub node_sound : (b n level : ℕ) (kind : Kind) (lines : List LogicalLine) (x : Node kind × List LogicalLine) → node_at b n level kind lines ≡ Some x → (lines ≡ show_node level x.0 ++ x.1) × FitsNode b n x.0
unfolding node_at
node_sound b zero level kind lines x e = absurd cc
node_sound b (suc n) level kind lines x e = node_with_sound b n level (node_at b n (level + 1)) (node_sound b n (level + 1)) kind lines x e

-- ---- texts

as_item_is : (d : Decl) (i : Item) → as_item d ≡ Some i → d ≡ item i
as_item_is (item j) i e = ap item (some_is j i e)
as_item_is (declares l es t v vs) i e = absurd cc

item_at_sound : (b n : ℕ) (lines : List LogicalLine) (x : Item × List LogicalLine) → item_at b n lines ≡ Some x → (lines ≡ show_item 0 x.0 ++ x.1) × FitsItem b n x.0
unfolding item_at
item_at_sound b n lines x e =
    let d = bind_some (decl_with b n 0 (node_at b n 1 process) lines) _ x e in
    let i = bind_some (as_item d.0.0) _ x d.2 in
    let p = decl_sound b n 0 (node_at b n 1) (node_sound b n 1) lines d.0 d.1 in
    let same = as_item_is d.0.0 i.0 i.1 in
    subst (λ (y : Item × List LogicalLine). (lines ≡ show_item 0 y.0 ++ y.1) × FitsItem b n y.0) (some_is _ x i.2)
    (p.0 ∙ ap (λ (t : Decl). show_decl 0 t ++ d.0.1) same, subst (λ (t : Decl). FitsDecl b n t) same p.1)

any_is : (lines after : List LogicalLine) → at_any lines ≡ Some after → lines ≡ after
any_is [] after e = absurd cc
any_is (r ∷ lines) after e = some_is (r ∷ lines) after e

item_one : (b n : ℕ) (lines after : List LogicalLine) (x : Item × List LogicalLine) → at_any lines ≡ Some after → item_at b n after ≡ Some x → (lines ≡ show_item 0 x.0 ++ x.1) × FitsItem b n x.0
item_one b n lines after x j e = let p = item_at_sound b n after x e in (any_is lines after j ∙ p.0, p.1)

pub program_sound : (b n : ℕ) (lines : List LogicalLine) (all : List Item) → program_at b n lines ≡ Some all → (lines ≡ show_program all) × Each (λ i. FitsItem b n i) all
unfolding program_at
program_sound b n lines all e =
    let ms = bind_some (many at_any (item_at b n) (length lines) lines) _ all e in
    let q = ended_is ms.0.0 ms.0.1 all ms.2 in
    let p = many_sound LogicalLine Item (show_item 0) (λ i. FitsItem b n i) at_any (item_at b n) (item_one b n) (length lines) lines ms.0 ms.1 in
    subst (λ (y : List Item). (lines ≡ show_program y) × Each (λ i. FitsItem b n i) y) q.1 (p.0 ∙ ap (λ (t : List LogicalLine). show_program ms.0.0 ++ t) q.0 ∙ append-nil (show_program ms.0.0), p.1)
