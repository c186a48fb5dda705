-- Processes and texts that are shown are read again.
use Rattle.std.proofs.Common.{◌≡◌, ℕ, zero, suc, ◌+◌, ◌<◌, List, [], ◌∷◌, ◌++◌, length, true, false, Some, None, refl, sym, ap, ◌∙◌, append_assoc, length-append, arith}
use Rattle.std.specs.Prelude.{nat_eq}
use Rattle.std.proofs.lemmas.Bool.Decides.{nat_tests}
use Rattle.std.proofs.lemmas.List.{append-nil}
use Rattle.occ_text.specs.declared.token.Key.TheVariants as k
use Rattle.occ_text.specs.declared.token.Sym.TheVariants as s
use Rattle.occ_text.specs.Words.{Word, key, mark, LogicalLine, logical_line}
use Rattle.occ_tree_grammar.specs.Lists.{show_all, Each}
use Rattle.occ_tree_grammar.specs.Many.{Reader, many}
use Rattle.occ_tree_grammar.specs.Lines.Heads.{names, value, parts, tags, procedure, tag_parts, show_decl_head, show_tag_head}
use Rattle.occ_tree_grammar.specs.Lines.HeadReading.{declares as begins_declaration}
use Rattle.occ_tree_grammar.specs.Processes.Trees.{Kind, process, choice, option, arm, variant, Under, Head, Tag, tag_line, of_parts, of_tags, Node, node, Body, no_body, single_body, bodies, Nodes, no_node, more_nodes, nodes, Decls, no_decl, more_decls, decls, Decl, declares, item, Item, value_item, protocol_item, proc_item}
use Rattle.occ_tree_grammar.specs.Processes.Shown.{show_head, show_tag, show_node, show_body, show_nodes, show_decls, show_decl, show_item, show_program}
use Rattle.occ_tree_grammar.specs.Processes.Fits.{FitsHead, FitsTag, FitsProtocol, FitsNode, FitsBody, FitsNodes, FitsDecls, FitsDecl, FitsItem}
use Rattle.occ_tree_grammar.specs.Processes.Reading.{head_at, at_level, at_decl, at_any, line_at, case_at, end_at, tag_at, tags_at, decl_with, body_with, node_with, node_at, item_at, program_at}
use Rattle.occ_tree_grammar.proofs.Binds.{some_is}
use Rattle.occ_tree_grammar.proofs.Manys.{Again, many_again, all_long, each_map}
use Rattle.occ_tree_grammar.proofs.HeadAgain.{process_head_again, choice_head_again, option_head_again, arm_head_again, variant_head_again, decl_head_again, tag_head_again}
use Rattle.occ_tree_grammar.proofs.Colons.{begins_none, declaration_begins}
use Rattle.occ_tree_grammar.proofs.ProcessSound.{nodes_shown, decls_shown}

-- The lines go on at a lower level, or end.
abbrev pub Below : ℕ → List LogicalLine → Type 0
Below level [] = Unit {0}
Below level (logical_line l n ws ∷ lines) = n < level

same_level : (n : ℕ) → nat_eq n n ≡ true
same_level n = grind (arith, nat_tests)

lower_level : (n m : ℕ) → n < m → nat_eq n m ≡ false
lower_level n m lt = grind (arith, nat_tests)

here : (l level : ℕ) (ws : List Word) (lines : List LogicalLine) → at_level level (logical_line l level ws ∷ lines) ≡ Some (logical_line l level ws ∷ lines)
here l level ws lines = rw (same_level level) refl

not_here : (level : ℕ) (lines : List LogicalLine) → Below level lines → at_level level lines ≡ None
not_here level [] h = refl
not_here level (logical_line l n ws ∷ lines) h = rw (lower_level n level h) refl

below_more : (level : ℕ) (lines : List LogicalLine) → Below level lines → Below (level + 1) lines
below_more level [] h = tt
below_more level (logical_line l n ws ∷ lines) h = omega arith

line_again : (l level : ℕ) (ws : List Word) (lines : List LogicalLine) → line_at level (logical_line l level ws ∷ lines) ≡ Some ((l, ws), lines)
unfolding line_at
line_again l level ws lines = rw (here l level ws lines) refl

end_again : (l level : ℕ) (lines : List LogicalLine) → end_at level (logical_line l level (mark s.Colon ∷ []) ∷ lines) ≡ Some (l, lines)
unfolding end_at
end_again l level lines = rw (line_again l level (mark s.Colon ∷ []) lines) refl

case_again : (l level : ℕ) (lines : List LogicalLine) → case_at level (logical_line l level (key k.Case ∷ []) ∷ lines) ≡ Some (l, lines)
unfolding case_at
case_again l level lines = rw (line_again l level (key k.Case ∷ []) lines) refl

-- ---- lists

unfoldable pub node_list : {kind : Kind} → Nodes kind → List (Node kind)
node_list no_node = []
node_list (more_nodes m ms) = m ∷ node_list ms

nodes_of_list : {kind : Kind} (all : Nodes kind) → nodes (node_list all) ≡ all
unfolding node_list
nodes_of_list no_node = refl
nodes_of_list (more_nodes m ms) = ap (more_nodes m) (nodes_of_list ms)

unfoldable pub decl_list : Decls → List Decl
decl_list no_decl = []
decl_list (more_decls d ds) = d ∷ decl_list ds

decls_of_list : (all : Decls) → decls (decl_list all) ≡ all
unfolding decl_list
decls_of_list no_decl = refl
decls_of_list (more_decls d ds) = ap (more_decls d) (decls_of_list ds)

-- ---- protocols of variants

tag_again : (b n level : ℕ) (t : Tag) (lines : List LogicalLine) → FitsTag b n t → tag_at b n level (show_tag level t ++ lines) ≡ Some (t, lines)
unfolding tag_at
tag_again b zero level (tag_line l v ps) lines f = let no : 0 < 0 = f.1 in absurd (omega arith)
tag_again b (suc n) level (tag_line l v ps) lines f = rw (line_again l level (show_tag_head (tag_parts v ps)) lines, tag_head_again b (tag_parts v ps) f.0) refl

tag_each : (b n level : ℕ) (t : Tag) → FitsTag b n t → Again LogicalLine Tag (show_tag level) (λ lines. Unit {0}) (at_level level) (tag_at b n level) t
tag_each b n level (tag_line l v ps) f lines h = (show_tag level (tag_line l v ps) ++ lines, here l level (show_tag_head (tag_parts v ps)) lines, tag_again b n level (tag_line l v ps) lines f)

-- the lines of tags may end here
tags_last : (level : ℕ) (lines : List LogicalLine) → Below level lines → (at_level level lines ≡ None) × Unit {0}
tags_last level lines h = (not_here level lines h, tt)

tag_long : (level : ℕ) (t : Tag) → 0 < length (show_tag level t)
tag_long level (tag_line l v ps) = omega arith

tags_again : (b n level l : ℕ) (v : List ℕ) (case_line : ℕ) (ts : List Tag) (end_line : ℕ) (lines : List LogicalLine) → FitsProtocol b n (of_tags l v case_line ts end_line)
    → tags_at b n level l v (logical_line case_line (level + 1) (key k.Case ∷ []) ∷ ((show_all (show_tag (level + 1 + 1)) ts ++ logical_line end_line level (mark s.Colon ∷ []) ∷ []) ++ lines)) ≡ Some (of_tags l v case_line ts end_line, lines)
unfolding tags_at
tags_again b zero level l v case_line ts end_line lines f = absurd f
tags_again b (suc n) level l v case_line ts end_line lines f =
    let deep = level + 1 + 1 in
    let shown = show_all (show_tag (level + 1 + 1)) ts in
    let last = logical_line end_line level (mark s.Colon ∷ []) ∷ lines in
    let lower : level < level + 1 + 1 = omega arith in
    rw (
      case_again case_line (level + 1) ((shown ++ logical_line end_line level (mark s.Colon ∷ []) ∷ []) ++ lines),
      append_assoc shown (logical_line end_line level (mark s.Colon ∷ []) ∷ []) lines,
      many_again LogicalLine Tag (show_tag (level + 1 + 1)) (at_level (level + 1 + 1)) (tag_at b n (level + 1 + 1)) (λ lines. Unit {0}) (Below (level + 1 + 1)) (λ t lines. tt) (tags_last (level + 1 + 1)) ts (each_map (tag_each b n (level + 1 + 1)) ts f) (length (shown ++ last)) (all_long LogicalLine Tag (show_tag (level + 1 + 1)) (tag_long (level + 1 + 1)) ts last) last lower,
      end_again end_line level lines,
    ) refl

-- ---- the line of a kind

head_again : (kind : Kind) (b : ℕ) (h : Head kind) → 0 < b → FitsHead b kind h → head_at kind b (show_head kind h) ≡ Some h
head_again process b h pos f = process_head_again b h f
head_again choice b h pos f = choice_head_again b h f
head_again option b h pos f = option_head_again b h f
head_again arm b h pos f = arm_head_again b h pos f
head_again variant b h pos f = variant_head_again b h f

-- ---- the first line of a process, of a declaration

-- the lines begin a declaration at this level
BeginsDecl : ℕ → List LogicalLine → Type 0
BeginsDecl level [] = ⊥
BeginsDecl level (logical_line l n ws ∷ lines) = (n ≡ level) × (begins_declaration ws ≡ true)

decl_begins : (level : ℕ) (d : Decl) (lines : List LogicalLine) → BeginsDecl level (show_decl level d ++ lines)
unfolding BeginsDecl
decl_begins level (declares l es t v vs) lines = (refl, declaration_begins (names es t v vs))
decl_begins level (item (value_item l t v e)) lines = (refl, declaration_begins (value t v e))
decl_begins level (item (protocol_item (of_parts l v p ps))) lines = (refl, declaration_begins (parts v p ps))
decl_begins level (item (protocol_item (of_tags l v case_line ts end_line))) lines = (refl, declaration_begins (tags v))
decl_begins level (item (proc_item l v fs m end_line)) lines = (refl, declaration_begins (procedure v fs))

decl_here : (level : ℕ) (lines : List LogicalLine) → BeginsDecl level lines → at_decl level lines ≡ Some lines
unfolding BeginsDecl
decl_here level [] h = absurd h
decl_here level (logical_line l n ws ∷ lines) h = rw (h.0, same_level level, h.1) refl

decl_long : (level : ℕ) (d : Decl) → 0 < length (show_decl level d)
decl_long level (declares l es t v vs) = omega arith
decl_long level (item (value_item l t v e)) = omega arith
decl_long level (item (protocol_item (of_parts l v p ps))) = omega arith
decl_long level (item (protocol_item (of_tags l v case_line ts end_line))) = omega arith
decl_long level (item (proc_item l v fs m end_line)) = omega arith

-- the line of a process or of a part of one declares nothing
none_declared : (level l : ℕ) (kind : Kind) (h : Head kind) (lines : List LogicalLine) → at_decl level (logical_line l level (show_head kind h) ∷ lines) ≡ None
none_declared level l kind h lines = rw (same_level level, begins_none kind h) refl

-- The lines begin at this level.
Starts : ℕ → List LogicalLine → Type 0
Starts level [] = ⊥
Starts level (logical_line l n ws ∷ lines) = n ≡ level

decl_starts : (level : ℕ) (lines : List LogicalLine) → BeginsDecl level lines → Starts level lines
unfolding BeginsDecl Starts
decl_starts level [] h = h
decl_starts level (logical_line l n ws ∷ lines) h = h.0

node_starts : (level : ℕ) (kind : Kind) (m : Node kind) (lines : List LogicalLine) → Starts level (show_node level m ++ lines)
unfolding Starts
node_starts level kind (node no_decl l h body) lines = refl
node_starts level kind (node (more_decls d ds) l h body) lines =
    let last = logical_line l level (show_head kind h) ∷ show_body (level + 1) body in
    rw (append_assoc (show_decl level d ++ show_decls level ds) last lines, append_assoc (show_decl level d) (show_decls level ds) (last ++ lines)) (decl_starts level _ (decl_begins level d (show_decls level ds ++ (last ++ lines))))

starts_here : (level : ℕ) (lines : List LogicalLine) → Starts level lines → at_level level lines ≡ Some lines
unfolding Starts
starts_here level [] h = absurd h
starts_here level (logical_line l n ws ∷ lines) h = rw (h, same_level level) refl

starts_below : (level : ℕ) (lines : List LogicalLine) → Starts level lines → Below (level + 1) lines
unfolding Starts
starts_below level [] h = absurd h
starts_below level (logical_line l n ws ∷ lines) h = omega arith

node_long : (level : ℕ) (kind : Kind) (m : Node kind) → 0 < length (show_node level m)
node_long level kind (node ds l h body) = rw (length-append (show_decls level ds) (logical_line l level (show_head kind h) ∷ show_body (level + 1) body)) (omega arith)

nodes_last : (level : ℕ) (lines : List LogicalLine) → Below level lines → (at_level level lines ≡ None) × Below (level + 1) lines
nodes_last level lines h = (not_here level lines h, below_more level lines h)

-- all of a list, where each is read again
nodes_again : (level : ℕ) (kind : Kind) (read : Reader LogicalLine (Node kind)) (ms : Nodes kind) → Each (Again LogicalLine (Node kind) (show_node level) (Below (level + 1)) (at_level level) read) (node_list ms) → (lines : List LogicalLine) → Below level lines
    → many (at_level level) read (length (show_nodes level ms ++ lines)) (show_nodes level ms ++ lines) ≡ Some (node_list ms, lines)
nodes_again level kind read ms each lines h =
    let shown : show_nodes level ms ≡ show_all (show_node level) (node_list ms) = ap (show_nodes level) (sym (nodes_of_list ms)) ∙ nodes_shown level kind (node_list ms) in
    rw shown (many_again LogicalLine (Node kind) (show_node level) (at_level level) read (Below (level + 1)) (Below level) (λ m rest. starts_below level _ (node_starts level kind m rest)) (nodes_last level) (node_list ms) each (length (show_all (show_node level) (node_list ms) ++ lines)) (all_long LogicalLine (Node kind) (show_node level) (node_long level kind) (node_list ms) lines) lines h)

decls_again : (level : ℕ) (read : Reader LogicalLine Decl) (ds : Decls) → Each (Again LogicalLine Decl (show_decl level) (λ lines. Unit {0}) (at_decl level) read) (decl_list ds) → (lines : List LogicalLine) → at_decl level lines ≡ None
    → many (at_decl level) read (length (show_decls level ds ++ lines)) (show_decls level ds ++ lines) ≡ Some (decl_list ds, lines)
decls_again level read ds each lines h =
    let shown : show_decls level ds ≡ show_all (show_decl level) (decl_list ds) = ap (show_decls level) (sym (decls_of_list ds)) ∙ decls_shown level (decl_list ds) in
    rw shown (many_again LogicalLine Decl (show_decl level) (at_decl level) read (λ lines. Unit {0}) (λ rest. at_decl level rest ≡ None) (λ d rest. tt) (λ rest none. (none, tt)) (decl_list ds) each (length (show_all (show_decl level) (decl_list ds) ++ lines)) (all_long LogicalLine Decl (show_decl level) (decl_long level) (decl_list ds) lines) lines h)

-- ---- all together

mutual
  unfolding node_at node_with decl_with node_list decl_list

  pub node_again : {kind : Kind} (m : Node kind) (b n level : ℕ) (lines : List LogicalLine) → 0 < b → FitsNode b n m → Below (level + 1) lines → node_at b n level kind (show_node level m ++ lines) ≡ Some (m, lines)
  node_again (node ds l h body) b zero level lines pos f below = absurd f
  node_again {kind} (node ds l h body) b (suc n) level lines pos f below =
      let rest = show_body (level + 1) body ++ lines in
      let line = logical_line l level (show_head kind h) ∷ rest in
      rw (
        append_assoc (show_decls level ds) (logical_line l level (show_head kind h) ∷ show_body (level + 1) body) lines,
        decls_again level (decl_with b n level (node_at b n (level + 1) process)) ds (decls_each ds b n level pos f.0) line (none_declared level l kind h rest),
        line_again l level (show_head kind h) rest,
        head_again kind b h pos f.1,
        body_again body b n level lines pos f.2 below,
      ) (ap (λ (t : Decls). Some (node {k = kind} t l h body, lines)) (decls_of_list ds))

  body_again : {u : Under} (body : Body u) (b n level : ℕ) (lines : List LogicalLine) → 0 < b → FitsBody b n body → Below (level + 1) lines → body_with (level + 1) (node_at b n (level + 1)) u (show_body (level + 1) body ++ lines) ≡ Some (body, lines)
  body_again no_body b n level lines pos f below = refl
  body_again (single_body m) b n level lines pos f below = rw (node_again m b n (level + 1) lines pos f (below_more (level + 1) lines below)) refl
  body_again (bodies {k = kind} ms) b n level lines pos f below = rw (nodes_again (level + 1) kind (node_at b n (level + 1) kind) ms (nodes_each ms b n (level + 1) pos f) lines below) (ap (λ (t : Nodes kind). Some (bodies t, lines)) (nodes_of_list ms))

  nodes_each : {kind : Kind} (ms : Nodes kind) (b n level : ℕ) → 0 < b → FitsNodes b n ms → Each (Again LogicalLine (Node kind) (show_node level) (Below (level + 1)) (at_level level) (node_at b n level kind)) (node_list ms)
  nodes_each no_node b n level pos f = tt
  nodes_each {kind} (more_nodes m ms) b n level pos f =
      (λ lines below. (show_node level m ++ lines, starts_here level _ (node_starts level kind m lines), node_again m b n level lines pos f.0 below), nodes_each ms b n level pos f.1)

  decls_each : (ds : Decls) (b n level : ℕ) → 0 < b → FitsDecls b n ds → Each (Again LogicalLine Decl (show_decl level) (λ lines. Unit {0}) (at_decl level) (decl_with b n level (node_at b n (level + 1) process))) (decl_list ds)
  decls_each no_decl b n level pos f = tt
  decls_each (more_decls d ds) b n level pos f =
      (λ lines below. (show_decl level d ++ lines, decl_here level _ (decl_begins level d lines), decl_again d b n level lines pos f.0), decls_each ds b n level pos f.1)

  pub decl_again : (d : Decl) (b n level : ℕ) (lines : List LogicalLine) → 0 < b → FitsDecl b n d → decl_with b n level (node_at b n (level + 1) process) (show_decl level d ++ lines) ≡ Some (d, lines)
  decl_again (declares l es t v vs) b n level lines pos f = rw (line_again l level (show_decl_head (names es t v vs)) lines, decl_head_again b (names es t v vs) f) refl
  decl_again (item i) b n level lines pos f = item_again i b n level lines pos f

  item_again : (i : Item) (b n level : ℕ) (lines : List LogicalLine) → 0 < b → FitsItem b n i → decl_with b n level (node_at b n (level + 1) process) (show_item level i ++ lines) ≡ Some (item i, lines)
  item_again (value_item l t v e) b n level lines pos f = rw (line_again l level (show_decl_head (value t v e)) lines, decl_head_again b (value t v e) f) refl
  item_again (protocol_item (of_parts l v p ps)) b n level lines pos f = rw (line_again l level (show_decl_head (parts v p ps)) lines, decl_head_again b (parts v p ps) f) refl
  item_again (protocol_item (of_tags l v case_line ts end_line)) b n level lines pos f =
      let rest = logical_line case_line (level + 1) (key k.Case ∷ []) ∷ ((show_all (show_tag (level + 1 + 1)) ts ++ logical_line end_line level (mark s.Colon ∷ []) ∷ []) ++ lines) in
      rw (line_again l level (show_decl_head (tags v)) rest, decl_head_again b (tags v) tt, tags_again b n level l v case_line ts end_line lines f) refl
  item_again (proc_item l v fs m end_line) b n level lines pos f =
      let last = logical_line end_line level (mark s.Colon ∷ []) ∷ lines in
      let lower : level < level + 1 + 1 = omega arith in
      rw (
        append_assoc (show_node (level + 1) m) (logical_line end_line level (mark s.Colon ∷ []) ∷ []) lines,
        line_again l level (show_decl_head (procedure v fs)) (show_node (level + 1) m ++ last),
        decl_head_again b (procedure v fs) f.0,
        node_again m b n (level + 1) last pos f.1 lower,
        end_again end_line level lines,
      ) refl

-- ---- texts

any_here : (level : ℕ) (lines : List LogicalLine) → BeginsDecl level lines → at_any lines ≡ Some lines
unfolding BeginsDecl
any_here level [] h = absurd h
any_here level (r ∷ lines) h = refl

item_each : (b n : ℕ) → 0 < b → (i : Item) → FitsItem b n i → Again LogicalLine Item (show_item 0) (λ lines. Unit {0}) at_any (item_at b n) i
unfolding item_at
item_each b n pos i f lines h = (show_item 0 i ++ lines, any_here 0 _ (decl_begins 0 (item i) lines), rw (decl_again (item i) b n 0 lines pos f) refl)

pub program_again : (b n : ℕ) (all : List Item) → 0 < b → Each (λ i. FitsItem b n i) all → program_at b n (show_program all) ≡ Some all
unfolding program_at
program_again b n all pos f =
    let whole = show_program all in
    let read : many at_any (item_at b n) (length (whole ++ [])) (whole ++ []) ≡ Some (all, []) = many_again LogicalLine Item (show_item 0) at_any (item_at b n) (λ lines. Unit {0}) (λ lines. lines ≡ []) (λ i lines. tt) (λ lines e. (rw e refl, tt)) all (each_map (item_each b n pos) all f) (length (whole ++ [])) (all_long LogicalLine Item (show_item 0) (λ i. decl_long 0 (item i)) all []) [] refl in
    rw (rw append-nil at read) refl

-- Two texts with one written form are one.
pub one_program : (b n : ℕ) → 0 < b → (p q : List Item) → Each (λ i. FitsItem b n i) p → Each (λ i. FitsItem b n i) q → show_program p ≡ show_program q → p ≡ q
one_program b n pos p q f g h = some_is p q (sym (program_again b n p pos f) ∙ ap (program_at b n) h ∙ program_again b n q pos g)
