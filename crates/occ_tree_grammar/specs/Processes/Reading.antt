-- Reading processes, their parts and a text, with fewer than b brackets open at one place.
-- Manual: the syntax summary; combining processes; procedures. The limits of levels and brackets: (own).
use Rattle.std.specs.Prelude.{ℕ, zero, suc, ◌+◌, List, [], ◌∷◌, nat_eq, cond, Option, Some, None}
use Rattle.occ_text.specs.declared.token.Key.TheVariants as k
use Rattle.occ_text.specs.declared.token.Sym.TheVariants as s
use Rattle.occ_text.specs.Words.{Word, key, mark, LogicalLine, logical_line}
use Rattle.occ_tree_grammar.specs.Many.{◌>>=◌, Reader, as_many, ended}
use Rattle.occ_tree_grammar.specs.Lines.Heads.{DeclHead, names, value, parts, tags, procedure, TagHead, tag_parts}
use Rattle.occ_tree_grammar.specs.Lines.HeadReading.{process_head_at, choice_head_at, option_head_at, arm_head_at, variant_head_at, decl_head_at, tag_head_at, declares as begins_declaration}
use Rattle.occ_tree_grammar.specs.Processes.Trees.{Kind, process, choice, option, arm, variant, Under, nothing, one_of, all_of, Head, under, Tag, tag_line, Protocol, of_parts, of_tags, Node, node, Body, no_body, single_body, bodies, nodes, decls, Decl, declares, item, Item, value_item, protocol_item, proc_item}

-- the line of a kind
abbrev pub head_at : (k : Kind) → ℕ → List Word → Option (Head k)
head_at process b ws = process_head_at b ws
head_at choice b ws = choice_head_at b ws
head_at option b ws = option_head_at b ws
head_at arm b ws = arm_head_at b ws
head_at variant b ws = variant_head_at b ws

-- the lines, where the first is at this level
abbrev pub at_level : ℕ → List LogicalLine → Option (List LogicalLine)
at_level level [] = None
at_level level (logical_line l n ws ∷ lines) = cond (nat_eq n level) (Some (logical_line l n ws ∷ lines)) None

-- the lines, where the first is at this level and begins a declaration
abbrev pub at_decl : ℕ → List LogicalLine → Option (List LogicalLine)
at_decl level [] = None
at_decl level (logical_line l n ws ∷ lines) = cond (nat_eq n level) (cond (begins_declaration ws) (Some (logical_line l n ws ∷ lines)) None) None

-- the lines, where there is one
abbrev pub at_any : List LogicalLine → Option (List LogicalLine)
at_any [] = None
at_any (r ∷ lines) = Some (r ∷ lines)

-- the first line, where it is at this level: its number and its words
abbrev pub line_step : Option (List LogicalLine) → Reader LogicalLine (ℕ × List Word)
line_step None lines = None
line_step (Some []) lines = None
line_step (Some (logical_line l n ws ∷ rest)) lines = Some ((l, ws), rest)

unfoldable pub line_at : ℕ → Reader LogicalLine (ℕ × List Word)
line_at level lines = line_step (at_level level lines) lines

-- the words that these lines consist of
abbrev pub is_case : List Word → Option (Unit {0})
is_case (key k.Case ∷ []) = Some tt
is_case _ = None

abbrev pub is_colon : List Word → Option (Unit {0})
is_colon (mark s.Colon ∷ []) = Some tt
is_colon _ = None

-- the number of the line of CASE
unfoldable pub case_at : ℕ → Reader LogicalLine ℕ
case_at level lines = do
  l ← line_at level lines
  sure ← is_case l.0.1
  Some (l.0.0, l.1)

-- the number of the line that ends a declaration
unfoldable pub end_at : ℕ → Reader LogicalLine ℕ
end_at level lines = do
  l ← line_at level lines
  sure ← is_colon l.0.1
  Some (l.0.0, l.1)

-- ---- protocols of variants

abbrev pub tag_of : ℕ → TagHead → Tag
tag_of l (tag_parts v ps) = tag_line l v ps

abbrev pub tag_with : ℕ → ℕ → Reader LogicalLine Tag
tag_with b level lines = do
  l ← line_at level lines
  h ← tag_head_at b l.0.1
  Some (tag_of l.0.0 h, l.1)

-- a line of a protocol, with fewer than n levels
unfoldable pub tag_at : ℕ → ℕ → ℕ → Reader LogicalLine Tag
tag_at b zero level lines = None
tag_at b (suc n) level lines = tag_with b level lines

abbrev pub tags_with : ℕ → ℕ → ℕ → ℕ → List ℕ → Reader LogicalLine Protocol
tags_with b n level l v lines = do
  c ← case_at (level + 1) lines
  ts ← as_many (at_level (level + 1 + 1)) (tag_at b n (level + 1 + 1)) c.1
  last ← end_at level ts.1
  Some (of_tags l v c.0 ts.0 last.0, last.1)

-- what follows the first line, where n levels are left from the next
unfoldable pub tags_at : ℕ → ℕ → ℕ → ℕ → List ℕ → Reader LogicalLine Protocol
tags_at b zero level l v lines = None
tags_at b (suc n) level l v lines = tags_with b n level l v lines

-- ---- declarations, where inner reads a process a level deeper, and n levels are left from there

abbrev pub item_with : ℕ → ℕ → ℕ → Reader LogicalLine (Node process) → ℕ → DeclHead → Reader LogicalLine Decl
item_with b n level inner l (names es t v vs) lines = Some (declares l es t v vs, lines)
item_with b n level inner l (value t v e) lines = Some (item (value_item l t v e), lines)
item_with b n level inner l (parts v p ps) lines = Some (item (protocol_item (of_parts l v p ps)), lines)
item_with b n level inner l (tags v) lines = do
  p ← tags_at b n level l v lines
  Some (item (protocol_item p.0), p.1)
item_with b n level inner l (procedure v fs) lines = do
  m ← inner lines
  last ← end_at level m.1
  Some (item (proc_item l v fs m.0 last.0), last.1)

unfoldable pub decl_with : ℕ → ℕ → ℕ → Reader LogicalLine (Node process) → Reader LogicalLine Decl
decl_with b n level inner lines = do
  l ← line_at level lines
  h ← decl_head_at b l.0.1
  item_with b n level inner l.0.0 h l.1

-- ---- processes and their parts

-- what stands a level deeper, where inner reads one of a kind there
abbrev pub body_with : ℕ → ((k : Kind) → Reader LogicalLine (Node k)) → (u : Under) → Reader LogicalLine (Body u)
body_with deeper inner nothing lines = Some (no_body, lines)
body_with deeper inner (one_of k) lines = do
  n ← inner k lines
  Some (single_body n.0, n.1)
body_with deeper inner (all_of k) lines = do
  ns ← as_many (at_level deeper) (inner k) lines
  Some (bodies (nodes ns.0), ns.1)

-- what stands under a line, and the whole
abbrev pub finished : (k : Kind) → ℕ → ((j : Kind) → Reader LogicalLine (Node j)) → List Decl → ℕ → Head k → Reader LogicalLine (Node k)
finished k level inner ds l h lines = do
  body ← body_with (level + 1) inner (under k h) lines
  Some (node (decls ds) l h body.0, body.1)

unfoldable pub node_with : (k : Kind) → ℕ → ℕ → ℕ → ((j : Kind) → Reader LogicalLine (Node j)) → Reader LogicalLine (Node k)
node_with k b n level inner lines = do
  ds ← as_many (at_decl level) (decl_with b n level (inner process)) lines
  l ← line_at level ds.1
  h ← head_at k b l.0.1
  finished k level inner ds.0 l.0.0 h l.1

-- one of a kind at a level, with fewer than n levels, its own and those under it
unfoldable pub node_at : ℕ → ℕ → ℕ → (k : Kind) → Reader LogicalLine (Node k)
node_at b zero level k lines = None
node_at b (suc n) level k lines = node_with k b n level (node_at b n (level + 1)) lines

-- ---- texts

abbrev pub as_item : Decl → Option Item
as_item (item i) = Some i
as_item (declares l es t v vs) = None

-- an item at the top, where n levels are left from the next
unfoldable pub item_at : ℕ → ℕ → Reader LogicalLine Item
item_at b n lines = do
  d ← decl_with b n 0 (node_at b n 1 process) lines
  i ← as_item d.0
  Some (i, d.1)

unfoldable pub program_at : ℕ → ℕ → List LogicalLine → Option (List Item)
program_at b n lines = do
  all ← as_many at_any (item_at b n) lines
  ended all.0 all.1
