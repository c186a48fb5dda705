-- What is left of a process and of a declaration once their first lines are read.
-- Manual: the syntax summary. The limits of levels and brackets: (own).
use Rattle.std.specs.Prelude.{ℕ, zero, suc, ◌+◌, List, Option, Some, None, Vec}
use Rattle.std.specs.declared.alloc.Global.{Global}
use Rattle.std.specs.declared.boxed.Box.{Box}
use Rattle.occ_text.specs.Words.{LogicalLine}
use Rattle.occ_tree_grammar.specs.Limits.{brackets}
use Rattle.occ_tree_grammar.specs.Many.{◌>>=◌, Reader, as_many}
use Rattle.occ_tree_grammar.specs.declared.tree.line.Formals.{Formals as FormalsTree}
use Rattle.occ_tree_grammar.specs.declared.tree.process.Decl.{Decl as DeclTree}
use Rattle.occ_tree_grammar.specs.declared.tree.process.Process.{Process as ProcessTree}
use Rattle.occ_tree_grammar.specs.Expressions.Trees.{expression_of}
use Rattle.occ_tree_grammar.specs.Lines.Trees.{Formals}
use Rattle.occ_tree_grammar.specs.Lines.Views.{var_of, replicator_of, formals_of}
use Rattle.occ_tree_grammar.specs.Lines.Heads.{ProcessHead, act, input_variants, sequence, parallel, alternation, conditional, selection, loop, DeclHead, names, value, parts, tags, procedure}
use Rattle.occ_tree_grammar.specs.Lines.HeadViews.{action_of}
use Rattle.occ_tree_grammar.specs.Processes.Trees.{Head, option, process, variant, of_parts, Node, node, single_body, bodies, nodes, decls, Decl, declares, item, value_item, protocol_item, proc_item}
use Rattle.occ_tree_grammar.specs.Processes.Views.{decl_of, listed_decls, process_of}
use Rattle.occ_tree_grammar.specs.Processes.Reading.{at_decl, end_at, tags_at, decl_with, node_at}
use Rattle.occ_tree_reader.specs.declared.processes.opened.Opened.{Opened}
use Rattle.occ_tree_reader.specs.declared.processes.opened.Opened.TheVariants as openings
use Rattle.occ_tree_reader.specs.declared.processes.opened.Around.{Around}
use Rattle.occ_tree_reader.specs.declared.processes.opened.Around.TheVariants as arounds
use Rattle.occ_tree_reader.specs.declared.processes.opened.Order.{Order}
use Rattle.occ_tree_reader.specs.declared.processes.opened.Order.TheVariants as orders
use Rattle.occ_tree_reader.specs.declared.processes.opened.OpenedDecl.{OpenedDecl}
use Rattle.occ_tree_reader.specs.declared.processes.opened.OpenedDecl.TheVariants as declarations
use Rattle.occ_tree_reader.specs.Heads.{decl_line_with}

-- ---- processes

-- the line of a process with one process under it, and the whole
abbrev pub around_head : Around → ProcessHead
around_head (arounds.Seq r) = sequence (Some (replicator_of r.value))
around_head (arounds.Par r) = parallel (Some (replicator_of r.value))
around_head (arounds.While e) = loop (expression_of e.value)

abbrev pub around : Around → List Decl → ℕ → Node process → Node process
around (arounds.Seq r) ds l n = node (decls ds) l (sequence (Some (replicator_of r.value))) (single_body n)
around (arounds.Par r) ds l n = node (decls ds) l (parallel (Some (replicator_of r.value))) (single_body n)
around (arounds.While e) ds l n = node (decls ds) l (loop (expression_of e.value)) (single_body n)

-- the line of a process with processes under it, and the whole
abbrev pub order_head : Order → ProcessHead
order_head orders.Seq = sequence None
order_head orders.Par = parallel None

abbrev pub in_order : Order → List Decl → ℕ → List (Node process) → Node process
in_order orders.Seq ds l ns = node (decls ds) l (sequence None) (bodies (nodes ns))
in_order orders.Par ds l ns = node (decls ds) l (parallel None) (bodies (nodes ns))

-- the line of a process
abbrev pub opened_head : Opened → ProcessHead
opened_head (openings.Action a) = act (action_of a.value)
opened_head (openings.Process a) = around_head a
opened_head (openings.Processes o) = order_head o
opened_head (openings.Choice r) = conditional (Some (replicator_of r.value))
opened_head openings.Choices = conditional None
opened_head (openings.Options e) = selection (expression_of e.value)
opened_head (openings.Arm pri r) = alternation pri (Some (replicator_of r.value))
opened_head (openings.Arms pri) = alternation pri None
opened_head (openings.Variants v) = input_variants (var_of v)

-- ---- declarations

-- a declaration, where n levels are left from the next
abbrev pub whole_decl_at : ℕ → ℕ → Reader LogicalLine Decl
whole_decl_at n level = decl_with brackets n level (node_at brackets n (level + 1) process)

-- the declarations before a node, where n levels are left, its own among them
abbrev pub begun : ℕ → ℕ → Reader LogicalLine (List Decl)
begun zero level lines = None
begun (suc n) level lines = as_many (at_decl level) (whole_decl_at n level) lines

-- a declaration whose first lines are read: it is whole, or the body of a procedure is left
pub data DeclLeft : Type 0 where
  whole : Decl → DeclLeft
  body_of : (line : ℕ) → List ℕ → Formals → DeclLeft

abbrev pub decl_left_of : OpenedDecl → DeclLeft
decl_left_of (declarations.Whole d) = whole (decl_of d)
decl_left_of (declarations.Proc l v fs) = body_of l v (formals_of fs)

abbrev pub left_behind : ℕ → ℕ → ℕ → DeclHead → Reader LogicalLine DeclLeft
left_behind n level l (names es t v vs) lines = Some (whole (declares l es t v vs), lines)
left_behind n level l (value t v e) lines = Some (whole (item (value_item l t v e)), lines)
left_behind n level l (parts v p ps) lines = Some (whole (item (protocol_item (of_parts l v p ps))), lines)
left_behind n level l (tags v) lines = do
  p ← tags_at brackets n level l v lines
  Some (whole (item (protocol_item p.0)), p.1)
left_behind n level l (procedure v fs) lines = Some (body_of l v fs, lines)

abbrev pub decl_left_at : ℕ → ℕ → Reader LogicalLine DeclLeft
decl_left_at n level lines = do
  h ← decl_line_with level lines
  left_behind n level h.0.0 h.0.1 h.1

-- the line that ends a procedure, and the whole
abbrev pub procedure_with : ℕ → ℕ → List ℕ → Formals → Node process → Reader LogicalLine Decl
procedure_with level l v fs body lines = do
  last ← end_at level lines
  Some (item (proc_item l v fs body last.0), last.1)

-- what is left of a procedure behind its body, by what was read
abbrev pub procedure_behind : ℕ → ℕ → List ℕ → Option (Box FormalsTree Global) → ProcessTree → Reader LogicalLine Decl
procedure_behind level l v fs body = procedure_with level l v (formals_of fs) (process_of body)

-- the option, and the variant, with this line and this process under it
abbrev pub option_over : {A : Type 0} → Vec DeclTree A → ℕ → Head option → ProcessTree → Node option
option_over ds l head body = node {k = option} (listed_decls ds) l head (single_body (process_of body))

abbrev pub variant_over : {A : Type 0} → Vec DeclTree A → ℕ → Head variant → ProcessTree → Node variant
variant_over ds l head body = node {k = variant} (listed_decls ds) l head (single_body (process_of body))
