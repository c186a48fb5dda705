-- The written form of processes, of their parts and of a text, line by line.
-- Manual: the syntax summary; combining processes; procedures; channels and protocols.
use Rattle.std.specs.Prelude.{ℕ, ◌+◌, List, [], ◌∷◌, ◌++◌}
use Rattle.occ_text.specs.declared.token.Key.TheVariants as k
use Rattle.occ_text.specs.declared.token.Sym.TheVariants as s
use Rattle.occ_text.specs.Words.{Word, key, mark, LogicalLine, logical_line}
use Rattle.occ_tree_grammar.specs.Lists.{show_all}
use Rattle.occ_tree_grammar.specs.Lines.Heads.{names, value, parts, tags, procedure, tag_parts, show_process_head, show_choice_head, show_option_head, show_arm_head, show_variant_head, show_decl_head, show_tag_head}
use Rattle.occ_tree_grammar.specs.Processes.Trees.{Kind, process, choice, option, arm, variant, Head, Tag, tag_line, Protocol, of_parts, of_tags, Node, node, Body, no_body, single_body, bodies, Nodes, no_node, more_nodes, Decls, no_decl, more_decls, Decl, declares, item, Item, value_item, protocol_item, proc_item}

-- the words of the line of a kind
abbrev pub show_head : (k : Kind) → Head k → List Word
show_head process h = show_process_head h
show_head choice h = show_choice_head h
show_head option h = show_option_head h
show_head arm h = show_arm_head h
show_head variant h = show_variant_head h

abbrev pub show_tag : ℕ → Tag → List LogicalLine
show_tag level (tag_line l v ps) = logical_line l level (show_tag_head (tag_parts v ps)) ∷ []

abbrev pub show_protocol : ℕ → Protocol → List LogicalLine
show_protocol level (of_parts l v p ps) = logical_line l level (show_decl_head (parts v p ps)) ∷ []
show_protocol level (of_tags l v case_line ts end_line) =
    logical_line l level (show_decl_head (tags v)) ∷ logical_line case_line (level + 1) (key k.Case ∷ []) ∷ (show_all (show_tag (level + 1 + 1)) ts ++ logical_line end_line level (mark s.Colon ∷ []) ∷ [])

abbrev mutual
  pub show_node : ℕ → {k : Kind} → Node k → List LogicalLine
  show_node level (node {k = k} ds l h body) = show_decls level ds ++ logical_line l level (show_head k h) ∷ show_body (level + 1) body

  pub show_body : ℕ → {u : _} → Body u → List LogicalLine
  show_body level no_body = []
  show_body level (single_body n) = show_node level n
  show_body level (bodies ns) = show_nodes level ns

  pub show_nodes : ℕ → {k : Kind} → Nodes k → List LogicalLine
  show_nodes level no_node = []
  show_nodes level (more_nodes n ns) = show_node level n ++ show_nodes level ns

  pub show_decls : ℕ → Decls → List LogicalLine
  show_decls level no_decl = []
  show_decls level (more_decls d ds) = show_decl level d ++ show_decls level ds

  pub show_decl : ℕ → Decl → List LogicalLine
  show_decl level (declares l es t v vs) = logical_line l level (show_decl_head (names es t v vs)) ∷ []
  show_decl level (item i) = show_item level i

  pub show_item : ℕ → Item → List LogicalLine
  show_item level (value_item l t v e) = logical_line l level (show_decl_head (value t v e)) ∷ []
  show_item level (protocol_item p) = show_protocol level p
  show_item level (proc_item l v fs n end_line) = logical_line l level (show_decl_head (procedure v fs)) ∷ (show_node (level + 1) n ++ logical_line end_line level (mark s.Colon ∷ []) ∷ [])

-- the lines of a text
abbrev pub show_program : List Item → List LogicalLine
show_program = show_all (show_item 0)
