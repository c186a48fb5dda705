-- What keeps to the bounds: fewer than b brackets open at one place, and at most n levels: those under an item, and of a process its own and those under it.
-- Manual: nothing; this is (own).
use Rattle.std.specs.Prelude.{ℕ, zero, suc, ◌<◌, List}
use Rattle.occ_tree_grammar.specs.Limits.{brackets, most_levels}
use Rattle.occ_tree_grammar.specs.Lists.{Each}
use Rattle.occ_tree_grammar.specs.Lines.Heads.{names, value, parts, procedure, tag_parts, FitsProcessHead, FitsChoiceHead, FitsOptionHead, FitsArmHead, FitsVariantHead, FitsDeclHead, FitsTagHead}
use Rattle.occ_tree_grammar.specs.Processes.Trees.{Kind, process, choice, option, arm, variant, Head, Tag, tag_line, Protocol, of_parts, of_tags, Node, node, Body, no_body, single_body, bodies, Nodes, no_node, more_nodes, Decls, no_decl, more_decls, Decl, declares, item, Item, value_item, protocol_item, proc_item}

abbrev pub FitsHead : ℕ → (k : Kind) → Head k → Type 0
FitsHead b process h = FitsProcessHead b h
FitsHead b choice h = FitsChoiceHead b h
FitsHead b option h = FitsOptionHead b h
FitsHead b arm h = FitsArmHead b h
FitsHead b variant h = FitsVariantHead b h

abbrev pub FitsTag : ℕ → ℕ → Tag → Type 0
FitsTag b n (tag_line l v ps) = FitsTagHead b (tag_parts v ps) × (0 < n)

-- n is the number of levels from the one below
abbrev pub FitsProtocol : ℕ → ℕ → Protocol → Type 0
FitsProtocol b n (of_parts l v p ps) = FitsDeclHead b (parts v p ps)
FitsProtocol b zero (of_tags l v case_line ts end_line) = ⊥
FitsProtocol b (suc n) (of_tags l v case_line ts end_line) = Each (FitsTag b n) ts

abbrev mutual
  pub FitsNode : ℕ → ℕ → {k : Kind} → Node k → Type 0
  FitsNode b zero (node ds l h body) = ⊥
  FitsNode b (suc n) (node {k = k} ds l h body) = FitsDecls b n ds × FitsHead b k h × FitsBody b n body

  pub FitsBody : ℕ → ℕ → {u : _} → Body u → Type 0
  FitsBody b n no_body = Unit {0}
  FitsBody b n (single_body m) = FitsNode b n m
  FitsBody b n (bodies ms) = FitsNodes b n ms

  pub FitsNodes : ℕ → ℕ → {k : Kind} → Nodes k → Type 0
  FitsNodes b n no_node = Unit {0}
  FitsNodes b n (more_nodes m ms) = FitsNode b n m × FitsNodes b n ms

  pub FitsDecls : ℕ → ℕ → Decls → Type 0
  FitsDecls b n no_decl = Unit {0}
  FitsDecls b n (more_decls d ds) = FitsDecl b n d × FitsDecls b n ds

  pub FitsDecl : ℕ → ℕ → Decl → Type 0
  FitsDecl b n (declares l es t v vs) = FitsDeclHead b (names es t v vs)
  FitsDecl b n (item i) = FitsItem b n i

  pub FitsItem : ℕ → ℕ → Item → Type 0
  FitsItem b n (value_item l t v e) = FitsDeclHead b (value t v e)
  FitsItem b n (protocol_item p) = FitsProtocol b n p
  FitsItem b n (proc_item l v fs m end_line) = FitsDeclHead b (procedure v fs) × FitsNode b n m

-- a text that keeps to these bounds
abbrev pub FitsProgram : ℕ → ℕ → List Item → Type 0
FitsProgram b n = Each (FitsItem b n)

-- a text with at most 64 levels, at most 64 brackets open at one place, and at most four sizes or subscripts
abbrev pub InBounds : List Item → Type 0
InBounds = FitsProgram brackets most_levels
