-- How large trees and scopes are. What is unfolded next is smaller than what it stands in, and a PROC's body with all that it sees
-- is smaller than a scope that the PROC stands in.
-- Manual: nothing; this is (own).
use Rattle.std.specs.Prelude.{List, [], map, ℕ, ◌+◌, ◌∷◌}
use Rattle.occ_tree_grammar.specs.Processes.Trees.{Kind, process, choice, option, arm, variant, Node, node, Body, no_body, single_body, bodies, Nodes, no_node, more_nodes, nodes, Decls, no_decl, more_decls, decls, Decl, declares, item, Item, value_item, protocol_item, proc_item, Under}
use Rattle.occ_tree_grammar.specs.Processes.Views.{process_of, arm_of, choice_of, selection_of, variant_of, decl_of}
use Rattle.occ_tree_grammar.specs.declared.tree.process.Decl.{Decl as DeclTree}
use Rattle.occ_tree_grammar.specs.declared.tree.process.Process.{Process}
use Rattle.occ_tree_grammar.specs.declared.tree.process.Selection.{Selection}
use Rattle.occ_tree_grammar.specs.declared.tree.process.Variant.{Variant}
use Rattle.occ_tree_grammar.specs.declared.tree.process.Choice.{Choice}
use Rattle.occ_tree_grammar.specs.declared.tree.process.Arm.{Arm}
use Rattle.occ_check_meaning.specs.Scope.{known, proc}
use Rattle.occ_check_meaning.specs.Unfolding.{procedure, Procedures}

-- the sizes of trees, with those of bodies that are declared in them
unfoldable mutual
  pub node_size : {k : Kind} → Node k → ℕ
  node_size (node ds line h b) = (decls_size ds + body_size b) + 2

  pub body_size : {u : Under} → Body u → ℕ
  body_size no_body = 0
  body_size (single_body n) = node_size n + 1
  body_size (bodies ns) = nodes_size ns + 1

  pub nodes_size : {k : Kind} → Nodes k → ℕ
  nodes_size no_node = 0
  nodes_size (more_nodes n ns) = (node_size n + nodes_size ns) + 1

  pub decls_size : Decls → ℕ
  decls_size no_decl = 0
  decls_size (more_decls d ds) = (decl_size d + decls_size ds) + 1

  pub decl_size : Decl → ℕ
  decl_size (declares line es sort x xs) = 1
  decl_size (item i) = item_size i + 1

  pub item_size : Item → ℕ
  item_size (value_item line type x e) = 1
  item_size (protocol_item p) = 1
  item_size (proc_item line f fs body end_line) = node_size body + 2

-- the sizes of the bodies in a scope
unfoldable pub weight : Procedures → ℕ
weight [] = 0
weight ((x, known k) ∷ sc) = weight sc
weight ((f, proc (procedure line fs body)) ∷ sc) = (node_size body + weight sc) + 1

-- the parts of constructs, as the code keeps them in lists

abbrev pub process_nodes : List Process → Nodes process
process_nodes ps = nodes (map process_of ps)

abbrev pub choice_nodes : List Choice → Nodes choice
choice_nodes cs = nodes (map choice_of cs)

abbrev pub option_nodes : List Selection → Nodes option
option_nodes os = nodes (map selection_of os)

abbrev pub arm_nodes : List Arm → Nodes arm
arm_nodes xs = nodes (map arm_of xs)

abbrev pub variant_nodes : List Variant → Nodes variant
variant_nodes vs = nodes (map variant_of vs)

abbrev pub decl_nodes : List DeclTree → Decls
decl_nodes ds = decls (map decl_of ds)
