-- The processes of the code and their parts, without where they lie in memory.
-- Manual: nothing; this is (own).
use Rattle.std.specs.Prelude.{List, Vec, map, Some, None, option_map}
use Rattle.occ_tree_grammar.specs.declared.tree.process.Process.{Process as ProcessTree}
use Rattle.occ_tree_grammar.specs.declared.tree.process.Process.TheVariants as processes
use Rattle.occ_tree_grammar.specs.declared.tree.process.Stmt.{Row_of-Process, end_of-Process, more_of-Process, Row_of-Arm, end_of-Arm, more_of-Arm, Row_of-Choice, end_of-Choice, more_of-Choice, Row_of-Selection, end_of-Selection, more_of-Selection, Row_of-Variant, end_of-Variant, more_of-Variant}
use Rattle.occ_tree_grammar.specs.declared.tree.process.Stmt.TheVariants as stmts
use Rattle.occ_tree_grammar.specs.declared.tree.process.Choice.{Choice as ChoiceTree, Row_of-Decl, end_of-Decl, more_of-Decl}
use Rattle.occ_tree_grammar.specs.declared.tree.process.Choice.TheVariants as choices
use Rattle.occ_tree_grammar.specs.declared.tree.process.Selection.{Selection as SelectionTree}
use Rattle.occ_tree_grammar.specs.declared.tree.process.Selection.TheVariants as selections
use Rattle.occ_tree_grammar.specs.declared.tree.process.Arm.{Arm as ArmTree}
use Rattle.occ_tree_grammar.specs.declared.tree.process.Arm.TheVariants as arms
use Rattle.occ_tree_grammar.specs.declared.tree.process.Variant.{Variant as VariantTree}
use Rattle.occ_tree_grammar.specs.declared.tree.process.Variant.TheVariants as variants
use Rattle.occ_tree_grammar.specs.declared.tree.process.Decl.{Decl as DeclTree}
use Rattle.occ_tree_grammar.specs.declared.tree.process.Decl.TheVariants as declTrees
use Rattle.occ_tree_grammar.specs.declared.tree.process.Item.{Item as ItemTree}
use Rattle.occ_tree_grammar.specs.declared.tree.process.Item.TheVariants as itemTrees
use Rattle.occ_tree_grammar.specs.declared.tree.process.Protocol.{Protocol as ProtocolTree}
use Rattle.occ_tree_grammar.specs.declared.tree.process.Protocol.TheVariants as protocols
use Rattle.occ_tree_grammar.specs.declared.tree.process.Tag.{Tag as TagTree}
use Rattle.occ_tree_grammar.specs.declared.tree.process.Program.{Program}
use Rattle.occ_tree_grammar.specs.Expressions.Trees.{expression_of, expressions}
use Rattle.occ_tree_grammar.specs.Lines.Views.{var_of, target_of, replicator_of, part_of, sort_of, value_type_of, formals_of}
use Rattle.occ_tree_grammar.specs.Lines.Heads.{act, input_variants, sequence, parallel, alternation, conditional, selection, loop, chosen, nested_conditional, values, otherwise, guarded, guarded_variants, nested_alternation, tag}
use Rattle.occ_tree_grammar.specs.Lines.HeadViews.{action_of, guard_of}
use Rattle.occ_tree_grammar.specs.Processes.Trees.{process, choice, option, arm, variant, Tag, tag_line, Protocol, of_parts, of_tags, Node, node, no_body, single_body, bodies, Nodes, no_node, more_nodes, Decls, decls, no_decl, more_decls, Decl, declares, item, Item, value_item, protocol_item, proc_item}

abbrev pub tag_of : TagTree → Tag
tag_of t = tag_line t.line t.name (map part_of t.parts.items)

abbrev pub protocol_of : ProtocolTree → Protocol
protocol_of (protocols.Parts l v ps) = of_parts l v (part_of ps.value.first) (map part_of ps.value.others.items)
protocol_of (protocols.Tags l v case_line ts end_line) = of_tags l v case_line (map tag_of ts.items) end_line

unfoldable mutual
  pub process_of : ProcessTree → Node process
  process_of (processes.Declared' shape ds l (stmts.Action a)) = node (held_decls ds) l (act (action_of a.value)) no_body
  process_of (processes.Declared' shape ds l (stmts.Seq' s ps)) = node (held_decls ds) l (sequence None) (bodies (held_processes ps))
  process_of (processes.Declared' shape ds l (stmts.SeqFor' r p n)) = node (held_decls ds) l (sequence (Some (replicator_of r.value))) (single_body (process_of n))
  process_of (processes.Declared' shape ds l (stmts.Par' s ps)) = node (held_decls ds) l (parallel None) (bodies (held_processes ps))
  process_of (processes.Declared' shape ds l (stmts.ParFor' r p n)) = node (held_decls ds) l (parallel (Some (replicator_of r.value))) (single_body (process_of n))
  process_of (processes.Declared' shape ds l (stmts.Alt' pri s ms)) = node (held_decls ds) l (alternation pri None) (bodies (held_arms ms))
  process_of (processes.Declared' shape ds l (stmts.AltFor' pri r p m)) = node (held_decls ds) l (alternation pri (Some (replicator_of r.value))) (single_body (arm_of m))
  process_of (processes.Declared' shape ds l (stmts.If' s cs)) = node (held_decls ds) l (conditional None) (bodies (held_choices cs))
  process_of (processes.Declared' shape ds l (stmts.IfFor' r p c)) = node (held_decls ds) l (conditional (Some (replicator_of r.value))) (single_body (choice_of c))
  process_of (processes.Declared' shape ds l (stmts.Case' e s os)) = node (held_decls ds) l (selection (expression_of e.value)) (bodies (held_selections os))
  process_of (processes.Declared' shape ds l (stmts.While' e p n)) = node (held_decls ds) l (loop (expression_of e.value)) (single_body (process_of n))
  process_of (processes.Declared' shape ds l (stmts.Variants' v s vs)) = node (held_decls ds) l (input_variants (var_of v)) (bodies (held_variants vs))

  pub choice_of : ChoiceTree → Node choice
  choice_of (choices.When' shape ds l e n) = node (held_decls ds) l (chosen (expression_of e.value)) (single_body (process_of n))
  choice_of (choices.InnerIf' shape ds l s cs) = node (held_decls ds) l (nested_conditional None) (bodies (held_choices cs))
  choice_of (choices.InnerIfFor' shape ds l r p c) = node (held_decls ds) l (nested_conditional (Some (replicator_of r.value))) (single_body (choice_of c))

  pub selection_of : SelectionTree → Node option
  selection_of (selections.Values' shape ds l es n) = node (held_decls ds) l (values (expression_of es.value.first) (map expression_of es.value.others.items)) (single_body (process_of n))
  selection_of (selections.Else' shape ds l n) = node (held_decls ds) l otherwise (single_body (process_of n))

  pub arm_of : ArmTree → Node arm
  arm_of (arms.Guarded' shape ds l g n) = node (held_decls ds) l (guarded (guard_of g.value)) (single_body (process_of n))
  arm_of (arms.OnVariant' shape ds l g s vs) = node (held_decls ds) l (guarded_variants (option_map expression_of g.value.condition) (var_of g.value.channel)) (bodies (held_variants vs))
  arm_of (arms.InnerAlt' shape ds l pri s ms) = node (held_decls ds) l (nested_alternation pri None) (bodies (held_arms ms))
  arm_of (arms.InnerAltFor' shape ds l pri r p m) = node (held_decls ds) l (nested_alternation pri (Some (replicator_of r.value))) (single_body (arm_of m))

  pub variant_of : VariantTree → Node variant
  variant_of (variants.Tagged' shape ds l v ts n) = node (held_decls ds) l (tag v (map target_of ts.items)) (single_body (process_of n))

  pub decl_of : DeclTree → Decl
  decl_of (declTrees.Names l es t vs) = declares l (expressions (map expression_of es.items)) (sort_of t.value) vs.first vs.others.items
  decl_of (declTrees.Item i) = item (item_of i)

  pub item_of : ItemTree → Item
  item_of (itemTrees.Value l t v e) = value_item l (option_map value_type_of t) v (expression_of e.value)
  item_of (itemTrees.Protocol p) = protocol_item (protocol_of p)
  item_of (itemTrees.Proc l v fs n end_line) = proc_item l v (formals_of fs) (process_of n) end_line

  pub held_decls : {m : _} → Row_of-Decl m → Decls
  held_decls end_of-Decl = no_decl
  held_decls (more_of-Decl d ds) = more_decls (decl_of d) (held_decls ds)

  pub held_processes : {m : _} → Row_of-Process m → Nodes process
  held_processes end_of-Process = no_node
  held_processes (more_of-Process n ns) = more_nodes (process_of n) (held_processes ns)

  pub held_choices : {m : _} → Row_of-Choice m → Nodes choice
  held_choices end_of-Choice = no_node
  held_choices (more_of-Choice n ns) = more_nodes (choice_of n) (held_choices ns)

  pub held_selections : {m : _} → Row_of-Selection m → Nodes option
  held_selections end_of-Selection = no_node
  held_selections (more_of-Selection n ns) = more_nodes (selection_of n) (held_selections ns)

  pub held_arms : {m : _} → Row_of-Arm m → Nodes arm
  held_arms end_of-Arm = no_node
  held_arms (more_of-Arm n ns) = more_nodes (arm_of n) (held_arms ns)

  pub held_variants : {m : _} → Row_of-Variant m → Nodes variant
  held_variants end_of-Variant = no_node
  held_variants (more_of-Variant n ns) = more_nodes (variant_of n) (held_variants ns)

-- the declarations of a list
abbrev pub listed_decls : {A : Type 0} → Vec DeclTree A → Decls
listed_decls ds = decls (map decl_of ds.items)

abbrev pub program_of : Program → List Item
program_of p = map item_of p.items.items
