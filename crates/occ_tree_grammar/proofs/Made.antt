-- The trees that the code makes, seen by their views.
use Rattle.std.proofs.Common.{◌≡◌, ℕ, List, Bool, Option, Some, None, refl, ap, map, ◌∙◌, Vec, Global, option_map}
use Rattle.std.specs.declared.boxed.Box.{Box}
use Rattle.occ_tree_grammar.specs.declared.tree.process.Process.{Process as ProcessTree}
use Rattle.occ_tree_grammar.specs.declared.tree.process.Process.TheVariants as processes
use Rattle.occ_tree_grammar.specs.declared.tree.process.Stmt.{Row_of-Process, end_of-Process, more_of-Process, items-the_row-Process, items_hidden-the_row-Process-4, Row_of-Arm, end_of-Arm, more_of-Arm, items-the_row-Arm, items_hidden-the_row-Arm-2, Row_of-Choice, end_of-Choice, more_of-Choice, items-the_row-Choice, items_hidden-the_row-Choice-3, Row_of-Selection, end_of-Selection, more_of-Selection, items-the_row-Selection, items_hidden-the_row-Selection-5, Row_of-Variant, end_of-Variant, more_of-Variant, items-the_row-Variant, items_hidden-the_row-Variant-1}
use Rattle.occ_tree_grammar.specs.declared.tree.process.Stmt.TheVariants as stmts
use Rattle.occ_tree_grammar.specs.declared.tree.process.Choice.{Choice as ChoiceTree, Row_of-Decl, end_of-Decl, more_of-Decl, items-the_row-Decl, items_hidden-the_row-Decl-0}
use Rattle.occ_tree_grammar.specs.declared.tree.process.Choice.TheVariants as choices
use Rattle.occ_tree_grammar.specs.declared.tree.process.Selection.{Selection as SelectionTree}
use Rattle.occ_tree_grammar.specs.declared.tree.process.Selection.TheVariants as selections
use Rattle.occ_tree_grammar.specs.declared.tree.process.Arm.{Arm as ArmTree}
use Rattle.occ_tree_grammar.specs.declared.tree.process.Arm.TheVariants as arms
use Rattle.occ_tree_grammar.specs.declared.tree.process.Arm.TheBlock.{hidden-the_row-Process-4, hidden-the_row-Choice-3, hidden-the_row-Selection-5, hidden-the_row-Arm-2, hidden-the_row-Variant-1, hidden-the_row-Decl-0}
use Rattle.occ_tree_grammar.specs.declared.tree.process.Variant.{Variant as VariantTree}
use Rattle.occ_tree_grammar.specs.declared.tree.process.Variant.TheVariants as variants
use Rattle.occ_tree_grammar.specs.declared.tree.process.Decl.{Decl as DeclTree}
use Rattle.occ_tree_grammar.specs.declared.tree.process.Decl.TheVariants as declTrees
use Rattle.occ_tree_grammar.specs.declared.tree.process.Item.{Item as ItemTree}
use Rattle.occ_tree_grammar.specs.declared.tree.process.Item.TheVariants as itemTrees
use Rattle.occ_tree_grammar.specs.declared.tree.process.Protocol.{Protocol as ProtocolTree}
use Rattle.occ_tree_grammar.specs.declared.tree.expr.Expr.{Expr}
use Rattle.occ_tree_grammar.specs.declared.tree.line.Action.{Action}
use Rattle.occ_tree_grammar.specs.declared.tree.line.Replicator.{Replicator}
use Rattle.occ_tree_grammar.specs.declared.tree.line.Var.{Var}
use Rattle.occ_tree_grammar.specs.declared.tree.line.Guard.{Guard}
use Rattle.occ_tree_grammar.specs.declared.tree.line.VariantGuard.{VariantGuard}
use Rattle.occ_tree_grammar.specs.declared.tree.line.Target.{Target}
use Rattle.occ_tree_grammar.specs.declared.tree.line.OneOrMore.{OneOrMore}
use Rattle.occ_tree_grammar.specs.declared.tree.line.Sort.{Sort}
use Rattle.occ_tree_grammar.specs.declared.tree.line.ValueType.{ValueType}
use Rattle.occ_tree_grammar.specs.declared.tree.line.Formals.{Formals}
use Rattle.occ_tree_grammar.specs.Expressions.Trees.{expression_of, expressions}
use Rattle.occ_tree_grammar.specs.Lines.Views.{var_of, target_of, replicator_of, sort_of, value_type_of, formals_of}
use Rattle.occ_tree_grammar.specs.Lines.Heads.{act, input_variants, sequence, parallel, alternation, conditional, selection, loop, chosen, nested_conditional, values, otherwise, guarded, guarded_variants, nested_alternation, tag}
use Rattle.occ_tree_grammar.specs.Lines.HeadViews.{action_of, guard_of}
use Rattle.occ_tree_grammar.specs.Processes.Trees.{Kind, process, choice, option, arm, variant, Head, under, node, Body, no_body, single_body, bodies, Nodes, more_nodes, nodes, Decls, more_decls, decls, declares, item, value_item, protocol_item, proc_item}
use Rattle.occ_tree_grammar.specs.Processes.Views.{process_of, choice_of, selection_of, arm_of, variant_of, decl_of, item_of, protocol_of, held_decls, held_processes, held_choices, held_selections, held_arms, held_variants}

-- ---- vectors

held_processes_are : {m : _} (k : Row_of-Process m) → held_processes k ≡ nodes (map process_of (items-the_row-Process m k))
unfolding process_of held_processes
held_processes_are end_of-Process = refl
held_processes_are (more_of-Process x k) = ap (more_nodes (process_of x)) (held_processes_are k)

processes_made : (v : Vec ProcessTree Global) → held_processes (hidden-the_row-Process-4 v) ≡ nodes (map process_of v.items)
processes_made v = held_processes_are (hidden-the_row-Process-4 v) ∙ ap (λ (xs : List ProcessTree). nodes (map process_of xs)) (items_hidden-the_row-Process-4 v)

held_choices_are : {m : _} (k : Row_of-Choice m) → held_choices k ≡ nodes (map choice_of (items-the_row-Choice m k))
unfolding choice_of held_choices
held_choices_are end_of-Choice = refl
held_choices_are (more_of-Choice x k) = ap (more_nodes (choice_of x)) (held_choices_are k)

choices_made : (v : Vec ChoiceTree Global) → held_choices (hidden-the_row-Choice-3 v) ≡ nodes (map choice_of v.items)
choices_made v = held_choices_are (hidden-the_row-Choice-3 v) ∙ ap (λ (xs : List ChoiceTree). nodes (map choice_of xs)) (items_hidden-the_row-Choice-3 v)

held_selections_are : {m : _} (k : Row_of-Selection m) → held_selections k ≡ nodes (map selection_of (items-the_row-Selection m k))
unfolding selection_of held_selections
held_selections_are end_of-Selection = refl
held_selections_are (more_of-Selection x k) = ap (more_nodes (selection_of x)) (held_selections_are k)

selections_made : (v : Vec SelectionTree Global) → held_selections (hidden-the_row-Selection-5 v) ≡ nodes (map selection_of v.items)
selections_made v = held_selections_are (hidden-the_row-Selection-5 v) ∙ ap (λ (xs : List SelectionTree). nodes (map selection_of xs)) (items_hidden-the_row-Selection-5 v)

held_arms_are : {m : _} (k : Row_of-Arm m) → held_arms k ≡ nodes (map arm_of (items-the_row-Arm m k))
unfolding arm_of held_arms
held_arms_are end_of-Arm = refl
held_arms_are (more_of-Arm x k) = ap (more_nodes (arm_of x)) (held_arms_are k)

arms_made : (v : Vec ArmTree Global) → held_arms (hidden-the_row-Arm-2 v) ≡ nodes (map arm_of v.items)
arms_made v = held_arms_are (hidden-the_row-Arm-2 v) ∙ ap (λ (xs : List ArmTree). nodes (map arm_of xs)) (items_hidden-the_row-Arm-2 v)

held_variants_are : {m : _} (k : Row_of-Variant m) → held_variants k ≡ nodes (map variant_of (items-the_row-Variant m k))
unfolding variant_of held_variants
held_variants_are end_of-Variant = refl
held_variants_are (more_of-Variant x k) = ap (more_nodes (variant_of x)) (held_variants_are k)

variants_made : (v : Vec VariantTree Global) → held_variants (hidden-the_row-Variant-1 v) ≡ nodes (map variant_of v.items)
variants_made v = held_variants_are (hidden-the_row-Variant-1 v) ∙ ap (λ (xs : List VariantTree). nodes (map variant_of xs)) (items_hidden-the_row-Variant-1 v)

held_decls_are : {m : _} (k : Row_of-Decl m) → held_decls k ≡ decls (map decl_of (items-the_row-Decl m k))
unfolding decl_of held_decls
held_decls_are end_of-Decl = refl
held_decls_are (more_of-Decl x k) = ap (more_decls (decl_of x)) (held_decls_are k)

decls_made : (v : Vec DeclTree Global) → held_decls (hidden-the_row-Decl-0 v) ≡ decls (map decl_of v.items)
decls_made v = held_decls_are (hidden-the_row-Decl-0 v) ∙ ap (λ (xs : List DeclTree). decls (map decl_of xs)) (items_hidden-the_row-Decl-0 v)

-- the declarations that code has read
abbrev pub declared : Vec DeclTree Global → Decls
declared ds = decls (map decl_of ds.items)

-- a node with the declarations of a vector, and one with the nodes of a vector under it
with_decls : {k : Kind} (ds : Vec DeclTree Global) (l : ℕ) (h : Head k) (body : Body (under k h)) → node {k = k} (held_decls (hidden-the_row-Decl-0 ds)) l h body ≡ node (declared ds) l h body
with_decls {k} ds l h body = ap (λ (t : Decls). node {k = k} t l h body) (decls_made ds)

-- ---- processes

pub process_action : (ds : Vec DeclTree Global) (l : ℕ) (a : Box Action Global) → process_of (processes.Declared ds l (stmts.Action a)) ≡ node {k = process} (declared ds) l (act (action_of a.value)) no_body
unfolding process_of
process_action ds l a = with_decls {k = process} ds l (act (action_of a.value)) no_body

pub process_seq : (ds : Vec DeclTree Global) (l : ℕ) (ps : Vec ProcessTree Global) → process_of (processes.Declared ds l (stmts.Seq ps)) ≡ node {k = process} (declared ds) l (sequence None) (bodies (nodes (map process_of ps.items)))
unfolding process_of
process_seq ds l ps = with_decls {k = process} ds l (sequence None) (bodies (held_processes (hidden-the_row-Process-4 ps))) ∙ ap (λ (t : Nodes process). node {k = process} (declared ds) l (sequence None) (bodies t)) (processes_made ps)

pub process_par : (ds : Vec DeclTree Global) (l : ℕ) (ps : Vec ProcessTree Global) → process_of (processes.Declared ds l (stmts.Par ps)) ≡ node {k = process} (declared ds) l (parallel None) (bodies (nodes (map process_of ps.items)))
unfolding process_of
process_par ds l ps = with_decls {k = process} ds l (parallel None) (bodies (held_processes (hidden-the_row-Process-4 ps))) ∙ ap (λ (t : Nodes process). node {k = process} (declared ds) l (parallel None) (bodies t)) (processes_made ps)

pub process_seq_for : (ds : Vec DeclTree Global) (l : ℕ) (r : Box Replicator Global) (p : Box ProcessTree Global) → process_of (processes.Declared ds l (stmts.SeqFor r p)) ≡ node {k = process} (declared ds) l (sequence (Some (replicator_of r.value))) (single_body (process_of p.value))
unfolding process_of
process_seq_for ds l r p = with_decls {k = process} ds l (sequence (Some (replicator_of r.value))) (single_body (process_of p.value))

pub process_par_for : (ds : Vec DeclTree Global) (l : ℕ) (r : Box Replicator Global) (p : Box ProcessTree Global) → process_of (processes.Declared ds l (stmts.ParFor r p)) ≡ node {k = process} (declared ds) l (parallel (Some (replicator_of r.value))) (single_body (process_of p.value))
unfolding process_of
process_par_for ds l r p = with_decls {k = process} ds l (parallel (Some (replicator_of r.value))) (single_body (process_of p.value))

pub process_alt : (ds : Vec DeclTree Global) (l : ℕ) (pri : Bool) (ms : Vec ArmTree Global) → process_of (processes.Declared ds l (stmts.Alt pri ms)) ≡ node {k = process} (declared ds) l (alternation pri None) (bodies (nodes (map arm_of ms.items)))
unfolding process_of
process_alt ds l pri ms = with_decls {k = process} ds l (alternation pri None) (bodies (held_arms (hidden-the_row-Arm-2 ms))) ∙ ap (λ (t : Nodes arm). node {k = process} (declared ds) l (alternation pri None) (bodies t)) (arms_made ms)

pub process_alt_for : (ds : Vec DeclTree Global) (l : ℕ) (pri : Bool) (r : Box Replicator Global) (m : Box ArmTree Global) → process_of (processes.Declared ds l (stmts.AltFor pri r m)) ≡ node {k = process} (declared ds) l (alternation pri (Some (replicator_of r.value))) (single_body (arm_of m.value))
unfolding process_of
process_alt_for ds l pri r m = with_decls {k = process} ds l (alternation pri (Some (replicator_of r.value))) (single_body (arm_of m.value))

pub process_if : (ds : Vec DeclTree Global) (l : ℕ) (cs : Vec ChoiceTree Global) → process_of (processes.Declared ds l (stmts.If cs)) ≡ node {k = process} (declared ds) l (conditional None) (bodies (nodes (map choice_of cs.items)))
unfolding process_of
process_if ds l cs = with_decls {k = process} ds l (conditional None) (bodies (held_choices (hidden-the_row-Choice-3 cs))) ∙ ap (λ (t : Nodes choice). node {k = process} (declared ds) l (conditional None) (bodies t)) (choices_made cs)

pub process_if_for : (ds : Vec DeclTree Global) (l : ℕ) (r : Box Replicator Global) (c : Box ChoiceTree Global) → process_of (processes.Declared ds l (stmts.IfFor r c)) ≡ node {k = process} (declared ds) l (conditional (Some (replicator_of r.value))) (single_body (choice_of c.value))
unfolding process_of
process_if_for ds l r c = with_decls {k = process} ds l (conditional (Some (replicator_of r.value))) (single_body (choice_of c.value))

pub process_case : (ds : Vec DeclTree Global) (l : ℕ) (e : Box Expr Global) (os : Vec SelectionTree Global) → process_of (processes.Declared ds l (stmts.Case e os)) ≡ node {k = process} (declared ds) l (selection (expression_of e.value)) (bodies (nodes (map selection_of os.items)))
unfolding process_of
process_case ds l e os = with_decls {k = process} ds l (selection (expression_of e.value)) (bodies (held_selections (hidden-the_row-Selection-5 os))) ∙ ap (λ (t : Nodes option). node {k = process} (declared ds) l (selection (expression_of e.value)) (bodies t)) (selections_made os)

pub process_while : (ds : Vec DeclTree Global) (l : ℕ) (e : Box Expr Global) (p : Box ProcessTree Global) → process_of (processes.Declared ds l (stmts.While e p)) ≡ node {k = process} (declared ds) l (loop (expression_of e.value)) (single_body (process_of p.value))
unfolding process_of
process_while ds l e p = with_decls {k = process} ds l (loop (expression_of e.value)) (single_body (process_of p.value))

pub process_variants : (ds : Vec DeclTree Global) (l : ℕ) (v : Var) (vs : Vec VariantTree Global) → process_of (processes.Declared ds l (stmts.Variants v vs)) ≡ node {k = process} (declared ds) l (input_variants (var_of v)) (bodies (nodes (map variant_of vs.items)))
unfolding process_of
process_variants ds l v vs = with_decls {k = process} ds l (input_variants (var_of v)) (bodies (held_variants (hidden-the_row-Variant-1 vs))) ∙ ap (λ (t : Nodes variant). node {k = process} (declared ds) l (input_variants (var_of v)) (bodies t)) (variants_made vs)

-- ---- choices and options

pub choice_when : (ds : Vec DeclTree Global) (l : ℕ) (e : Box Expr Global) (p : ProcessTree) → choice_of (choices.When ds l e p) ≡ node {k = choice} (declared ds) l (chosen (expression_of e.value)) (single_body (process_of p))
unfolding choice_of
choice_when ds l e p = with_decls {k = choice} ds l (chosen (expression_of e.value)) (single_body (process_of p))

pub choice_if : (ds : Vec DeclTree Global) (l : ℕ) (cs : Vec ChoiceTree Global) → choice_of (choices.InnerIf ds l cs) ≡ node {k = choice} (declared ds) l (nested_conditional None) (bodies (nodes (map choice_of cs.items)))
unfolding choice_of
choice_if ds l cs = with_decls {k = choice} ds l (nested_conditional None) (bodies (held_choices (hidden-the_row-Choice-3 cs))) ∙ ap (λ (t : Nodes choice). node {k = choice} (declared ds) l (nested_conditional None) (bodies t)) (choices_made cs)

pub choice_if_for : (ds : Vec DeclTree Global) (l : ℕ) (r : Box Replicator Global) (c : Box ChoiceTree Global) → choice_of (choices.InnerIfFor ds l r c) ≡ node {k = choice} (declared ds) l (nested_conditional (Some (replicator_of r.value))) (single_body (choice_of c.value))
unfolding choice_of
choice_if_for ds l r c = with_decls {k = choice} ds l (nested_conditional (Some (replicator_of r.value))) (single_body (choice_of c.value))

pub selection_values : (ds : Vec DeclTree Global) (l : ℕ) (es : Box (OneOrMore Expr) Global) (p : ProcessTree) → selection_of (selections.Values ds l es p) ≡ node {k = option} (declared ds) l (values (expression_of es.value.first) (map expression_of es.value.others.items)) (single_body (process_of p))
unfolding selection_of
selection_values ds l es p = with_decls {k = option} ds l (values (expression_of es.value.first) (map expression_of es.value.others.items)) (single_body (process_of p))

pub selection_else : (ds : Vec DeclTree Global) (l : ℕ) (p : ProcessTree) → selection_of (selections.Else ds l p) ≡ node {k = option} (declared ds) l (otherwise) (single_body (process_of p))
unfolding selection_of
selection_else ds l p = with_decls {k = option} ds l (otherwise) (single_body (process_of p))

-- ---- arms and variants

pub arm_guarded : (ds : Vec DeclTree Global) (l : ℕ) (g : Box Guard Global) (p : ProcessTree) → arm_of (arms.Guarded ds l g p) ≡ node {k = arm} (declared ds) l (guarded (guard_of g.value)) (single_body (process_of p))
unfolding arm_of
arm_guarded ds l g p = with_decls {k = arm} ds l (guarded (guard_of g.value)) (single_body (process_of p))

pub arm_variants : (ds : Vec DeclTree Global) (l : ℕ) (g : Box VariantGuard Global) (vs : Vec VariantTree Global) → arm_of (arms.OnVariant ds l g vs) ≡ node {k = arm} (declared ds) l (guarded_variants (option_map expression_of g.value.condition) (var_of g.value.channel)) (bodies (nodes (map variant_of vs.items)))
unfolding arm_of
arm_variants ds l g vs = with_decls {k = arm} ds l (guarded_variants (option_map expression_of g.value.condition) (var_of g.value.channel)) (bodies (held_variants (hidden-the_row-Variant-1 vs))) ∙ ap (λ (t : Nodes variant). node {k = arm} (declared ds) l (guarded_variants (option_map expression_of g.value.condition) (var_of g.value.channel)) (bodies t)) (variants_made vs)

pub arm_alt : (ds : Vec DeclTree Global) (l : ℕ) (pri : Bool) (ms : Vec ArmTree Global) → arm_of (arms.InnerAlt ds l pri ms) ≡ node {k = arm} (declared ds) l (nested_alternation pri None) (bodies (nodes (map arm_of ms.items)))
unfolding arm_of
arm_alt ds l pri ms = with_decls {k = arm} ds l (nested_alternation pri None) (bodies (held_arms (hidden-the_row-Arm-2 ms))) ∙ ap (λ (t : Nodes arm). node {k = arm} (declared ds) l (nested_alternation pri None) (bodies t)) (arms_made ms)

pub arm_alt_for : (ds : Vec DeclTree Global) (l : ℕ) (pri : Bool) (r : Box Replicator Global) (m : Box ArmTree Global) → arm_of (arms.InnerAltFor ds l pri r m) ≡ node {k = arm} (declared ds) l (nested_alternation pri (Some (replicator_of r.value))) (single_body (arm_of m.value))
unfolding arm_of
arm_alt_for ds l pri r m = with_decls {k = arm} ds l (nested_alternation pri (Some (replicator_of r.value))) (single_body (arm_of m.value))

pub variant_tagged : (ds : Vec DeclTree Global) (l : ℕ) (v : List ℕ) (ts : Vec Target Global) (p : ProcessTree) → variant_of (variants.Tagged ds l v ts p) ≡ node {k = variant} (declared ds) l (tag v (map target_of ts.items)) (single_body (process_of p))
unfolding variant_of
variant_tagged ds l v ts p = with_decls {k = variant} ds l (tag v (map target_of ts.items)) (single_body (process_of p))

-- ---- declarations

pub decl_names : (l : ℕ) (es : Vec Expr Global) (t : Box Sort Global) (vs : OneOrMore (List ℕ)) → decl_of (declTrees.Names l es t vs) ≡ declares l (expressions (map expression_of es.items)) (sort_of t.value) vs.first vs.others.items
unfolding decl_of
decl_names l es t vs = refl

pub decl_item : (i : ItemTree) → decl_of (declTrees.Item i) ≡ item (item_of i)
unfolding decl_of item_of
decl_item i = refl

pub item_value : (l : ℕ) (t : Option ValueType) (v : List ℕ) (e : Box Expr Global) → item_of (itemTrees.Value l t v e) ≡ value_item l (option_map value_type_of t) v (expression_of e.value)
unfolding item_of
item_value l t v e = refl

pub item_protocol : (p : ProtocolTree) → item_of (itemTrees.Protocol p) ≡ protocol_item (protocol_of p)
unfolding item_of
item_protocol p = refl

pub item_proc : (l : ℕ) (v : List ℕ) (fs : Option (Box Formals Global)) (p : ProcessTree) (end_line : ℕ) → item_of (itemTrees.Proc l v fs p end_line) ≡ proc_item l v (formals_of fs) (process_of p) end_line
unfolding item_of process_of
item_proc l v fs p end_line = refl
