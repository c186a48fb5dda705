-- The heads that the code reads, without where they lie in memory.
-- Manual: nothing; this is (own).
use Rattle.std.specs.Prelude.{ℕ, List, Option, Vec, map, option_map}
use Rattle.occ_tree_grammar.specs.declared.tree.line.Action.{Action as ActionTree}
use Rattle.occ_tree_grammar.specs.declared.tree.line.Action.TheVariants as actions
use Rattle.occ_tree_grammar.specs.declared.tree.line.Guard.{Guard as GuardTree}
use Rattle.occ_tree_grammar.specs.declared.tree.line.Guard.TheVariants as guards
use Rattle.occ_tree_grammar.specs.declared.lines.head.ProcessHead.{ProcessHead as ProcessHeadTree}
use Rattle.occ_tree_grammar.specs.declared.lines.head.ProcessHead.TheVariants as processes
use Rattle.occ_tree_grammar.specs.declared.lines.head.ChoiceHead.{ChoiceHead as ChoiceHeadTree}
use Rattle.occ_tree_grammar.specs.declared.lines.head.ChoiceHead.TheVariants as choices
use Rattle.occ_tree_grammar.specs.declared.lines.head.OptionHead.{OptionHead as OptionHeadTree}
use Rattle.occ_tree_grammar.specs.declared.lines.head.OptionHead.TheVariants as options
use Rattle.occ_tree_grammar.specs.declared.lines.head.ArmHead.{ArmHead as ArmHeadTree}
use Rattle.occ_tree_grammar.specs.declared.lines.head.ArmHead.TheVariants as arms
use Rattle.occ_tree_grammar.specs.declared.lines.head.VariantHead.{VariantHead as VariantHeadTree}
use Rattle.occ_tree_grammar.specs.declared.lines.head.DeclHead.{DeclHead as DeclHeadTree}
use Rattle.occ_tree_grammar.specs.declared.lines.head.DeclHead.TheVariants as declarations
use Rattle.occ_tree_grammar.specs.declared.lines.head.TagHead.{TagHead as TagHeadTree}
use Rattle.occ_tree_grammar.specs.declared.tree.expr.Expr.{Expr}
use Rattle.occ_tree_grammar.specs.declared.tree.line.OneOrMore.{OneOrMore}
use Rattle.occ_tree_grammar.specs.declared.tree.line.Part.{Part as PartTree}
use Rattle.occ_tree_grammar.specs.declared.tree.line.Sort.{Sort as SortTree}
use Rattle.occ_tree_grammar.specs.declared.tree.line.ValueType.{ValueType as ValueTypeTree}
use Rattle.occ_tree_grammar.specs.Expressions.Trees.{expression_of, listed_expressions}
use Rattle.occ_tree_grammar.specs.Lines.Views.{var_of, target_of, out_of, input_of, optional_replicator_of, part_of, sort_of, value_type_of, formals_of, actuals_of}
use Rattle.occ_tree_grammar.specs.Lines.Heads.{Action, skip, stop, assign, input, output, call, ProcessHead, act, input_variants, sequence, parallel, alternation, conditional, selection, loop, ChoiceHead, chosen, nested_conditional, OptionHead, values, otherwise, Guard, on_input, on_skip, ArmHead, guarded, guarded_variants, nested_alternation, VariantHead, tag, DeclHead, names, value, parts, tags, procedure, TagHead, tag_parts}

abbrev pub action_of : ActionTree → Action
action_of actions.Skip = skip
action_of actions.Stop = stop
action_of (actions.Assign vs es) = assign (var_of vs.first) (map var_of vs.others.items) (expression_of es.first) (map expression_of es.others.items)
action_of (actions.Input i) = input (input_of i)
action_of (actions.Output v os) = output (var_of v) (out_of os.first) (map out_of os.others.items)
action_of (actions.Call v es) = call v (actuals_of es)

abbrev pub process_head_of : ProcessHeadTree → ProcessHead
process_head_of (processes.Action a) = act (action_of a.value)
process_head_of (processes.Variants v) = input_variants (var_of v)
process_head_of (processes.Seq r) = sequence (optional_replicator_of r)
process_head_of (processes.Par r) = parallel (optional_replicator_of r)
process_head_of (processes.Alt pri r) = alternation pri (optional_replicator_of r)
process_head_of (processes.If r) = conditional (optional_replicator_of r)
process_head_of (processes.Case e) = selection (expression_of e.value)
process_head_of (processes.While e) = loop (expression_of e.value)

abbrev pub choice_head_of : ChoiceHeadTree → ChoiceHead
choice_head_of (choices.When e) = chosen (expression_of e.value)
choice_head_of (choices.If r) = nested_conditional (optional_replicator_of r)

-- values from which one is chosen
abbrev pub values_head : OneOrMore Expr → OptionHead
values_head es = values (expression_of es.first) (map expression_of es.others.items)

abbrev pub option_head_of : OptionHeadTree → OptionHead
option_head_of (options.Values es) = values_head es.value
option_head_of options.Else = otherwise

abbrev pub guard_of : GuardTree → Guard
guard_of (guards.Input e i) = on_input (option_map expression_of e) (input_of i)
guard_of (guards.Skip e) = on_skip (expression_of e)

abbrev pub arm_head_of : ArmHeadTree → ArmHead
arm_head_of (arms.Guarded g) = guarded (guard_of g.value)
arm_head_of (arms.Variants g) = guarded_variants (option_map expression_of g.value.condition) (var_of g.value.channel)
arm_head_of (arms.Alt pri r) = nested_alternation pri (optional_replicator_of r)

abbrev pub variant_head_of : VariantHeadTree → VariantHead
variant_head_of h = tag h.tag (map target_of h.targets.items)

-- names, by the sizes and by what they are declared as
abbrev pub names_head : {A : Type 0} → Vec Expr A → SortTree → OneOrMore (List ℕ) → DeclHead
names_head es t vs = names (listed_expressions es) (sort_of t) vs.first vs.others.items

-- a named value, with its type where that is given
abbrev pub value_head : Option ValueTypeTree → List ℕ → Expr → DeclHead
value_head t v e = value (option_map value_type_of t) v (expression_of e)

-- a protocol of these parts
abbrev pub parts_head : List ℕ → OneOrMore PartTree → DeclHead
parts_head v ps = parts v (part_of ps.first) (map part_of ps.others.items)

abbrev pub decl_head_of : DeclHeadTree → DeclHead
decl_head_of (declarations.Names es t vs) = names_head es t.value vs
decl_head_of (declarations.Value t v e) = value_head t v e.value
decl_head_of (declarations.Parts v ps) = parts_head v ps.value
decl_head_of (declarations.Tags v) = tags v
decl_head_of (declarations.Proc v fs) = procedure v (formals_of fs)

abbrev pub tag_head_of : TagHeadTree → TagHead
tag_head_of h = tag_parts h.tag (map part_of h.parts.items)
