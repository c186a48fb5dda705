-- The values of the code that stand in one line, without where they lie in memory.
-- Manual: nothing; this is (own).
use Rattle.std.specs.Prelude.{map, Option, Some, None, option_map}
use Rattle.std.specs.Global.{Global}
use Rattle.std.specs.declared.boxed.Box.{Box}
use Rattle.occ_tree_grammar.specs.declared.tree.line.Var.{Var as VarTree}
use Rattle.occ_tree_grammar.specs.declared.tree.line.Target.{Target as TargetTree}
use Rattle.occ_tree_grammar.specs.declared.tree.line.Target.TheVariants as targets
use Rattle.occ_tree_grammar.specs.declared.tree.line.Out.{Out as OutTree}
use Rattle.occ_tree_grammar.specs.declared.tree.line.Out.TheVariants as outs
use Rattle.occ_tree_grammar.specs.declared.tree.line.Input.{Input as InputTree}
use Rattle.occ_tree_grammar.specs.declared.tree.line.Input.TheVariants as inputs
use Rattle.occ_tree_grammar.specs.declared.tree.line.Replicator.{Replicator as ReplicatorTree}
use Rattle.occ_tree_grammar.specs.declared.tree.line.Part.{Part as PartTree}
use Rattle.occ_tree_grammar.specs.declared.tree.line.Part.TheVariants as parts
use Rattle.occ_tree_grammar.specs.declared.tree.line.Carried.{Carried as CarriedTree}
use Rattle.occ_tree_grammar.specs.declared.tree.line.Carried.TheVariants as carrieds
use Rattle.occ_tree_grammar.specs.declared.tree.line.Sort.{Sort as SortTree}
use Rattle.occ_tree_grammar.specs.declared.tree.line.Sort.TheVariants as sorts
use Rattle.occ_tree_grammar.specs.declared.tree.line.Size.{Size as SizeTree}
use Rattle.occ_tree_grammar.specs.declared.tree.line.Size.TheVariants as sizes
use Rattle.occ_tree_grammar.specs.declared.tree.line.ValueType.{ValueType as ValueTypeTree}
use Rattle.occ_tree_grammar.specs.declared.tree.line.Spec.{Spec as SpecTree}
use Rattle.occ_tree_grammar.specs.declared.tree.line.Spec.TheVariants as specs
use Rattle.occ_tree_grammar.specs.declared.tree.line.Formal.{Formal as FormalTree}
use Rattle.occ_tree_grammar.specs.declared.tree.line.Formals.{Formals as FormalsTree}
use Rattle.occ_tree_grammar.specs.declared.tree.line.OneOrMore.{OneOrMore}
use Rattle.occ_tree_grammar.specs.declared.lines.head.Received.{Received as ReceivedTree}
use Rattle.occ_tree_grammar.specs.declared.lines.head.Received.TheVariants as receiveds
use Rattle.occ_tree_grammar.specs.declared.tree.expr.Expr.{Expr}
use Rattle.occ_tree_grammar.specs.Expressions.Trees.{expression_of, expressions}
use Rattle.occ_tree_grammar.specs.Lines.Trees.{Var, var, Target, into, into_counted, Out, from, from_counted, Input, items, tagged, Received, in_line, by_variant, Replicator, each, Part, single, counted, Carried, carries, follows, Sort, of_data, of_channel, Size, open_size, given, ValueType, value_type, Spec, by_value, by_reference, by_channel, Formal, formal, Formals, no_formals, formals, Actuals, no_actuals, actuals}

abbrev pub var_of : VarTree → Var
var_of v = var v.name (expressions (map expression_of v.subscripts.items))

abbrev pub target_of : TargetTree → Target
target_of (targets.Whole v) = into (var_of v)
target_of (targets.Counted v w) = into_counted (var_of v) (var_of w)

abbrev pub out_of : OutTree → Out
out_of (outs.Whole e) = from (expression_of e)
out_of (outs.Counted e f) = from_counted (expression_of e) (expression_of f)

abbrev pub input_of : InputTree → Input
input_of (inputs.Items v ts) = items (var_of v) (target_of ts.first) (map target_of ts.others.items)
input_of (inputs.Tagged v t ts) = tagged (var_of v) t (map target_of ts.items)

abbrev pub replicator_of : ReplicatorTree → Replicator
replicator_of r = each r.name (expression_of r.base) (expression_of r.count)

abbrev pub optional_replicator_of : Option (Box ReplicatorTree Global) → Option Replicator
optional_replicator_of r = option_map (λ b. replicator_of b.value) r

abbrev pub part_of : PartTree → Part
part_of (parts.Single es p) = single (expressions (map expression_of es.items)) p
part_of (parts.Counted p q) = counted p q

abbrev pub carried_of : CarriedTree → Carried
carried_of (carrieds.Part p) = carries (part_of p)
carried_of (carrieds.Named v) = follows v

abbrev pub sort_of : SortTree → Sort
sort_of (sorts.Data p) = of_data p
sort_of (sorts.Channel c) = of_channel (carried_of c)

abbrev pub size_of : SizeTree → Size
size_of sizes.Open = open_size
size_of (sizes.Given e) = given (expression_of e)

abbrev pub value_type_of : ValueTypeTree → ValueType
value_type_of t = value_type (map size_of t.sizes.items) t.of

abbrev pub spec_of : SpecTree → Spec
spec_of (specs.Value t) = by_value (value_type_of t)
spec_of (specs.Variable t) = by_reference (value_type_of t)
spec_of (specs.Channel ds c) = by_channel (map size_of ds.items) (carried_of c)

abbrev pub formal_of : FormalTree → Formal
formal_of f = formal (option_map spec_of f.spec) f.name

abbrev pub some_formals_of : FormalsTree → Formals
some_formals_of f = formals (spec_of f.spec) f.name (map formal_of f.others.items)

abbrev pub formals_of : Option (Box FormalsTree Global) → Formals
formals_of None = no_formals
formals_of (Some f) = some_formals_of f.value

abbrev pub actuals_of : Option (OneOrMore Expr) → Actuals
actuals_of None = no_actuals
actuals_of (Some es) = actuals (expression_of es.first) (map expression_of es.others.items)

abbrev pub received_of : ReceivedTree → Received
received_of (receiveds.Input i) = in_line (input_of i)
received_of (receiveds.Variants v) = by_variant (var_of v)
