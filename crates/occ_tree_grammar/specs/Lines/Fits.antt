-- What keeps to the bounds: fewer than b brackets open at one place, and no more sizes or subscripts than there may be.
-- Manual: nothing; this is (own).
use Rattle.std.specs.Prelude.{ℕ, ◌<◌, ◌≤◌, ◌-◌, List, length, Option, Some, None}
use Rattle.occ_tree_grammar.specs.Lists.{Each}
use Rattle.occ_tree_grammar.specs.Expressions.Trees.{Expression, Expressions}
use Rattle.occ_tree_grammar.specs.Expressions.Shown.{depth, depth_indices, dimensions, count_expressions, Narrow, NarrowExpressions}
use Rattle.occ_tree_grammar.specs.Lines.Trees.{Var, var, Target, into, into_counted, Out, from, from_counted, Input, items, tagged, Received, in_line, by_variant, Replicator, each, Part, single, counted, Carried, carries, follows, Sort, of_data, of_channel, Size, open_size, given, ValueType, value_type, Spec, by_value, by_reference, by_channel, Formal, formal, Formals, no_formals, formals, Actuals, no_actuals, actuals}

abbrev pub FitsExpression : ℕ → Expression → Type 0
FitsExpression b e = (depth e < b) × Narrow e

-- the bracket of a subscript counts
abbrev pub FitsVar : ℕ → Var → Type 0
FitsVar b (var v es) = (depth_indices es ≤ b - 1) × NarrowExpressions es × (count_expressions es ≤ dimensions)

-- the bracket of a size doesn't
abbrev pub FitsSizes : ℕ → Expressions → Type 0
FitsSizes b es = (depth_indices es ≤ b) × NarrowExpressions es × (count_expressions es ≤ dimensions)

abbrev pub FitsTarget : ℕ → Target → Type 0
FitsTarget b (into v) = FitsVar b v
FitsTarget b (into_counted v w) = FitsVar b v × FitsVar b w

abbrev pub FitsOut : ℕ → Out → Type 0
FitsOut b (from e) = FitsExpression b e
FitsOut b (from_counted e f) = FitsExpression b e × FitsExpression b f

abbrev pub FitsInput : ℕ → Input → Type 0
FitsInput b (items v t ts) = FitsVar b v × FitsTarget b t × Each (FitsTarget b) ts
FitsInput b (tagged v t ts) = FitsVar b v × Each (FitsTarget b) ts

abbrev pub FitsReceived : ℕ → Received → Type 0
FitsReceived b (in_line i) = FitsInput b i
FitsReceived b (by_variant v) = FitsVar b v

abbrev pub FitsReplicator : ℕ → Option Replicator → Type 0
FitsReplicator b None = Unit {0}
FitsReplicator b (Some (each v base count)) = FitsExpression b base × FitsExpression b count

abbrev pub FitsPart : ℕ → Part → Type 0
FitsPart b (single es p) = FitsSizes b es
FitsPart b (counted p q) = Unit {0}

abbrev pub FitsCarried : ℕ → Carried → Type 0
FitsCarried b (carries p) = FitsPart b p
FitsCarried b (follows v) = Unit {0}

abbrev pub FitsSort : ℕ → Sort → Type 0
FitsSort b (of_data p) = Unit {0}
FitsSort b (of_channel c) = FitsCarried b c

abbrev pub FitsSize : ℕ → Size → Type 0
FitsSize b open_size = Unit {0}
FitsSize b (given e) = FitsExpression b e

abbrev pub FitsAllSizes : ℕ → List Size → Type 0
FitsAllSizes b ds = Each (FitsSize b) ds × (length ds ≤ dimensions)

abbrev pub FitsValueType : ℕ → ValueType → Type 0
FitsValueType b (value_type ds p) = FitsAllSizes b ds

abbrev pub FitsSpec : ℕ → Spec → Type 0
FitsSpec b (by_value t) = FitsValueType b t
FitsSpec b (by_reference t) = FitsValueType b t
FitsSpec b (by_channel ds c) = FitsAllSizes b ds × FitsCarried b c

abbrev pub FitsFormal : ℕ → Formal → Type 0
FitsFormal b (formal None v) = Unit {0}
FitsFormal b (formal (Some t) v) = FitsSpec b t

abbrev pub FitsFormals : ℕ → Formals → Type 0
FitsFormals b no_formals = Unit {0}
FitsFormals b (formals t v fs) = FitsSpec b t × Each (FitsFormal b) fs

abbrev pub FitsActuals : ℕ → Actuals → Type 0
FitsActuals b no_actuals = Unit {0}
FitsActuals b (actuals e es) = FitsExpression b e × Each (FitsExpression b) es
