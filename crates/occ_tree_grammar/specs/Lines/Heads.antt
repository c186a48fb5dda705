-- The lines at the head of processes and of their parts: what they say, their written form and their bounds.
-- Manual: primitive and combining processes; declarations. The bounds are (own).
use Rattle.std.specs.Prelude.{ℕ, List, [], ◌∷◌, ◌++◌, Bool, true, false, Option, Some, None}
use Rattle.occ_text.specs.declared.token.Key.TheVariants as k
use Rattle.occ_text.specs.declared.token.Sym.TheVariants as s
use Rattle.occ_text.specs.Words.{Word, key, name, mark}
use Rattle.occ_tree_grammar.specs.declared.lines.separator.Separator.TheVariants as separators
use Rattle.occ_tree_grammar.specs.Lists.{Each}
use Rattle.occ_tree_grammar.specs.Expressions.Trees.{Expression, Expressions}
use Rattle.occ_tree_grammar.specs.Expressions.Shown.{show_expression, show_indices}
use Rattle.occ_tree_grammar.specs.Lines.Trees.{Var, Target, Out, Input, by_variant, Replicator, Part, Sort, ValueType, Formals, Actuals}
use Rattle.occ_tree_grammar.specs.Lines.Shown.{show_listed, show_name, show_var, show_target, show_out, show_input, show_received, show_replicator, show_part, show_sort, show_value_type, show_formals, show_actuals}
use Rattle.occ_tree_grammar.specs.Lines.Fits.{FitsExpression, FitsVar, FitsSizes, FitsTarget, FitsOut, FitsInput, FitsReplicator, FitsPart, FitsSort, FitsValueType, FitsFormals, FitsActuals}

-- ---- what the lines say

-- a process that stands in one line
pub data Action : Type 0 where
  skip : Action
  stop : Action
  assign : Var → List Var → Expression → List Expression → Action
  input : Input → Action
  output : Var → Out → List Out → Action
  call : List ℕ → Actuals → Action

pub data ProcessHead : Type 0 where
  act : Action → ProcessHead
  input_variants : Var → ProcessHead
  sequence : Option Replicator → ProcessHead
  parallel : Option Replicator → ProcessHead
  -- by priority, where the truth value says so
  alternation : Bool → Option Replicator → ProcessHead
  conditional : Option Replicator → ProcessHead
  selection : Expression → ProcessHead
  loop : Expression → ProcessHead

pub data ChoiceHead : Type 0 where
  chosen : Expression → ChoiceHead
  nested_conditional : Option Replicator → ChoiceHead

pub data OptionHead : Type 0 where
  values : Expression → List Expression → OptionHead
  otherwise : OptionHead

-- a guard that stands in one line, with its Boolean where there is one
pub data Guard : Type 0 where
  on_input : Option Expression → Input → Guard
  on_skip : Expression → Guard

pub data ArmHead : Type 0 where
  guarded : Guard → ArmHead
  guarded_variants : Option Expression → Var → ArmHead
  nested_alternation : Bool → Option Replicator → ArmHead

pub data VariantHead : Type 0 where
  tag : List ℕ → List Target → VariantHead

pub data DeclHead : Type 0 where
  names : Expressions → Sort → List ℕ → List (List ℕ) → DeclHead
  value : Option ValueType → List ℕ → Expression → DeclHead
  parts : List ℕ → Part → List Part → DeclHead
  tags : List ℕ → DeclHead
  procedure : List ℕ → Formals → DeclHead

-- a line of a protocol of variants
pub data TagHead : Type 0 where
  tag_parts : List ℕ → List Part → TagHead

-- ---- their written form

abbrev pub show_alternation : Bool → Option Replicator → List Word
show_alternation true r = key k.Pri ∷ key k.Alt ∷ show_replicator r
show_alternation false r = key k.Alt ∷ show_replicator r

abbrev pub show_action : Action → List Word
show_action skip = key k.Skip ∷ []
show_action stop = key k.Stop ∷ []
show_action (assign v vs e es) = show_var v ++ (show_listed separators.Comma show_var vs ++ (mark s.Assign ∷ show_expression e ++ show_listed separators.Comma show_expression es))
show_action (input i) = show_input i
show_action (output v o os) = show_var v ++ (mark s.Exclamation ∷ show_out o ++ show_listed separators.Semicolon show_out os)
show_action (call v es) = name v ∷ mark s.OpenParen ∷ show_actuals es

abbrev pub show_process_head : ProcessHead → List Word
show_process_head (act a) = show_action a
show_process_head (input_variants v) = show_received (by_variant v)
show_process_head (sequence r) = key k.Seq ∷ show_replicator r
show_process_head (parallel r) = key k.Par ∷ show_replicator r
show_process_head (alternation pri r) = show_alternation pri r
show_process_head (conditional r) = key k.If ∷ show_replicator r
show_process_head (selection e) = key k.Case ∷ show_expression e
show_process_head (loop e) = key k.While ∷ show_expression e

abbrev pub show_choice_head : ChoiceHead → List Word
show_choice_head (chosen e) = show_expression e
show_choice_head (nested_conditional r) = key k.If ∷ show_replicator r

abbrev pub show_option_head : OptionHead → List Word
show_option_head (values e es) = show_expression e ++ show_listed separators.Comma show_expression es
show_option_head otherwise = key k.Else ∷ []

abbrev pub show_arm_head : ArmHead → List Word
show_arm_head (guarded (on_input None i)) = show_input i
show_arm_head (guarded (on_input (Some e) i)) = show_expression e ++ mark s.Ampersand ∷ show_input i
show_arm_head (guarded (on_skip e)) = show_expression e ++ mark s.Ampersand ∷ key k.Skip ∷ []
show_arm_head (guarded_variants None v) = show_received (by_variant v)
show_arm_head (guarded_variants (Some e) v) = show_expression e ++ mark s.Ampersand ∷ show_received (by_variant v)
show_arm_head (nested_alternation pri r) = show_alternation pri r

abbrev pub show_variant_head : VariantHead → List Word
show_variant_head (tag v ts) = name v ∷ show_listed separators.Semicolon show_target ts

abbrev pub show_value_kind : Option ValueType → List Word
show_value_kind None = []
show_value_kind (Some t) = show_value_type t

abbrev pub show_decl_head : DeclHead → List Word
show_decl_head (names es t v vs) = show_indices es ++ (show_sort t ++ (name v ∷ show_listed separators.Comma show_name vs ++ mark s.Colon ∷ []))
show_decl_head (value t v e) = key k.Val ∷ (show_value_kind t ++ (name v ∷ key k.Is ∷ show_expression e ++ mark s.Colon ∷ []))
show_decl_head (parts v p ps) = key k.Protocol ∷ name v ∷ key k.Is ∷ (show_part p ++ (show_listed separators.Semicolon show_part ps ++ mark s.Colon ∷ []))
show_decl_head (tags v) = key k.Protocol ∷ name v ∷ []
show_decl_head (procedure v fs) = key k.Proc ∷ name v ∷ mark s.OpenParen ∷ show_formals fs

abbrev pub show_tag_head : TagHead → List Word
show_tag_head (tag_parts v ps) = name v ∷ show_listed separators.Semicolon show_part ps

-- ---- their bounds

abbrev pub FitsAction : ℕ → Action → Type 0
FitsAction b skip = Unit {0}
FitsAction b stop = Unit {0}
FitsAction b (assign v vs e es) = FitsVar b v × Each (FitsVar b) vs × FitsExpression b e × Each (FitsExpression b) es
FitsAction b (input i) = FitsInput b i
FitsAction b (output v o os) = FitsVar b v × FitsOut b o × Each (FitsOut b) os
FitsAction b (call v es) = FitsActuals b es

abbrev pub FitsProcessHead : ℕ → ProcessHead → Type 0
FitsProcessHead b (act a) = FitsAction b a
FitsProcessHead b (input_variants v) = FitsVar b v
FitsProcessHead b (sequence r) = FitsReplicator b r
FitsProcessHead b (parallel r) = FitsReplicator b r
FitsProcessHead b (alternation pri r) = FitsReplicator b r
FitsProcessHead b (conditional r) = FitsReplicator b r
FitsProcessHead b (selection e) = FitsExpression b e
FitsProcessHead b (loop e) = FitsExpression b e

abbrev pub FitsChoiceHead : ℕ → ChoiceHead → Type 0
FitsChoiceHead b (chosen e) = FitsExpression b e
FitsChoiceHead b (nested_conditional r) = FitsReplicator b r

abbrev pub FitsOptionHead : ℕ → OptionHead → Type 0
FitsOptionHead b (values e es) = FitsExpression b e × Each (FitsExpression b) es
FitsOptionHead b otherwise = Unit {0}

abbrev pub FitsArmHead : ℕ → ArmHead → Type 0
FitsArmHead b (guarded (on_input None i)) = FitsInput b i
FitsArmHead b (guarded (on_input (Some e) i)) = FitsExpression b e × FitsInput b i
FitsArmHead b (guarded (on_skip e)) = FitsExpression b e
FitsArmHead b (guarded_variants None v) = FitsVar b v
FitsArmHead b (guarded_variants (Some e) v) = FitsExpression b e × FitsVar b v
FitsArmHead b (nested_alternation pri r) = FitsReplicator b r

abbrev pub FitsVariantHead : ℕ → VariantHead → Type 0
FitsVariantHead b (tag v ts) = Each (FitsTarget b) ts

abbrev pub FitsDeclHead : ℕ → DeclHead → Type 0
FitsDeclHead b (names es t v vs) = FitsSizes b es × FitsSort b t
FitsDeclHead b (value None v e) = FitsExpression b e
FitsDeclHead b (value (Some t) v e) = FitsValueType b t × FitsExpression b e
FitsDeclHead b (parts v p ps) = FitsPart b p × Each (FitsPart b) ps
FitsDeclHead b (tags v) = Unit {0}
FitsDeclHead b (procedure v fs) = FitsFormals b fs

abbrev pub FitsTagHead : ℕ → TagHead → Type 0
FitsTagHead b (tag_parts v ps) = Each (FitsPart b) ps
