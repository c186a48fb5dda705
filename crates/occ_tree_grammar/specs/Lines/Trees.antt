-- The trees of what stands in one line.
-- Manual: variables, channels and protocols; procedures.
use Rattle.std.specs.Prelude.{ℕ, List, Option}
use Rattle.occ_tree_grammar.specs.declared.tree.expr.Primitive.{Primitive}
use Rattle.occ_tree_grammar.specs.Expressions.Trees.{Expression, Expressions}

-- a variable or a channel, with its subscripts
pub data Var : Type 0 where
  var : List ℕ → Expressions → Var

-- where an input puts an item
pub data Target : Type 0 where
  into : Var → Target
  into_counted : Var → Var → Target

-- an item of an output
pub data Out : Type 0 where
  from : Expression → Out
  from_counted : Expression → Expression → Out

-- an input in one line: of items, or of a tag and what follows it
pub data Input : Type 0 where
  items : Var → Target → List Target → Input
  tagged : Var → List ℕ → List Target → Input

-- what follows the question mark: an input in one line, or variants in the lines below
pub data Received : Type 0 where
  in_line : Input → Received
  by_variant : Var → Received

-- name = base FOR count
pub data Replicator : Type 0 where
  each : List ℕ → (base count : Expression) → Replicator

-- a part of a message
pub data Part : Type 0 where
  single : Expressions → Primitive → Part
  counted : Primitive → Primitive → Part

-- what a channel carries
pub data Carried : Type 0 where
  carries : Part → Carried
  follows : List ℕ → Carried

-- what names are declared as
pub data Sort : Type 0 where
  of_data : Primitive → Sort
  of_channel : Carried → Sort

-- a size that may be left open
pub data Size : Type 0 where
  open_size : Size
  given : Expression → Size

pub data ValueType : Type 0 where
  value_type : List Size → Primitive → ValueType

-- what a formal stands for
pub data Spec : Type 0 where
  by_value : ValueType → Spec
  by_reference : ValueType → Spec
  by_channel : List Size → Carried → Spec

-- a formal that isn't the first, with its spec where it isn't that of the formal before it
pub data Formal : Type 0 where
  formal : Option Spec → List ℕ → Formal

pub data Formals : Type 0 where
  no_formals : Formals
  formals : Spec → List ℕ → List Formal → Formals

pub data Actuals : Type 0 where
  no_actuals : Actuals
  actuals : Expression → List Expression → Actuals
