-- Calls: what the formals want, and what they stand for under the actuals.
-- Manual: procedures. That a name means its place, that subscripts of actuals are evaluated once, from left to right, and that no two
-- reference actuals share a cell: (own).
use Rattle.std.specs.Prelude.{Bool, List, None, Option, Some, [], false, length, nat_eq, not, ℕ, ℤ, ◌&&◌, ◌++◌, ◌||◌, ◌∷◌}
use Rattle.occ_tree_grammar.specs.Many.{◌>>=◌}
use Rattle.occ_tree_grammar.specs.Expressions.Trees.{Expression, alone, variable, Expressions}
use Rattle.occ_tree_grammar.specs.Lines.Trees as L
use Rattle.occ_term.specs.declared.primitive.Primitive.{Primitive}
use Rattle.occ_term.specs.declared.primitive.Primitive.TheVariants.{Int}
use Rattle.occ_term.specs.declared.protocol.Protocol.{Protocol}
use Rattle.occ_term.specs.declared.protocol.Protocol.TheVariants.{Simple, CountedArray}
use Rattle.occ_term.specs.Terms as T
use Rattle.occ_term.specs.Terms.{Constant, Cell, Subscripts, no_subscripts, then_subscript, OfOne, Declaration, Naming}
use Rattle.occ_term.specs.Sizes.{size_of_declaration}
use Rattle.occ_term.specs.Values.{Span}
use Rattle.occ_check_meaning.specs.Scope.{keep, Stretch, assignable, kept, Carried, a_value, a_string, some_cells, some_channels, a_protocol, Name, Names, Pairs, are_once}
use Rattle.occ_check_meaning.specs.Numbers.{Numbers, more_cells, room}
use Rattle.occ_check_meaning.specs.Constants.{constant, is_within}
use Rattle.occ_check_meaning.specs.Operators.{primitive_of, is_same_type}
use Rattle.occ_check_meaning.specs.Expressions.{typed, typed_subscripts, joined}
use Rattle.occ_check_meaning.specs.Types.{are_same_sizes, Open, open_sizes_of, takes_sizes, carried_of}
use Rattle.occ_check_meaning.specs.Items.{as_variable, as_channels, part_span, have_common}
use Rattle.occ_check_meaning.specs.Declarations.{Opened, opened, one_name, with_others, has_type, named}

-- ---- formals

-- what a formal wants: a value, a variable or channels
pub data Wanted : Type 0 where
  wants_value : Open → Primitive → Wanted
  wants_variable : Open → Primitive → Wanted
  wants_channels : Open → Carried → Wanted

abbrev pub wanted : Names → ℕ → L.Spec → Option Wanted
wanted ns line (L.by_value (L.value_type sizes type)) = open_sizes_of ns line sizes >>= λ o. Some (wants_value o (primitive_of type))
wanted ns line (L.by_reference (L.value_type sizes type)) = open_sizes_of ns line sizes >>= λ o. Some (wants_variable o (primitive_of type))
wanted ns line (L.by_channel sizes c) = do
  o ← open_sizes_of ns line sizes
  d ← carried_of ns line c
  Some (wants_channels o d)

-- a formal without a spec has that of the formal before it
abbrev pub spec_after : L.Spec → Option L.Spec → L.Spec
spec_after before None = before
spec_after before (Some s) = s

unfoldable pub other_formals : Names → ℕ → L.Spec → List L.Formal → Option (List (Name × Wanted))
other_formals ns line before [] = Some []
other_formals ns line before (L.formal s x ∷ fs) = do
  w ← wanted ns line (spec_after before s)
  others ← other_formals ns line (spec_after before s) fs
  Some ((x, w) ∷ others)

abbrev pub formal_names : List (Name × Wanted) → List Name
formal_names [] = []
formal_names (f ∷ fs) = f.0 ∷ formal_names fs

-- (refusal: a name twice) The formals, under the names in the scope of the PROC's declaration. They are looked at where the PROC is called.
abbrev pub formals_of : Names → ℕ → L.Formals → Option (List (Name × Wanted))
formals_of ns line L.no_formals = Some []
formals_of ns line (L.formals s x fs) = do
  w ← wanted ns line s
  others ← other_formals ns line s fs
  keep (are_once (formal_names ((x, w) ∷ others))) ((x, w) ∷ others)

-- ---- actuals

abbrev pub actual_list : L.Actuals → List Expression
actual_list L.no_actuals = []
actual_list (L.actuals e es) = e ∷ es

-- (refusal: arguments) the actual of a formal that is no value is a name, with its subscripts
abbrev pub as_named : Expression → Option (Name × Expressions)
as_named (alone (variable x es)) = Some (x, es)
as_named e = None

-- subscripts that are evaluated, the sizes that they leave, the Locals that hold them, and the numbers then
pub record Evaluated : Type 0 where
  pub subscripts : Subscripts
  pub left : List ℕ
  pub heads : List Declaration
  pub numbers : Numbers

abbrev pub evaluated : Subscripts → List ℕ → List Declaration → Numbers → Evaluated
evaluated subs left heads n = record { subscripts = subs; left = left; heads = heads; numbers = n }

-- (refusal: subscript) A constant one stands as its value. Any other is evaluated into a cell, and compared with its size at each use.
abbrev pub one_evaluated : Name → ℕ → ℕ → T.Expression → Option ℤ → Numbers → Option Evaluated
one_evaluated x depth size e (Some v) n = keep (is_within (Some v) size) (evaluated (then_subscript (Constant v) no_subscripts) [] [] n)
one_evaluated x depth size e None n = do
  m ← more_cells Int x [] n
  o ← room depth (size_of_declaration (Naming (length n.cells) (OfOne Int e))) m
  Some (evaluated (then_subscript (Cell (length n.cells)) no_subscripts) [] (Naming (length n.cells) (OfOne Int e) ∷ []) o)

-- (refusal: wrong type, where there are more subscripts than sizes) from left to right
unfoldable pub all_evaluated : Name → ℕ → Subscripts → List ℕ → Numbers → Option Evaluated
all_evaluated x depth no_subscripts sizes n = Some (evaluated no_subscripts sizes [] n)
all_evaluated x depth (then_subscript e es) [] n = None
all_evaluated x depth (then_subscript e es) (size ∷ sizes) n = do
  a ← one_evaluated x depth size e (constant e) n
  b ← all_evaluated x depth es sizes a.numbers
  Some (evaluated (joined a.subscripts b.subscripts) b.left (a.heads ++ b.heads) b.numbers)

abbrev pub part_of : Stretch → Evaluated → Stretch
part_of r e = record r { subscripts = joined r.subscripts e.subscripts; left = e.left }

-- unnamed protocols are compared by their part
abbrev pub is_same_protocol : Protocol → Protocol → Bool
is_same_protocol (Simple sizes type) (Simple others t) = is_same_type t type && are_same_sizes others sizes
is_same_protocol (CountedArray count type) (CountedArray c t) = is_same_type c count && is_same_type t type
is_same_protocol p q = false

-- and a named one is only itself
abbrev pub is_same_declared : Option ℕ → Option ℕ → Protocol → Protocol → Bool
is_same_declared None None p q = is_same_protocol p q
is_same_declared (Some m) (Some n) p q = nat_eq m n
is_same_declared None (Some n) p q = false
is_same_declared (Some m) None p q = false

abbrev pub is_same_carried : Carried → Carried → Bool
is_same_carried a b = is_same_declared a.declared b.declared a.protocol b.protocol

-- what one formal stands for; the depth is that at which its Locals stand
abbrev pub actual_of : Names → ℕ → ℕ → Name → Wanted → Expression → Numbers → Option Opened
actual_of ns line depth x (wants_value sizes type) e n = do
  v ← typed ns line e
  w ← keep (has_type sizes type v) v
  named x depth w n
actual_of ns line depth x (wants_variable sizes type) e n = do
  v ← as_named e
  k ← ns v.0
  r ← as_variable k
  subs ← typed_subscripts ns line v.1
  a ← all_evaluated x depth subs r.1.left n
  keep (is_same_type r.0 type && takes_sizes sizes a.left) (one_name x (some_cells assignable r.0 (part_of r.1 a)) a.heads a.numbers)
actual_of ns line depth x (wants_channels sizes c) e n = do
  v ← as_named e
  k ← ns v.0
  r ← as_channels k
  subs ← typed_subscripts ns line v.1
  a ← all_evaluated x depth subs r.1.left n
  keep (is_same_carried c r.0 && takes_sizes sizes a.left) (one_name x (some_channels r.0 (part_of r.1 a)) a.heads a.numbers)

-- (refusal: arguments) as many actuals as formals, from left to right
unfoldable pub all_actuals : Names → ℕ → ℕ → List (Name × Wanted) → List Expression → Numbers → Option Opened
all_actuals ns line depth [] [] n = Some (opened [] [] n)
all_actuals ns line depth [] (e ∷ es) n = None
all_actuals ns line depth (f ∷ fs) [] n = None
all_actuals ns line depth (f ∷ fs) (e ∷ es) n = do
  a ← actual_of ns line depth f.0 f.1 e n
  b ← all_actuals ns line depth fs es a.numbers
  Some (with_others a b)

-- ---- no two reference actuals share a cell; a subscript that is not constant counts the whole array

abbrev pub reference_spans : Pairs → List Span
reference_spans [] = []
reference_spans ((x, some_cells assignable type r) ∷ bs) = part_span r ∷ reference_spans bs
reference_spans ((x, some_cells kept type r) ∷ bs) = reference_spans bs
reference_spans ((x, a_value type v) ∷ bs) = reference_spans bs
reference_spans ((x, a_string bytes) ∷ bs) = reference_spans bs
reference_spans ((x, some_channels c r) ∷ bs) = reference_spans bs
reference_spans ((x, a_protocol c) ∷ bs) = reference_spans bs

abbrev pub meets_one : Span → List Span → Bool
meets_one a [] = false
meets_one a (b ∷ bs) = have_common a b || meets_one a bs

abbrev pub some_meet : List Span → Bool
some_meet [] = false
some_meet (a ∷ rest) = meets_one a rest || some_meet rest

-- (refusal: overlap)
abbrev pub bound : Names → ℕ → ℕ → List (Name × Wanted) → L.Actuals → Numbers → Option Opened
bound ns line depth fs es n = all_actuals ns line depth fs (actual_list es) n >>= λ b. keep (not (some_meet (reference_spans b.names))) b
