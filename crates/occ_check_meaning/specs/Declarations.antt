-- Declarations: what their names stand for, and the Clears and Locals that they put before what follows them.
-- Manual: scope; abbreviations; variables and values. That a value which is constant without a fault, or a string, stands as its
-- value, and that any other is evaluated once into cells of its own: (own).
use Rattle.std.specs.Prelude.{Bool, List, None, Option, Some, [], length, ℕ, ℤ, ◌&&◌, ◌++◌, ◌∷◌}
use Rattle.occ_tree_grammar.specs.Many.{◌>>=◌}
use Rattle.occ_tree_grammar.specs.Expressions.Trees.{Expression, Expressions}
use Rattle.occ_tree_grammar.specs.Lines.Trees as L
use Rattle.occ_tree_grammar.specs.Processes.Trees as P
use Rattle.occ_term.specs.declared.primitive.Primitive.{Primitive}
use Rattle.occ_term.specs.declared.primitive.Primitive.TheVariants.{Int}
use Rattle.occ_term.specs.Messages.{product}
use Rattle.occ_term.specs.Terms as T
use Rattle.occ_term.specs.Terms.{Array, Cells, Text, Item, OfOne, OfMany, Declaration, Clearing, Naming, Replicator, replicator}
use Rattle.occ_term.specs.Sizes.{no_size, size_of_declaration, size_of_replicator}
use Rattle.occ_check_meaning.specs.Scope.{keep, stretch_from, assignable, kept, Carried, Known, a_value, a_string, some_cells, some_channels, a_protocol, Name, Names, Pairs, once}
use Rattle.occ_check_meaning.specs.Numbers.{Numbers, more_cells, more_channels, more_protocols, room}
use Rattle.occ_check_meaning.specs.Constants.{constant, a_count}
use Rattle.occ_check_meaning.specs.Operators.{primitive_of, is_same_type}
use Rattle.occ_check_meaning.specs.Expressions.{Typed, single, whole, typed, typed_as, constant_as}
use Rattle.occ_check_meaning.specs.Types.{sizes_of, Open, open_sizes_of, takes_sizes, carried_of, protocol_of, protocol_name, named_protocol}

-- what names stand for, the Clears and Locals that are set for them, in order, and the numbers then
pub record Opened : Type 0 where
  pub names : Pairs
  pub heads : List Declaration
  pub numbers : Numbers

abbrev pub opened : Pairs → List Declaration → Numbers → Opened
opened names heads n = record { names = names; heads = heads; numbers = n }

abbrev pub one_name : Name → Known → List Declaration → Numbers → Opened
one_name x k heads n = opened ((x, k) ∷ []) heads n

-- the second after the first
abbrev pub with_others : Opened → Opened → Opened
with_others a b = opened (a.names ++ b.names) (a.heads ++ b.heads) b.numbers

-- ---- variables and channels; the depth is that at which their Clears stand

abbrev pub variable_declared : ℕ → Primitive → List ℕ → Name → Numbers → Option Opened
variable_declared depth type sizes x n = do
  m ← more_cells type x sizes n
  o ← room depth (size_of_declaration (Clearing (length n.cells) (product sizes))) m
  Some (one_name x (some_cells assignable type (stretch_from (length n.cells) sizes)) (Clearing (length n.cells) (product sizes) ∷ []) o)

abbrev pub channel_declared : Carried → List ℕ → Name → Numbers → Option Opened
channel_declared c sizes x n = more_channels c.protocol x sizes n >>= λ m.
    Some (one_name x (some_channels c (stretch_from (length n.channels) sizes)) [] m)

-- each name in turn
unfoldable pub each_declared : (Name → Numbers → Option Opened) → List Name → Numbers → Option Opened
each_declared declare [] n = Some (opened [] [] n)
each_declared declare (x ∷ xs) n = do
  a ← declare x n
  b ← each_declared declare xs a.numbers
  Some (with_others a b)

-- (refusal: a name twice)
abbrev pub names_declared : Names → ℕ → ℕ → Expressions → L.Sort → List Name → Numbers → Option Opened
names_declared ns line depth es (L.of_data type) xs n = do
  sizes ← sizes_of ns line es
  ys ← once xs
  each_declared (variable_declared depth (primitive_of type) sizes) ys n
names_declared ns line depth es (L.of_channel c) xs n = do
  sizes ← sizes_of ns line es
  carried ← carried_of ns line c
  ys ← once xs
  each_declared (channel_declared carried sizes) ys n

-- ---- named values, and VAL formals

abbrev pub local_of : Name → ℕ → Primitive → List ℕ → Item → Numbers → Option Opened
local_of x depth type sizes value n = do
  m ← more_cells type x sizes n
  o ← room depth (size_of_declaration (Naming (length n.cells) value)) m
  Some (one_name x (some_cells kept type (stretch_from (length n.cells) sizes)) (Naming (length n.cells) value ∷ []) o)

abbrev pub value_named : Name → ℕ → Primitive → T.Expression → Option ℤ → Numbers → Option Opened
value_named x depth type e (Some v) n = Some (one_name x (a_value type v) [] n)
value_named x depth type e None n = local_of x depth type [] (OfOne type e) n

abbrev pub array_named : Name → ℕ → Primitive → List ℕ → Array → Numbers → Option Opened
array_named x depth type sizes (Text bytes) n = Some (one_name x (a_string bytes) [] n)
array_named x depth type sizes (Cells p) n = local_of x depth type sizes (OfMany type (Cells p)) n

abbrev pub named : Name → ℕ → Typed → Numbers → Option Opened
named x depth (single type e) n = value_named x depth type e (constant e) n
named x depth (whole type sizes a) n = array_named x depth type sizes a n

-- whether a value or an array has this type and sizes
abbrev pub has_type : Open → Primitive → Typed → Bool
has_type open_sizes type (single t e) = is_same_type t type && takes_sizes open_sizes []
has_type open_sizes type (whole t sizes a) = is_same_type t type && takes_sizes open_sizes sizes

-- (refusal: wrong type) a named value's type, where it is given
abbrev pub of_value_type : Names → ℕ → Option L.ValueType → Typed → Option Typed
of_value_type ns line None x = Some x
of_value_type ns line (Some (L.value_type sizes type)) x = open_sizes_of ns line sizes >>= λ o. keep (has_type o (primitive_of type) x) x

abbrev pub value_declared : Names → ℕ → ℕ → Option L.ValueType → Name → Expression → Numbers → Option Opened
value_declared ns line depth type x e n = do
  v ← typed ns line e
  w ← of_value_type ns line type v
  named x depth w n

-- ---- protocols

abbrev pub protocol_declared : Names → P.Protocol → Numbers → Option Opened
protocol_declared ns p n = protocol_of ns p >>= λ q.
    Some (one_name (protocol_name p) (a_protocol (named_protocol n.protocols q)) [] (more_protocols n))

-- ---- replicators

abbrev pub index_name : L.Replicator → Name
index_name (L.each x base count) = x

-- a replicator with its index, which has a cell of its own
pub record Indexed : Type 0 where
  pub replicator : Replicator
  pub names : Pairs
  pub numbers : Numbers

-- the index of a SEQ, an IF or an ALT; the depth is that at which the replicator stands
abbrev pub indexed : Names → ℕ → ℕ → L.Replicator → Numbers → Option Indexed
indexed ns line depth (L.each x base count) n = do
  b ← typed_as ns line Int base
  c ← typed_as ns line Int count
  m ← more_cells Int x [] n
  o ← room depth (size_of_replicator (replicator line (length n.cells) b c) no_size) m
  Some (record { replicator = replicator line (length n.cells) b c; names = (x, some_cells kept Int (stretch_from (length n.cells) [])) ∷ []; numbers = o })

-- The base of a replicated PAR, and how many copies it has (refusals: wrong type; not constant; bad count).
abbrev pub copies_of : Names → ℕ → L.Replicator → Option (ℤ × ℕ)
copies_of ns line (L.each x base count) = do
  b ← constant_as ns line Int base
  c ← constant_as ns line Int count
  k ← a_count b c
  Some (b, k)

-- in a copy the index is a constant
abbrev pub index_of : L.Replicator → ℤ → Pairs
index_of r i = (index_name r, a_value Int i) ∷ []
