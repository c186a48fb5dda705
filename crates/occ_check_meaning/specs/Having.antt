-- What the names of a scope, and what is made under it, have of the types and protocols that are declared.
-- Manual: data types; scope. That a name means its place: (own).
use Rattle.std.specs.Prelude.{IsTrue, List, Option, Some, [], ℕ, ⊤, ◌∷◌, ◌≡◌}
use Rattle.occ_term.specs.declared.primitive.Primitive.{Primitive}
use Rattle.occ_term.specs.declared.primitive.Primitive.TheVariants.{Byte, Int}
use Rattle.occ_term.specs.Messages.{is_of, product, AllOf}
use Rattle.occ_term.specs.Terms.{Subscripts, no_subscripts, then_subscript}
use Rattle.occ_term.specs.Values.{span}
use Rattle.occ_term.specs.Uses.{numbers_in}
use Rattle.occ_term.specs.Typing.{CellsHave, HasType, SubscriptsLeave, ArrayHas}
use Rattle.occ_term.specs.TermTyping.{Declared}
use Rattle.occ_check_meaning.specs.Scope.{Stretch, Carried, Known, a_value, a_string, some_cells, some_channels, a_protocol, Names}
use Rattle.occ_check_meaning.specs.Expressions.{Typed, single, whole}

-- each of the stretch's cells has the type, and its subscripts leave the sizes that it has
abbrev pub StretchHas : (ℕ → Option Primitive) → Primitive → Stretch → Type 0
StretchHas types type r = CellsHave types (span r.first (product r.sizes)) type × SubscriptsLeave types r.subscripts r.sizes r.left

-- each of the stretch's channels has the protocol
abbrev pub ChannelsHave : Declared → Carried → Stretch → Type 0
ChannelsHave d c r = ((k : ℕ) → IsTrue (numbers_in (span r.first (product r.sizes)) k) → d.protocols k ≡ Some c.protocol) × SubscriptsLeave d.types r.subscripts r.sizes r.left

abbrev pub KnownHas : Declared → Known → Type 0
KnownHas d (a_value type v) = IsTrue (is_of type v)
KnownHas d (a_string bytes) = AllOf Byte bytes
KnownHas d (some_cells access type r) = StretchHas d.types type r
KnownHas d (some_channels c r) = ChannelsHave d c r
KnownHas d (a_protocol c) = ⊤

abbrev pub NamesHave : Declared → Names → Type 0
NamesHave d ns = (x : List ℕ) (k : Known) → ns x ≡ Some k → KnownHas d k

-- a value's type, or an array's; an array has a size
abbrev pub TypedHas : (ℕ → Option Primitive) → Typed → Type 0
TypedHas types (single type e) = HasType types e type
TypedHas types (whole type [] a) = ⊥
TypedHas types (whole type (n ∷ ns) a) = ArrayHas types a type (n ∷ ns)

-- each subscript is an INT
abbrev pub SubscriptsHave : (ℕ → Option Primitive) → Subscripts → Type 0
SubscriptsHave types no_subscripts = ⊤
SubscriptsHave types (then_subscript e es) = HasType types e Int × SubscriptsHave types es
