-- Primitive types, faults, messages and protocols.
-- Manual: data types; channels and protocols. Values as whole numbers, and the fault kinds with their lines: (own).
use Rattle.std.specs.Prelude.{Bool, IsTrue, List, None, Option, Some, [], int_le, length, map, neg_ℤ, pos, slice_get, ℕ, ℤ, ⊤, ◌&&◌, ◌*◌, ◌∷◌, ◌≡◌}
pub use Rattle.occ_term.specs.declared.primitive.Primitive.{Primitive}
pub use Rattle.occ_term.specs.declared.primitive.Primitive.TheVariants.{Bool as Boolean, Byte, Int}
pub use Rattle.occ_term.specs.declared.fault.FaultKind.{FaultKind}
pub use Rattle.occ_term.specs.declared.fault.FaultKind.TheVariants.{Arith, Range, Convert, Shift, Count}
pub use Rattle.occ_term.specs.declared.fault.Fault.{Fault}
pub use Rattle.occ_term.specs.declared.message.Part.{Part}
pub use Rattle.occ_term.specs.declared.message.Part.TheVariants.{One, Many, Counted}
pub use Rattle.occ_term.specs.declared.message.Message.{Message}
pub use Rattle.occ_term.specs.declared.protocol.PartType.{PartType}
pub use Rattle.occ_term.specs.declared.protocol.PartType.TheVariants.{One as OneOf, Many as ManyOf, Counted as CountedOf}
pub use Rattle.occ_term.specs.declared.protocol.Tag.{Tag}
pub use Rattle.occ_term.specs.declared.protocol.Protocol.{Protocol}
pub use Rattle.occ_term.specs.declared.protocol.Protocol.TheVariants.{Simple, CountedArray, Sequential, Variant}

-- FALSE is 0 and TRUE is 1
abbrev pub least : Primitive → ℤ
least Boolean = pos 0
least Byte = pos 0
least Int = neg_ℤ (pos 2147483648)

abbrev pub greatest : Primitive → ℤ
greatest Boolean = pos 1
greatest Byte = pos 255
greatest Int = pos 2147483647

abbrev pub is_of : Primitive → ℤ → Bool
is_of type v = int_le (least type) v && int_le v (greatest type)

abbrev pub fault : FaultKind → ℕ → Fault
fault kind line = record { kind = kind; line = line }

-- A variant protocol's tags are numbered from 0 (own).
abbrev pub message : Option ℕ → List Part → Message
message tag items = record { tag = tag; items = items }

-- how many components an array of these sizes has; a single value has one
abbrev pub product : List ℕ → ℕ
product [] = 1
product (n ∷ ns) = n * product ns

abbrev pub AllOf : Primitive → List ℤ → Type 0
AllOf type [] = ⊤
AllOf type (v ∷ vs) = IsTrue (is_of type v) × AllOf type vs

abbrev pub PartFits : PartType → Part → Type 0
PartFits (OneOf type) (One t v) = (t ≡ type) × IsTrue (is_of type v)
PartFits (OneOf type) (Many t vs) = ⊥
PartFits (OneOf type) (Counted t vs) = ⊥
PartFits (ManyOf sizes type) (One t v) = ⊥
PartFits (ManyOf sizes type) (Many t vs) = (t ≡ type) × (length vs ≡ product sizes) × AllOf type vs
PartFits (ManyOf sizes type) (Counted t vs) = ⊥
PartFits (CountedOf count type) (One t v) = ⊥
PartFits (CountedOf count type) (Many t vs) = ⊥
PartFits (CountedOf count type) (Counted t vs) = (t ≡ type) × IsTrue (is_of count (pos (length vs))) × AllOf type vs

-- a fitting part for each, in order
abbrev pub PartsFit : List PartType → List Part → Type 0
PartsFit [] [] = ⊤
PartsFit [] (p ∷ ps) = ⊥
PartsFit (t ∷ ts) [] = ⊥
PartsFit (t ∷ ts) (p ∷ ps) = PartFits t p × PartsFit ts ps

-- an array where there are sizes
abbrev pub simple_part : List ℕ → Primitive → PartType
simple_part [] type = OneOf type
simple_part (n ∷ ns) type = ManyOf (n ∷ ns) type

-- (manual: channels and protocols)
-- what follows the tag of a message; a message of a protocol that is no variant has none
abbrev pub parts_after : Protocol → Option ℕ → Option (List PartType)
parts_after (Simple sizes type) None = Some (simple_part sizes type ∷ [])
parts_after (Simple sizes type) (Some tag) = None
parts_after (CountedArray count type) None = Some (CountedOf count type ∷ [])
parts_after (CountedArray count type) (Some tag) = None
parts_after (Sequential ts) None = Some ts
parts_after (Sequential ts) (Some tag) = None
parts_after (Variant tags) None = None
parts_after (Variant tags) (Some tag) = slice_get (map (λ t. t.parts) tags) tag

abbrev pub FitsAfter : Option (List PartType) → List Part → Type 0
FitsAfter None ps = ⊥
FitsAfter (Some ts) ps = PartsFit ts ps

-- a message of a protocol
abbrev pub Fits : Protocol → Message → Type 0
Fits p m = FitsAfter (parts_after p m.tag) m.items
