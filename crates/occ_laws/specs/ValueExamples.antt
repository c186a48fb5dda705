-- Rows that check by computing what operators, conversions, places, messages and assignments come to, also at the limits of types.
-- Manual: nothing; the rows are (own).
use Rattle.std.specs.Prelude.{ℤ, pos, ◌≡◌, [], ◌∷◌, None, Option, Some, List, ℕ}
use Rattle.occ_term.specs.ExampleParts.{minus, number, cell_in, count_and_two, zeros}
use Rattle.occ_term.specs.Messages.{fault, message, Fits}
use Rattle.occ_term.specs.Terms.{Binary, Expression, Unary, And, Conversion, Place, place, no_subscripts, then_subscript, Array, Cells, OfCounted, Skip, Plain, Tagged, no_variants, or_variant, Text, Item, OfMany, Target, Into, Cell, OfOne}
use Rattle.occ_term.specs.Values.{Evaluated, value_of, Value, Fails, span, span_of, part_of, store_with}
use Rattle.occ_term.specs.Storing.{Outcome, Gives, Faults, assigned}
use Rattle.occ_term.specs.Selecting.{taken}
use Rattle.occ_term.specs.declared.primitive.Primitive.TheVariants.{Int, Byte, Bool as Boolean}
use Rattle.occ_term.specs.declared.fault.FaultKind.TheVariants.{Arith, Convert, Shift, Range}
use Rattle.occ_term.specs.declared.protocol.Tag.{Tag}
use Rattle.occ_term.specs.declared.protocol.PartType.TheVariants.{One as OneOf}
use Rattle.occ_term.specs.declared.protocol.Protocol.TheVariants.{CountedArray, Variant}
use Rattle.occ_term.specs.declared.expression.Operator.{Operator}
use Rattle.occ_term.specs.declared.expression.Operator.TheVariants.{Divide, Add, Remainder, Plus, Minus, Times, BitXor, ShiftLeft, ShiftRight, After, Equal, Subtract, Multiply, BitAnd, BitOr, Unequal, Less, AtLeast}
use Rattle.occ_term.specs.declared.expression.Monadic.TheVariants.{BitNot, Negate, Not}
use Rattle.occ_term.specs.declared.expression.Monadic.{Monadic}
use Rattle.occ_term.specs.declared.primitive.Primitive.{Primitive}
use Rattle.occ_term.specs.declared.fault.Fault.{Fault}
use Rattle.occ_term.specs.declared.message.Part.TheVariants.{Counted}
use Rattle.occ_term.specs.declared.message.Message.{Message}
use Rattle.occ_term.specs.declared.protocol.PartType.{PartType}

abbrev pub most_neg : ℤ
most_neg = minus 2147483648

-- an operator's value in line 1, on constants
abbrev pub on_two : Operator → Primitive → ℤ → ℤ → Evaluated ℤ
on_two op type a b = value_of (Binary op type 1 (number a) (number b)) (λ c. pos 0)

abbrev pub divides_by_zero : Expression
divides_by_zero = Binary Divide Int 1 (number (pos 1)) (number (pos 0))

abbrev pub ValueRows : Type 0
ValueRows =
    (on_two Add Int (pos 2147483647) (pos 1) ≡ Fails (fault Arith 1))
    × (on_two Divide Int (minus 7) (pos 2) ≡ Value (minus 3))
    × (on_two Remainder Int (minus 7) (pos 2) ≡ Value (minus 1))
    × (on_two Divide Int most_neg (minus 1) ≡ Fails (fault Arith 1))
    × (on_two Remainder Int most_neg (minus 1) ≡ Value (pos 0))
    × (on_two ShiftLeft Int (pos 1) (pos 32) ≡ Value (pos 0))
    × (on_two ShiftLeft Int (pos 1) (pos 33) ≡ Fails (fault Shift 1))
    × (on_two ShiftRight Int most_neg (pos 31) ≡ Value (pos 1))
    × (on_two Add Byte (pos 200) (pos 100) ≡ Fails (fault Arith 1))
    × (on_two Plus Byte (pos 200) (pos 100) ≡ Value (pos 44))
    × (on_two Times Int (pos 65536) (pos 65536) ≡ Value (pos 0))
    × (on_two Minus Int most_neg (pos 1) ≡ Value (pos 2147483647))
    × (on_two After Int most_neg (pos 2147483647) ≡ Value (pos 1))
    × (on_two BitXor Int (minus 1) (pos 255) ≡ Value (minus 256))
    × (value_of (Unary BitNot Byte 1 (number (pos 1))) (λ c. pos 0) ≡ Value (pos 254))
    × (value_of (Conversion Byte 2 (number (pos 256))) (λ c. pos 0) ≡ Fails (fault Convert 2))
    × (value_of (And (number (pos 0)) (Binary Equal Int 1 divides_by_zero (number (pos 0)))) (λ c. pos 0) ≡ Value (pos 0))

-- a[1][2] of [2][3]INT from cell 10 on is cell 15; a[0][3] is out of range, before the array is read; a[2][1 / 0] is out of
-- range before its second subscript is evaluated, and a[1 / 0][3] faults before its second one is checked
abbrev pub matrix : ℤ → ℤ → Place
matrix i j = place 3 10 (2 ∷ 3 ∷ []) (then_subscript (number i) (then_subscript (number j) no_subscripts))

abbrev pub PlaceRows : Type 0
PlaceRows =
    (span_of (matrix (pos 1) (pos 2)) (λ c. pos 0) ≡ Value (span 15 1))
    × (span_of (matrix (pos 0) (pos 3)) (λ c. pos 0) ≡ Fails (fault Range 3))
    × (span_of (place 3 10 (2 ∷ 3 ∷ []) (then_subscript (number (pos 1)) no_subscripts)) (λ c. pos 0) ≡ Value (span 13 3))
    × (span_of (place 3 10 (2 ∷ 3 ∷ []) (then_subscript (number (pos 2)) (then_subscript divides_by_zero no_subscripts))) (λ c. pos 0) ≡ Fails (fault Range 3))
    × (span_of (place 3 10 (2 ∷ 3 ∷ []) (then_subscript divides_by_zero (then_subscript (number (pos 3)) no_subscripts))) (λ c. pos 0) ≡ Fails (fault Arith 1))

abbrev pub fault_in : {X : Type 0} → Outcome X → Option Fault
fault_in (Gives x s) = None
fault_in (Faults e s) = Some e

-- 5::buf and 0::buf of [4]BYTE; n::got for a message of one component, and of three for two cells
abbrev pub buffer : Array
buffer = Cells (place 5 10 (4 ∷ []) no_subscripts)

abbrev pub bytes : List ℤ → Message
bytes vs = message None (Counted Byte vs ∷ [])

-- a tag with a name of one letter
abbrev pub tag_of : ℕ → List PartType → Tag
tag_of letter parts = record { name = letter ∷ []; parts = parts }

abbrev pub MessageRows : Type 0
MessageRows =
    (part_of (OfCounted Byte 5 (number (pos 5)) buffer) zeros ≡ Fails (fault Range 5))
    × (part_of (OfCounted Byte 5 (number (pos 0)) buffer) zeros ≡ Value (Counted Byte []))
    × (cell_in 0 (taken (Plain count_and_two Skip) (bytes (pos 8 ∷ [])) zeros) ≡ pos 1)
    × (cell_in 1 (taken (Plain count_and_two Skip) (bytes (pos 8 ∷ [])) zeros) ≡ pos 8)
    × (fault_in (taken (Plain count_and_two Skip) (bytes (pos 8 ∷ pos 9 ∷ pos 7 ∷ [])) zeros) ≡ Some (fault Range 9))
    × (taken (Tagged (or_variant 0 [] [] Skip no_variants)) (message (Some 1) []) zeros ≡ Gives None zeros)
    × Fits (CountedArray Int Byte) (bytes (pos 8 ∷ []))
    × Fits (Variant (tag_of 100 (OneOf Int ∷ []) ∷ tag_of 113 [] ∷ [])) (message (Some 1) [])

abbrev pub three_bytes : Item
three_bytes = OfMany Byte (Text (pos 7 ∷ pos 8 ∷ pos 9 ∷ []))

-- a, b := b, a, and v[i], v[j] := 1, 2 with i = j: the right-hand value stays; no value goes past the last cell of a target
abbrev pub into_cell : ℕ → Target
into_cell c = Into (place 1 c [] no_subscripts)

-- v[i] of [2]INT v from cell 4 on, with i in that cell
abbrev pub into_component : ℕ → Target
into_component i = Into (place 1 4 (2 ∷ []) (then_subscript (Cell i) no_subscripts))

abbrev pub into_two : Target
into_two = Into (place 1 0 (2 ∷ []) no_subscripts)

abbrev pub one_and_two : List Item
one_and_two = OfOne Int (number (pos 1)) ∷ OfOne Int (number (pos 2)) ∷ []

abbrev pub AssignRows : Type 0
AssignRows =
    (cell_in 1 (assigned (into_cell 0 ∷ into_cell 1 ∷ []) (OfOne Int (Cell 1) ∷ OfOne Int (Cell 0) ∷ []) (store_with zeros 0 (pos 5))) ≡ pos 5)
    × (cell_in 4 (assigned (into_component 0 ∷ into_component 1 ∷ []) one_and_two zeros) ≡ pos 2)
    × (cell_in 1 (assigned (into_two ∷ []) (three_bytes ∷ []) zeros) ≡ pos 8)
    × (cell_in 2 (assigned (into_two ∷ []) (three_bytes ∷ []) zeros) ≡ pos 0)

abbrev pub on_one : Monadic → Primitive → ℤ → Evaluated ℤ
on_one op type a = value_of (Unary op type 1 (number a)) zeros

abbrev pub to : Primitive → ℤ → Evaluated ℤ
to type a = value_of (Conversion type 1 (number a)) zeros

abbrev pub most_pos : ℤ
most_pos = pos 2147483647

abbrev pub Limits : Type 0
Limits =
    (on_two Divide Int (pos 7) (minus 2) ≡ Value (minus 3))
    × (on_two Divide Int (minus 7) (minus 2) ≡ Value (pos 3))
    × (on_two Remainder Int (pos 7) (minus 2) ≡ Value (pos 1))
    × (on_two Remainder Int (minus 7) (minus 2) ≡ Value (minus 1))
    × (on_two Remainder Int (pos 7) (pos 0) ≡ Fails (fault Arith 1))
    × (on_two Subtract Byte (pos 0) (pos 1) ≡ Fails (fault Arith 1))
    × (on_two Multiply Byte (pos 16) (pos 16) ≡ Fails (fault Arith 1))
    × (on_two Multiply Byte (pos 15) (pos 17) ≡ Value (pos 255))
    × (on_two Minus Byte (pos 0) (pos 1) ≡ Value (pos 255))
    × (on_two Times Byte (pos 255) (pos 255) ≡ Value (pos 1))
    × (on_two Plus Int most_pos (pos 1) ≡ Value most_neg)
    × (on_two Times Int most_neg (minus 1) ≡ Value most_neg)
    × (on_two ShiftLeft Byte (pos 129) (pos 1) ≡ Value (pos 2))
    × (on_two ShiftLeft Byte (pos 129) (pos 8) ≡ Value (pos 0))
    × (on_two ShiftLeft Byte (pos 129) (pos 9) ≡ Fails (fault Shift 1))
    × (on_two ShiftRight Byte (pos 129) (pos 8) ≡ Value (pos 0))
    × (on_two ShiftRight Byte (pos 129) (minus 1) ≡ Fails (fault Shift 1))
    × (on_two ShiftLeft Int (pos 1) (pos 31) ≡ Value most_neg)
    × (on_two ShiftLeft Int (minus 1) (pos 0) ≡ Value (minus 1))
    × (on_two ShiftRight Int (minus 1) (pos 0) ≡ Value (minus 1))
    × (on_two ShiftRight Int (minus 1) (pos 32) ≡ Value (pos 0))
    × (on_two BitAnd Int most_neg (minus 1) ≡ Value most_neg)
    × (on_two BitOr Byte (pos 128) (pos 127) ≡ Value (pos 255))
    × (on_two After Int most_pos most_neg ≡ Value (pos 0))
    × (on_two After Int most_neg (pos 0) ≡ Value (pos 0))
    × (on_two After Int (pos 0) most_neg ≡ Value (pos 0))
    × (on_two After Int (pos 5) (pos 5) ≡ Value (pos 0))
    × (on_two Less Int most_neg most_pos ≡ Value (pos 1))
    × (on_two AtLeast Int (minus 1) (minus 1) ≡ Value (pos 1))
    × (on_two Unequal Boolean (pos 1) (pos 0) ≡ Value (pos 1))
    × (on_one Negate Int most_neg ≡ Fails (fault Arith 1))
    × (on_one Negate Byte (pos 1) ≡ Fails (fault Arith 1))
    × (on_one Negate Byte (pos 0) ≡ Value (pos 0))
    × (on_one BitNot Int (pos 0) ≡ Value (minus 1))
    × (on_one BitNot Int most_neg ≡ Value most_pos)
    × (on_one Not Boolean (pos 1) ≡ Value (pos 0))
    × (to Byte (minus 1) ≡ Fails (fault Convert 1))
    × (to Boolean (pos 2) ≡ Fails (fault Convert 1))
    × (to Boolean (pos 1) ≡ Value (pos 1))
    × (to Int (pos 255) ≡ Value (pos 255))
