-- The types of expressions, items and targets, over the types of the cells that are declared.
-- Manual: data types; expressions; variables and values. BYTE as an operand of arithmetic, bit operators and shifts: (own).
use Rattle.std.specs.Prelude.{Bool, IsTrue, List, Option, Some, [], false, length, true, ℕ, ◌∷◌, ◌≡◌}
use Rattle.occ_term.specs.Messages.{Primitive, Boolean, Byte, Int, is_of, PartType, OneOf, ManyOf, CountedOf, product, AllOf}
use Rattle.occ_term.specs.Terms.{Operator, Add, Subtract, Multiply, Divide, Remainder, Plus, Minus, Times, BitAnd, BitOr, BitXor, ShiftLeft, ShiftRight, After, Equal, Unequal, Less, Greater, AtMost, AtLeast, Negate, BitNot, Not, Expression, Constant, Cell, Component, Letter, Binary, Unary, And, Or, Conversion, Place, place, Subscripts, no_subscripts, then_subscript, Array, Cells, Text, Item, OfOne, OfMany, OfCounted, Target, Into, IntoCounted}
use Rattle.occ_term.specs.Values.{Span, span}
use Rattle.occ_term.specs.Uses.{numbers_in}

abbrev pub is_number : Primitive → Bool
is_number Boolean = false
is_number Byte = true
is_number Int = true

-- both operands and the result have one type
abbrev pub is_arithmetic : Operator → Bool
is_arithmetic Add = true
is_arithmetic Subtract = true
is_arithmetic Multiply = true
is_arithmetic Divide = true
is_arithmetic Remainder = true
is_arithmetic Plus = true
is_arithmetic Minus = true
is_arithmetic Times = true
is_arithmetic BitAnd = true
is_arithmetic BitOr = true
is_arithmetic BitXor = true
is_arithmetic ShiftLeft = false
is_arithmetic ShiftRight = false
is_arithmetic After = false
is_arithmetic Equal = false
is_arithmetic Unequal = false
is_arithmetic Less = false
is_arithmetic Greater = false
is_arithmetic AtMost = false
is_arithmetic AtLeast = false

abbrev pub is_shift : Operator → Bool
is_shift Add = false
is_shift Subtract = false
is_shift Multiply = false
is_shift Divide = false
is_shift Remainder = false
is_shift Plus = false
is_shift Minus = false
is_shift Times = false
is_shift BitAnd = false
is_shift BitOr = false
is_shift BitXor = false
is_shift ShiftLeft = true
is_shift ShiftRight = true
is_shift After = false
is_shift Equal = false
is_shift Unequal = false
is_shift Less = false
is_shift Greater = false
is_shift AtMost = false
is_shift AtLeast = false

abbrev pub is_equality : Operator → Bool
is_equality Add = false
is_equality Subtract = false
is_equality Multiply = false
is_equality Divide = false
is_equality Remainder = false
is_equality Plus = false
is_equality Minus = false
is_equality Times = false
is_equality BitAnd = false
is_equality BitOr = false
is_equality BitXor = false
is_equality ShiftLeft = false
is_equality ShiftRight = false
is_equality After = false
is_equality Equal = true
is_equality Unequal = true
is_equality Less = false
is_equality Greater = false
is_equality AtMost = false
is_equality AtLeast = false

abbrev pub is_order : Operator → Bool
is_order Add = false
is_order Subtract = false
is_order Multiply = false
is_order Divide = false
is_order Remainder = false
is_order Plus = false
is_order Minus = false
is_order Times = false
is_order BitAnd = false
is_order BitOr = false
is_order BitXor = false
is_order ShiftLeft = false
is_order ShiftRight = false
is_order After = false
is_order Equal = false
is_order Unequal = false
is_order Less = true
is_order Greater = true
is_order AtMost = true
is_order AtLeast = true

-- an operator's operands and its result; a shift's count and AFTER's operands are INT
pub data Takes : Operator → Primitive → Primitive → Primitive → Type 0 where
  takes_arithmetic : {op : Operator} {t : Primitive} → IsTrue (is_arithmetic op) → IsTrue (is_number t) → Takes op t t t
  takes_shift : {op : Operator} {t : Primitive} → IsTrue (is_shift op) → IsTrue (is_number t) → Takes op t Int t
  takes_after : Takes After Int Int Boolean
  takes_equality : {op : Operator} {t : Primitive} → IsTrue (is_equality op) → Takes op t t Boolean
  takes_order : {op : Operator} {t : Primitive} → IsTrue (is_order op) → IsTrue (is_number t) → Takes op t t Boolean

-- each of these cells is declared, with this type
abbrev pub CellsHave : (ℕ → Option Primitive) → Span → Primitive → Type 0
CellsHave types at t = (c : ℕ) → IsTrue (numbers_in at c) → types c ≡ Some t

abbrev mutual
  pub HasType : (ℕ → Option Primitive) → Expression → Primitive → Type 0
  HasType types (Constant v) t = IsTrue (is_of t v)
  HasType types (Cell c) t = types c ≡ Some t
  HasType types (Component p) t = PlaceHas types p t []
  HasType types (Letter line text e) t = (t ≡ Byte) × AllOf Byte text × HasType types e Int
  HasType types (Binary op type line a b) t = (right : Primitive) × Takes op type right t × HasType types a type × HasType types b right
  HasType types (Unary Negate type line a) t = (t ≡ type) × IsTrue (is_number type) × HasType types a type
  HasType types (Unary BitNot type line a) t = (t ≡ type) × IsTrue (is_number type) × HasType types a type
  HasType types (Unary Not type line a) t = (t ≡ Boolean) × (type ≡ Boolean) × HasType types a Boolean
  HasType types (And a b) t = (t ≡ Boolean) × HasType types a Boolean × HasType types b Boolean
  HasType types (Or a b) t = (t ≡ Boolean) × HasType types a Boolean × HasType types b Boolean
  HasType types (Conversion to line a) t = (t ≡ to) × (from : Primitive) × HasType types a from

  -- a place of that component type whose sizes, after its subscripts, are these
  pub PlaceHas : (ℕ → Option Primitive) → Place → Primitive → List ℕ → Type 0
  PlaceHas types (place line first sizes subs) t rest = CellsHave types (span first (product sizes)) t × SubscriptsLeave types subs sizes rest

  pub SubscriptsLeave : (ℕ → Option Primitive) → Subscripts → List ℕ → List ℕ → Type 0
  SubscriptsLeave types no_subscripts sizes rest = sizes ≡ rest
  SubscriptsLeave types (then_subscript e es) [] rest = ⊥
  SubscriptsLeave types (then_subscript e es) (n ∷ ns) rest = HasType types e Int × SubscriptsLeave types es ns rest

abbrev pub ArrayHas : (ℕ → Option Primitive) → Array → Primitive → List ℕ → Type 0
ArrayHas types (Cells p) t sizes = PlaceHas types p t sizes
ArrayHas types (Text bytes) t sizes = (t ≡ Byte) × (sizes ≡ length bytes ∷ []) × AllOf Byte bytes

-- an item of a part's type
abbrev pub ItemHas : (ℕ → Option Primitive) → Item → PartType → Type 0
ItemHas types (OfOne t e) (OneOf type) = (t ≡ type) × HasType types e type
ItemHas types (OfOne t e) (ManyOf sizes type) = ⊥
ItemHas types (OfOne t e) (CountedOf count type) = ⊥
ItemHas types (OfMany t a) (OneOf type) = ⊥
ItemHas types (OfMany t a) (ManyOf sizes type) = (t ≡ type) × ArrayHas types a type sizes
ItemHas types (OfMany t a) (CountedOf count type) = ⊥
ItemHas types (OfCounted t line n a) (OneOf type) = ⊥
ItemHas types (OfCounted t line n a) (ManyOf sizes type) = ⊥
ItemHas types (OfCounted t line n a) (CountedOf count type) = (t ≡ type) × HasType types n count × ((size : ℕ) × ArrayHas types a type (size ∷ []))

abbrev pub TargetHas : (ℕ → Option Primitive) → Target → PartType → Type 0
TargetHas types (Into p) (OneOf type) = PlaceHas types p type []
TargetHas types (Into p) (ManyOf sizes type) = PlaceHas types p type sizes
TargetHas types (Into p) (CountedOf count type) = ⊥
TargetHas types (IntoCounted line n a) (OneOf type) = ⊥
TargetHas types (IntoCounted line n a) (ManyOf sizes type) = ⊥
TargetHas types (IntoCounted line n a) (CountedOf count type) = PlaceHas types n count [] × ((size : ℕ) × PlaceHas types a type (size ∷ []))
