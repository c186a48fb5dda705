-- What an expression is worth in a store: a whole number, or the first fault from the left.
-- Manual: expressions; data types. Evaluation from the left with the first fault named, arithmetic on BYTE, the counts that a
-- shift takes, and MOSTNEG \ -1 as 0: (own).
use Rattle.std.specs.Prelude.{Bool, IsTrue, List, None, Option, Some, [], bit_and, bit_or, bit_xor, false, get_or, if◌then◌else◌, int_div, int_le, int_lt, int_rem, length, nat_abs, nat_eq, nat_lt, neg_ℤ, negsuc, not, pos, suc, take, true, zero, ℕ, ℤ, ◌%◌, ◌&&◌, ◌*ℤ◌, ◌*◌, ◌+ℤ◌, ◌+◌, ◌-ℤ◌, ◌-◌, ◌/◌, ◌^◌, ◌∷◌, ◌≡◌}
use Rattle.occ_term.specs.Messages.{Primitive, Boolean, Byte, Int, is_of, FaultKind, Arith, Range, Convert, Shift, Fault, fault, Part, One, Many, Counted, product}
use Rattle.occ_term.specs.Terms.{Operator, Add, Subtract, Multiply, Divide, Remainder, Plus, Minus, Times, BitAnd, BitOr, BitXor, ShiftLeft, ShiftRight, After, Equal, Unequal, Less, Greater, AtMost, AtLeast, Monadic, Negate, BitNot, Not, Expression, Constant, Cell, Component, Letter, Binary, Unary, And, Or, Conversion, Place, place, Subscripts, no_subscripts, then_subscript, Array, Cells, Text, Item, OfOne, OfMany, OfCounted}

-- a store gives each cell its value
abbrev pub Store : Type 0
Store = ℕ → ℤ

abbrev pub store_with : Store → ℕ → ℤ → Store
store_with s cell v = λ c. if nat_eq cell c then v else s c

pub data Evaluated (X : Type 0) : Type 0 where
  Value : (value : X) → Evaluated X
  Fails : (fault : Fault) → Evaluated X

-- the second only after the first
abbrev pub after : {X Y : Type 0} → Evaluated X → (X → Evaluated Y) → Evaluated Y
after (Value x) f = f x
after (Fails e) f = Fails e

-- a value that passes the test, else the fault
abbrev pub checked : {X : Type 0} → Bool → X → FaultKind → ℕ → Evaluated X
checked test x kind line = if test then Value x else Fails (fault kind line)

abbrev pub truth : Bool → ℤ
truth test = if test then pos 1 else pos 0

-- 0 stands for FALSE
abbrev pub holds : ℤ → Bool
holds (pos n) = if nat_eq n 0 then false else true
holds (negsuc n) = true

-- a value's bits as a number below 2 to the width, of a value out of range too: the lowest bits of its two's complement
abbrev pub width : Primitive → ℕ
width Boolean = 1
width Byte = 8
width Int = 32

abbrev pub residue : ℕ → ℤ → ℕ
residue m (pos n) = n % m
residue m (negsuc n) = m - 1 - n % m

abbrev pub bits_of : Primitive → ℤ → ℕ
bits_of type v = residue (2 ^ width type) v

-- the value that has these bits: INT alone is signed
abbrev pub of_bits : Primitive → ℕ → ℤ
of_bits Boolean n = pos n
of_bits Byte n = pos n
of_bits Int n = if nat_lt n 2147483648 then pos n else pos n -ℤ pos 4294967296

abbrev pub wrapped : Primitive → ℤ → ℤ
wrapped type v = of_bits type (bits_of type v)

abbrev pub is_zero : ℤ → Bool
is_zero v = not (holds v)

abbrev pub int_eq : ℤ → ℤ → Bool
int_eq a b = int_le a b && int_le b a

abbrev pub in_type : Primitive → ℕ → ℤ → Evaluated ℤ
in_type type line v = checked (is_of type v) v Arith line

-- a count of bits to shift by
abbrev pub shift_count : Primitive → ℕ → ℤ → Evaluated ℕ
shift_count type line v = checked (int_le (pos 0) v && int_le v (pos (width type))) (nat_abs v) Shift line

abbrev pub binary : Operator → Primitive → ℕ → ℤ → ℤ → Evaluated ℤ
binary Add type line a b = in_type type line (a +ℤ b)
binary Subtract type line a b = in_type type line (a -ℤ b)
binary Multiply type line a b = in_type type line (a *ℤ b)
binary Divide type line a b = if is_zero b then Fails (fault Arith line) else in_type type line (int_div a b)
binary Remainder type line a b = if is_zero b then Fails (fault Arith line) else in_type type line (int_rem a b)
binary Plus type line a b = Value (wrapped type (a +ℤ b))
binary Minus type line a b = Value (wrapped type (a -ℤ b))
binary Times type line a b = Value (wrapped type (a *ℤ b))
binary BitAnd type line a b = Value (of_bits type (bit_and (bits_of type a) (bits_of type b)))
binary BitOr type line a b = Value (of_bits type (bit_or (bits_of type a) (bits_of type b)))
binary BitXor type line a b = Value (of_bits type (bit_xor (bits_of type a) (bits_of type b)))
binary ShiftLeft type line a b = after (shift_count type line b) (λ k. Value (of_bits type ((bits_of type a * 2 ^ k) % 2 ^ width type)))
binary ShiftRight type line a b = after (shift_count type line b) (λ k. Value (of_bits type (bits_of type a / 2 ^ k)))
binary After type line a b = Value (truth (int_lt (pos 0) (wrapped Int (a -ℤ b))))
binary Equal type line a b = Value (truth (int_eq a b))
binary Unequal type line a b = Value (truth (not (int_eq a b)))
binary Less type line a b = Value (truth (int_lt a b))
binary Greater type line a b = Value (truth (int_lt b a))
binary AtMost type line a b = Value (truth (int_le a b))
binary AtLeast type line a b = Value (truth (int_le b a))

abbrev pub unary : Monadic → Primitive → ℕ → ℤ → Evaluated ℤ
unary Negate type line a = in_type type line (neg_ℤ a)
unary BitNot type line a = Value (of_bits type (2 ^ width type - 1 - bits_of type a))
unary Not type line a = Value (truth (is_zero a))

abbrev pub converted : Primitive → ℕ → ℤ → Evaluated ℤ
converted to line v = checked (is_of to v) v Convert line

-- a subscript within a size
abbrev pub subscript : ℕ → ℕ → ℤ → Evaluated ℕ
subscript line size v = checked (int_le (pos 0) v && int_lt v (pos size)) (nat_abs v) Range line

-- numbers in a row: the first, and how many
pub data Span : Type 0 where
  span : (first count : ℕ) → Span

abbrev pub first_of : Span → ℕ
first_of (span first count) = first

abbrev pub count_of : Span → ℕ
count_of (span first count) = count

abbrev mutual
  pub value_of : Expression → Store → Evaluated ℤ
  value_of (Constant v) s = Value v
  value_of (Cell c) s = Value (s c)
  value_of (Component p) s = after (span_of p s) (λ at. Value (s (first_of at)))
  value_of (Letter line text e) s = after (value_of e s) (λ v. after (subscript line (length text) v) (λ i. Value (get_or text i (pos 0))))
  value_of (Binary op type line a b) s = after (value_of a s) (λ x. after (value_of b s) (λ y. binary op type line x y))
  value_of (Unary op type line a) s = after (value_of a s) (λ x. unary op type line x)
  value_of (And a b) s = after (value_of a s) (λ x. if holds x then value_of b s else Value (pos 0))
  value_of (Or a b) s = after (value_of a s) (λ x. if holds x then Value (pos 1) else value_of b s)
  value_of (Conversion to line a) s = after (value_of a s) (λ x. converted to line x)

  -- the cells or channels that a place names, in the array's order (manual: variables and values)
  pub span_of : Place → Store → Evaluated Span
  span_of (place line first sizes subs) s = offset_of subs line first sizes s

  -- each subscript is evaluated and checked before the next one
  pub offset_of : Subscripts → ℕ → ℕ → List ℕ → Store → Evaluated Span
  offset_of no_subscripts line first sizes s = Value (span first (product sizes))
  offset_of (then_subscript e es) line first [] s = Value (span first 1)
  offset_of (then_subscript e es) line first (n ∷ ns) s =
      after (value_of e s) (λ v. after (subscript line n v) (λ i. offset_of es line (first + i * product ns) ns s))

-- the values of cells in a row
abbrev pub values_from : ℕ → ℕ → Store → List ℤ
values_from first zero s = []
values_from first (suc n) s = s first ∷ values_from (first + 1) n s

abbrev pub array_of : Array → Store → Evaluated (List ℤ)
array_of (Cells p) s = after (span_of p s) (λ at. Value (values_from (first_of at) (count_of at) s))
array_of (Text bytes) s = Value bytes

abbrev pub counted : Primitive → ℕ → ℤ → List ℤ → Evaluated Part
counted type line n vs = checked (int_le (pos 0) n && int_le n (pos (length vs))) (Counted type (take (nat_abs n) vs)) Range line

abbrev pub part_of : Item → Store → Evaluated Part
part_of (OfOne type e) s = after (value_of e s) (λ v. Value (One type v))
part_of (OfMany type a) s = after (array_of a s) (λ vs. Value (Many type vs))
part_of (OfCounted type line n a) s = after (value_of n s) (λ v. after (array_of a s) (λ vs. counted type line v vs))

-- item by item from the left
abbrev pub parts_of : List Item → Store → Evaluated (List Part)
parts_of [] s = Value []
parts_of (i ∷ is) s = after (part_of i s) (λ p. after (parts_of is s) (λ ps. Value (p ∷ ps)))

-- a cell that isn't declared may have any value
abbrev pub is_of_declared : Option Primitive → ℤ → Bool
is_of_declared None v = true
is_of_declared (Some type) v = is_of type v

-- a typed store: the cells of the set that are declared have values of their types
abbrev pub TypedOn : (ℕ → Bool) → (ℕ → Option Primitive) → Store → Type 0
TypedOn cells types s = (c : ℕ) → IsTrue (cells c) → IsTrue (is_of_declared (types c) (s c))

-- two stores give the cells of the set the same values
abbrev pub AgreeOn : (ℕ → Bool) → Store → Store → Type 0
AgreeOn cells s s' = (c : ℕ) → IsTrue (cells c) → s c ≡ s' c
