-- Each operator's value is of the type that it gives.
use Rattle.std.proofs.Common.{◌≡◌, refl, Bool, true, false, not, IsTrue, int_le, int_lt, ℕ, ◌-◌, ◌*◌, ◌/◌, ◌%◌, ◌^◌, ◌<◌, ℤ, pos, negsuc, ◌+ℤ◌, ◌-ℤ◌, ◌*ℤ◌, int_div, int_rem, bit_and, bit_or, bit_xor, if◌then◌else◌, arith}
use Rattle.std.specs.Bool.{⊤}
use Rattle.std.proofs.lemmas.Bool.Decides.{nat_tests}
use Rattle.std.proofs.lemmas.Int.{ints}
use Rattle.std.proofs.lemmas.Nat.{and_le_l, or_lt, xor_lt, pow_pos}
use Rattle.std.proofs.Math.Nat.{mod-lt, div-le_self}
use Rattle.occ_term.specs.Messages.{Primitive, Boolean, Byte, Int, FaultKind, Arith, Convert, fault, is_of}
use Rattle.occ_term.specs.Terms.{Operator, Add, Subtract, Multiply, Divide, Remainder, Plus, Minus, Times, BitAnd, BitOr, BitXor, ShiftLeft, ShiftRight, After, Equal, Unequal, Less, Greater, AtMost, AtLeast}
use Rattle.occ_term.specs.Values.{Evaluated, Value, Fails, after, checked, truth, width, residue, bits_of, of_bits, wrapped, is_zero, int_eq, in_type, shift_count, binary, converted}
use Rattle.occ_term.specs.Typing.{is_arithmetic, is_shift, is_equality, is_order, Takes, takes_arithmetic, takes_shift, takes_after, takes_equality, takes_order}

-- a value, if there is one, is of the type
abbrev pub OfType : Primitive → Evaluated ℤ → Type 0
OfType t (Value v) = IsTrue (is_of t v)
OfType t (Fails e) = ⊤

pub checked_type : (t : Primitive) (v : ℤ) (b : Bool) (kind : FaultKind) (line : ℕ) → is_of t v ≡ b → OfType t (checked b v kind line)
checked_type t v true kind line h = h
checked_type t v false kind line h = tt

pub in_type_typed : (t : Primitive) (line : ℕ) (v : ℤ) → OfType t (in_type t line v)
in_type_typed t line v = checked_type t v (is_of t v) Arith line refl

pub truth_typed : (b : Bool) → IsTrue (is_of Boolean (truth b))
truth_typed true = refl
truth_typed false = refl

int_bits : (n : ℕ) → n < 4294967296 → IsTrue (is_of Int (of_bits Int n))
int_bits n h = grind (arith, nat_tests, ints)

pub bits_typed : (t : Primitive) (n : ℕ) → n < 2 ^ width t → IsTrue (is_of t (of_bits t n))
bits_typed Boolean n h = grind (arith, nat_tests)
bits_typed Byte n h = grind (arith, nat_tests)
bits_typed Int n h = int_bits n h

residue_below : (m : ℕ) (v : ℤ) → 0 < m → residue m v < m
residue_below m (pos n) h = mod-lt n h
residue_below m (negsuc n) h = omega arith

pub bits_below : (t : Primitive) (v : ℤ) → bits_of t v < 2 ^ width t
bits_below t v = residue_below (2 ^ width t) v (pow_pos (width t))

pub wrapped_typed : (t : Primitive) (v : ℤ) → IsTrue (is_of t (wrapped t v))
wrapped_typed t v = bits_typed t (bits_of t v) (bits_below t v)

quotient_typed : (t : Primitive) (line : ℕ) (v : ℤ) (b : Bool) → OfType t (if b then Fails (fault Arith line) else in_type t line v)
quotient_typed t line v true = tt
quotient_typed t line v false = in_type_typed t line v

pub arithmetic_typed : (op : Operator) (t : Primitive) (line : ℕ) (a b : ℤ) → IsTrue (is_arithmetic op) → OfType t (binary op t line a b)
arithmetic_typed Add t line a b h = in_type_typed t line (a +ℤ b)
arithmetic_typed Subtract t line a b h = in_type_typed t line (a -ℤ b)
arithmetic_typed Multiply t line a b h = in_type_typed t line (a *ℤ b)
arithmetic_typed Divide t line a b h = quotient_typed t line (int_div a b) (is_zero b)
arithmetic_typed Remainder t line a b h = quotient_typed t line (int_rem a b) (is_zero b)
arithmetic_typed Plus t line a b h = wrapped_typed t (a +ℤ b)
arithmetic_typed Minus t line a b h = wrapped_typed t (a -ℤ b)
arithmetic_typed Times t line a b h = wrapped_typed t (a *ℤ b)
arithmetic_typed BitAnd t line a b h =
    bits_typed t (bit_and (bits_of t a) (bits_of t b)) (let l = and_le_l (bits_of t a) (bits_of t b) in let m = bits_below t a in omega arith)
arithmetic_typed BitOr t line a b h = bits_typed t (bit_or (bits_of t a) (bits_of t b)) (or_lt (width t) (bits_of t a) (bits_of t b) (bits_below t a) (bits_below t b))
arithmetic_typed BitXor t line a b h = bits_typed t (bit_xor (bits_of t a) (bits_of t b)) (xor_lt (width t) (bits_of t a) (bits_of t b) (bits_below t a) (bits_below t b))
arithmetic_typed ShiftLeft t line a b h = cc
arithmetic_typed ShiftRight t line a b h = cc
arithmetic_typed After t line a b h = cc
arithmetic_typed Equal t line a b h = cc
arithmetic_typed Unequal t line a b h = cc
arithmetic_typed Less t line a b h = cc
arithmetic_typed Greater t line a b h = cc
arithmetic_typed AtMost t line a b h = cc
arithmetic_typed AtLeast t line a b h = cc

by_count : (t : Primitive) (count : Evaluated ℕ) (bits : ℕ → ℕ) → ((k : ℕ) → bits k < 2 ^ width t) → OfType t (after count (λ k. Value (of_bits t (bits k))))
by_count t (Value k) bits h = bits_typed t (bits k) (h k)
by_count t (Fails e) bits h = tt

pub shift_typed : (op : Operator) (t : Primitive) (line : ℕ) (a b : ℤ) → IsTrue (is_shift op) → OfType t (binary op t line a b)
shift_typed ShiftLeft t line a b h =
    by_count t (shift_count t line b) (λ k. (bits_of t a * 2 ^ k) % 2 ^ width t) (λ k. mod-lt (bits_of t a * 2 ^ k) (pow_pos (width t)))
shift_typed ShiftRight t line a b h =
    by_count t (shift_count t line b) (λ k. bits_of t a / 2 ^ k) (λ k. let l = div-le_self (bits_of t a) (2 ^ k) in let m = bits_below t a in omega arith)
shift_typed Add t line a b h = cc
shift_typed Subtract t line a b h = cc
shift_typed Multiply t line a b h = cc
shift_typed Divide t line a b h = cc
shift_typed Remainder t line a b h = cc
shift_typed Plus t line a b h = cc
shift_typed Minus t line a b h = cc
shift_typed Times t line a b h = cc
shift_typed BitAnd t line a b h = cc
shift_typed BitOr t line a b h = cc
shift_typed BitXor t line a b h = cc
shift_typed After t line a b h = cc
shift_typed Equal t line a b h = cc
shift_typed Unequal t line a b h = cc
shift_typed Less t line a b h = cc
shift_typed Greater t line a b h = cc
shift_typed AtMost t line a b h = cc
shift_typed AtLeast t line a b h = cc

pub equality_typed : (op : Operator) (t : Primitive) (line : ℕ) (a b : ℤ) → IsTrue (is_equality op) → OfType Boolean (binary op t line a b)
equality_typed Equal t line a b h = truth_typed (int_eq a b)
equality_typed Unequal t line a b h = truth_typed (not (int_eq a b))
equality_typed _ t line a b h = cc

pub order_typed : (op : Operator) (t : Primitive) (line : ℕ) (a b : ℤ) → IsTrue (is_order op) → OfType Boolean (binary op t line a b)
order_typed Less t line a b h = truth_typed (int_lt a b)
order_typed Greater t line a b h = truth_typed (int_lt b a)
order_typed AtMost t line a b h = truth_typed (int_le a b)
order_typed AtLeast t line a b h = truth_typed (int_le b a)
order_typed _ t line a b h = cc

pub binary_typed : (op : Operator) (type right t : Primitive) (line : ℕ) (a b : ℤ) → Takes op type right t → OfType t (binary op type line a b)
binary_typed op type right t line a b (takes_arithmetic h n) = arithmetic_typed op type line a b h
binary_typed op type right t line a b (takes_shift h n) = shift_typed op type line a b h
binary_typed op type right t line a b takes_after = truth_typed (int_lt (pos 0) (wrapped Int (a -ℤ b)))
binary_typed op type right t line a b (takes_equality h) = equality_typed op type line a b h
binary_typed op type right t line a b (takes_order h n) = order_typed op type line a b h

pub not_typed : (t : Primitive) (a : ℤ) → IsTrue (is_of t (of_bits t (2 ^ width t - 1 - bits_of t a)))
not_typed t a = bits_typed t (2 ^ width t - 1 - bits_of t a) (let h = bits_below t a in omega arith)

pub converted_typed : (to : Primitive) (line : ℕ) (v : ℤ) → OfType to (converted to line v)
converted_typed to line v = checked_type to v (is_of to v) Convert line refl

-- a value of any type is one of INT
pub is_word : (t : Primitive) (v : ℤ) → IsTrue (is_of t v) → IsTrue (is_of Int v)
is_word Boolean v h = grind (arith, ints, nat_tests)
is_word Byte v h = grind (arith, ints, nat_tests)
is_word Int v h = h

word_of : (t : Primitive) (v : Evaluated ℤ) → OfType t v → OfType Int v
word_of t (Value v) h = is_word t v h
word_of t (Fails e) h = tt
