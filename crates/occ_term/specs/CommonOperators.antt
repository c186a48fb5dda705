-- The operators that compare, and those whose value has to be one of the type.
-- Manual: nothing; this is (own).
use Rattle.std.specs.Prelude.{Bool, IsTrue, None, Option, Some, false, if◌then◌else◌, true, ℕ, ℤ, ◌≡◌}
use Rattle.occ_term.specs.Messages.{Primitive, is_of, Arith, fault}
use Rattle.occ_term.specs.Terms.{Operator, Add, Subtract, Multiply, Divide, Remainder, Plus, Minus, Times, BitAnd, BitOr, BitXor, ShiftLeft, ShiftRight, After, Equal, Unequal, Less, Greater, AtMost, AtLeast}
use Rattle.occ_term.specs.Values.{Fails, binary}

-- a value where it is one of the type
abbrev pub if_in_type : Primitive → ℤ → Option ℤ
if_in_type type v = if is_of type v then Some v else None

-- the operators that compare, and those whose value has to be one of the type: there is one, or they fail
abbrev pub is_common : Operator → Bool
is_common Add = true
is_common Subtract = true
is_common Multiply = true
is_common Divide = true
is_common Remainder = true
is_common Plus = false
is_common Minus = false
is_common Times = false
is_common BitAnd = false
is_common BitOr = false
is_common BitXor = false
is_common ShiftLeft = false
is_common ShiftRight = false
is_common After = false
is_common Equal = true
is_common Unequal = true
is_common Less = true
is_common Greater = true
is_common AtMost = true
is_common AtLeast = true

-- such an operator fails on these values
abbrev pub FailsIfCommon : Operator → Primitive → ℕ → (a b : ℤ) → Type 0
FailsIfCommon op type line a b = IsTrue (is_common op) → binary op type line a b ≡ Fails (fault Arith line)
