-- An operand that comes second is a cell, and its operator comes to the same with its operands swapped.
use Rattle.std.specs.Prelude.{int_le, not, ◌&&◌}
use Rattle.std.proofs.Common.{◌≡◌, ℕ, ℤ, ◌+◌, Bool, true, false, List, ◌++◌, length, refl, ap, arith, length-append}
use Rattle.std.proofs.Math.Bool as booleans
use Rattle.std.proofs.Math.IntN.{*ℤ_comm, +ℤ_comm}
use Rattle.std.proofs.lemmas.Nat.{and_comm, or_comm, xor_comm}
use Rattle.occ_term.specs.declared.primitive.Primitive.{Primitive}
use Rattle.occ_term.specs.declared.expression.Operator.{Operator}
use Rattle.occ_term.specs.declared.expression.Operator.TheVariants.{Add, Subtract, Multiply, Divide, Remainder, Plus, Minus, Times, BitAnd, BitOr, BitXor, ShiftLeft, ShiftRight, After, Equal, Unequal, Less, Greater, AtMost, AtLeast}
use Rattle.occ_term.specs.Terms.{Expression, Constant, Cell, Component, Letter, Binary, Unary, And, Or, Conversion}
use Rattle.occ_term.specs.Values.{Value, binary, bits_of, in_type, of_bits, truth, wrapped}
use Rattle.occ_machine.specs.declared.instr.Instr.{Instr}
use Rattle.occ_code.specs.OperandOrder.{both_operands, comes_second, commutes, is_cell, is_cell_or_constant}

pub length-both_operands : (second : Bool) (xs ys zs : List (Instr ℕ)) → length (both_operands second xs ys zs) ≡ length xs + length ys + length zs
length-both_operands false xs ys zs = omega (arith, length-append xs (ys ++ zs), length-append ys zs)
length-both_operands true xs ys zs = omega (arith, length-append ys (xs ++ zs), length-append xs zs)

-- the fault and its line are the same too
pub swapped : (op : Operator) (type : Primitive) (line : ℕ) (a b : ℤ) → commutes op ≡ true → binary op type line a b ≡ binary op type line b a
swapped Add type line a b h = ap (in_type type line) (+ℤ_comm a b)
swapped Subtract type line a b h = cc
swapped Multiply type line a b h = ap (in_type type line) (*ℤ_comm a b)
swapped Divide type line a b h = cc
swapped Remainder type line a b h = cc
swapped Plus type line a b h = ap (λ v. Value (wrapped type v)) (+ℤ_comm a b)
swapped Minus type line a b h = cc
swapped Times type line a b h = ap (λ v. Value (wrapped type v)) (*ℤ_comm a b)
swapped BitAnd type line a b h = ap (λ n. Value (of_bits type n)) (and_comm (bits_of type a) (bits_of type b))
swapped BitOr type line a b h = ap (λ n. Value (of_bits type n)) (or_comm (bits_of type a) (bits_of type b))
swapped BitXor type line a b h = ap (λ n. Value (of_bits type n)) (xor_comm (bits_of type a) (bits_of type b))
swapped ShiftLeft type line a b h = cc
swapped ShiftRight type line a b h = cc
swapped After type line a b h = cc
swapped Equal type line a b h = ap (λ t. Value (truth t)) (booleans.and_comm (int_le a b) (int_le b a))
swapped Unequal type line a b h = ap (λ t. Value (truth (not t))) (booleans.and_comm (int_le a b) (int_le b a))
swapped Less type line a b h = cc
swapped Greater type line a b h = cc
swapped AtMost type line a b h = cc
swapped AtLeast type line a b h = cc

first_holds : (x y : Bool) → (x && y) ≡ true → x ≡ true
first_holds true y h = refl
first_holds false y h = h

second_holds : (x y : Bool) → (x && y) ≡ true → y ≡ true
second_holds true y h = h
second_holds false y h = cc

cell_of : (e : Expression) → is_cell e ≡ true → (c : ℕ) × (e ≡ Cell c)
cell_of (Constant v) h = cc
cell_of (Cell c) h = (c, refl)
cell_of (Component p) h = cc
cell_of (Letter line text e) h = cc
cell_of (Binary op type line a b) h = cc
cell_of (Unary op type line a) h = cc
cell_of (And a b) h = cc
cell_of (Or a b) h = cc
cell_of (Conversion to line a) h = cc

-- what comes second is a cell
pub second_is_cell : (op : Operator) (a b : Expression) → comes_second op a b ≡ true → (c : ℕ) × (a ≡ Cell c)
second_is_cell op a b h = cell_of a (first_holds (is_cell a) (commutes op && not (is_cell_or_constant b)) h)

-- of an operator that commutes
pub second_commutes : (op : Operator) (a b : Expression) → comes_second op a b ≡ true → commutes op ≡ true
second_commutes op a b h = first_holds (commutes op) (not (is_cell_or_constant b)) (second_holds (is_cell a) (commutes op && not (is_cell_or_constant b)) h)
