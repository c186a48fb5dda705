-- The operators of the tree as those of the term, and the types of their operands and results.
-- Manual: expressions; data types. BYTE as an operand of arithmetic, bit operators and shifts: (own).
use Rattle.std.specs.Prelude.{Bool, Option, false, if◌then◌else◌, true, ◌&&◌}
use Rattle.occ_tree_grammar.specs.declared.tree.expr.Primitive.{Primitive as PrimitiveTree}
use Rattle.occ_tree_grammar.specs.declared.tree.expr.Primitive.TheVariants as primitives
use Rattle.occ_tree_grammar.specs.declared.tree.expr.Dyadic.{Dyadic}
use Rattle.occ_tree_grammar.specs.declared.tree.expr.Dyadic.TheVariants as d
use Rattle.occ_term.specs.declared.primitive.Primitive.{Primitive}
use Rattle.occ_term.specs.declared.primitive.Primitive.TheVariants.{Bool as Boolean, Byte, Int}
use Rattle.occ_term.specs.declared.expression.Operator.{Operator}
use Rattle.occ_term.specs.declared.expression.Operator.TheVariants.{Add, Subtract, Multiply, Divide, Remainder, Plus, Minus, Times, BitAnd, BitOr, BitXor, ShiftLeft, ShiftRight, After, Equal, Unequal, Less, Greater, AtMost, AtLeast}
use Rattle.occ_term.specs.declared.expression.Monadic.{Monadic}
use Rattle.occ_term.specs.declared.expression.Monadic.TheVariants.{Negate, BitNot, Not}
use Rattle.occ_term.specs.Typing.{is_number, is_arithmetic, is_shift, is_equality, is_order}
use Rattle.occ_check_meaning.specs.Scope.{keep}

abbrev pub primitive_of : PrimitiveTree → Primitive
primitive_of primitives.Bool = Boolean
primitive_of primitives.Byte = Byte
primitive_of primitives.Int = Int

abbrev pub is_same_type : Primitive → Primitive → Bool
is_same_type Boolean Boolean = true
is_same_type Boolean Byte = false
is_same_type Boolean Int = false
is_same_type Byte Boolean = false
is_same_type Byte Byte = true
is_same_type Byte Int = false
is_same_type Int Boolean = false
is_same_type Int Byte = false
is_same_type Int Int = true

abbrev pub operator_of : Dyadic → Operator
operator_of d.Add = Add
operator_of d.Subtract = Subtract
operator_of d.Multiply = Multiply
operator_of d.Divide = Divide
operator_of d.Remainder = Remainder
operator_of d.Rem = Remainder
operator_of d.Plus = Plus
operator_of d.Minus = Minus
operator_of d.Times = Times
operator_of d.BitAndSign = BitAnd
operator_of d.BitAnd = BitAnd
operator_of d.BitOrSign = BitOr
operator_of d.BitOr = BitOr
operator_of d.BitXor = BitXor
operator_of d.ShiftLeft = ShiftLeft
operator_of d.ShiftRight = ShiftRight
operator_of d.After = After
operator_of d.Equal = Equal
operator_of d.Unequal = Unequal
operator_of d.Less = Less
operator_of d.Greater = Greater
operator_of d.AtMost = AtMost
operator_of d.AtLeast = AtLeast

-- (refusal: wrong type) The type of the result, from those of the two operands. Only AFTER is of none of the first four kinds.
abbrev pub result_of : Operator → Primitive → Primitive → Option Primitive
result_of op a b =
    if is_arithmetic op then keep (is_number a && is_same_type a b) a
    else (if is_shift op then keep (is_number a && is_same_type b Int) a
    else (if is_equality op then keep (is_same_type a b) Boolean
    else (if is_order op then keep (is_number a && is_same_type a b) Boolean
    else keep (is_same_type a Int && is_same_type b Int) Boolean)))

-- (refusal: wrong type) an operator with one operand has its operand's type
abbrev pub takes_operand : Monadic → Primitive → Bool
takes_operand Negate a = is_number a
takes_operand BitNot a = is_number a
takes_operand Not a = is_same_type a Boolean
