-- The order in which the code of an operator's two operands stands.
-- Manual: nothing; this is (own).
use Rattle.std.specs.Prelude.{Bool, List, false, not, true, ℕ, ◌&&◌, ◌++◌}
use Rattle.occ_term.specs.declared.expression.Operator.{Operator}
use Rattle.occ_term.specs.declared.expression.Operator.TheVariants.{Add, Subtract, Multiply, Divide, Remainder, Plus, Minus, Times, BitAnd, BitOr, BitXor, ShiftLeft, ShiftRight, After, Equal, Unequal, Less, Greater, AtMost, AtLeast}
use Rattle.occ_term.specs.Terms.{Expression, Constant, Cell, Component, Letter, Binary, Unary, And, Or, Conversion}
use Rattle.occ_machine.specs.declared.instr.Instr.{Instr}

-- the operators that come to the same, a value or a fault, with their operands swapped
abbrev pub commutes : Operator → Bool
commutes Add = true
commutes Subtract = false
commutes Multiply = true
commutes Divide = false
commutes Remainder = false
commutes Plus = true
commutes Minus = false
commutes Times = true
commutes BitAnd = true
commutes BitOr = true
commutes BitXor = true
commutes ShiftLeft = false
commutes ShiftRight = false
commutes After = false
commutes Equal = true
commutes Unequal = true
commutes Less = false
commutes Greater = false
commutes AtMost = false
commutes AtLeast = false

abbrev pub is_cell : Expression → Bool
is_cell (Constant v) = false
is_cell (Cell c) = true
is_cell (Component p) = false
is_cell (Letter line text e) = false
is_cell (Binary op type line a b) = false
is_cell (Unary op type line a) = false
is_cell (And a b) = false
is_cell (Or a b) = false
is_cell (Conversion to line a) = false

abbrev pub is_cell_or_constant : Expression → Bool
is_cell_or_constant (Constant v) = true
is_cell_or_constant (Cell c) = true
is_cell_or_constant (Component p) = false
is_cell_or_constant (Letter line text e) = false
is_cell_or_constant (Binary op type line a b) = false
is_cell_or_constant (Unary op type line a) = false
is_cell_or_constant (And a b) = false
is_cell_or_constant (Or a b) = false
is_cell_or_constant (Conversion to line a) = false

-- A cell on the left comes second where the operator commutes: its value can't fault, and with the operator it is done at once.
-- It comes first where a cell or a constant stands on the right, since all three are done at once.
abbrev pub comes_second : Operator → Expression → Expression → Bool
comes_second op left right = is_cell left && (commutes op && not (is_cell_or_constant right))

-- the code of both operands, and what stands behind it
abbrev pub both_operands : (left_is_second : Bool) (left right behind : List (Instr ℕ)) → List (Instr ℕ)
both_operands false left right behind = left ++ (right ++ behind)
both_operands true left right behind = right ++ (left ++ behind)
