-- Expressions under a scope: their types, and what they unfold to.
-- Manual: expressions; data types; variables and values; abbreviations. Every step answers nothing where the expression is refused.
use Rattle.std.specs.Prelude.{Bool, List, None, Option, Some, [], cond, length, map, pos, neg_ℤ, true, ℕ, ℤ, ◌&&◌, ◌∷◌}
use Rattle.occ_text.specs.Words.{Lit, number, byte, text}
use Rattle.occ_tree_grammar.specs.Many.{◌>>=◌}
use Rattle.occ_tree_grammar.specs.declared.tree.expr.Primitive.{Primitive as PrimitiveTree}
use Rattle.occ_tree_grammar.specs.declared.tree.expr.Monadic.TheVariants as m
use Rattle.occ_tree_grammar.specs.declared.tree.expr.Logic.{Logic}
use Rattle.occ_tree_grammar.specs.declared.tree.expr.Logic.TheVariants as l
use Rattle.occ_tree_grammar.specs.Expressions.Trees.{Expression, alone, two, one, convert, limit, chain, Operands, no_operand, more_operands, Operand, variable, literal, truth, parens, Expressions, no_expression, more_expressions}
use Rattle.occ_term.specs.declared.primitive.Primitive.{Primitive}
use Rattle.occ_term.specs.declared.primitive.Primitive.TheVariants.{Bool as Boolean, Byte, Int}
use Rattle.occ_term.specs.declared.expression.Operator.{Operator}
use Rattle.occ_term.specs.declared.expression.Monadic.{Monadic}
use Rattle.occ_term.specs.declared.expression.Monadic.TheVariants.{Negate, BitNot, Not}
use Rattle.occ_term.specs.Messages.{is_of}
use Rattle.occ_term.specs.Terms as T
use Rattle.occ_term.specs.Terms.{Constant, Cell, Component, Letter, Binary, Unary, And, Or, Conversion, Place, place, Subscripts, no_subscripts, then_subscript, Array, Cells, Text}
use Rattle.occ_check_meaning.specs.Scope.{keep, Stretch, Known, a_value, a_string, some_cells, some_channels, a_protocol, Names}
use Rattle.occ_check_meaning.specs.Constants.{constant, is_within}
use Rattle.occ_check_meaning.specs.Operators.{primitive_of, is_same_type, operator_of, result_of, takes_operand}

-- what an expression is: one value, or a whole array with its sizes
pub data Typed : Type 0 where
  single : Primitive → T.Expression → Typed
  whole : Primitive → (sizes : List ℕ) → Array → Typed

-- (refusal: wrong type) one value
abbrev pub as_single : Typed → Option (Primitive × T.Expression)
as_single (single type e) = Some (type, e)
as_single (whole type sizes a) = None

-- (refusal: wrong type) one value of this type
abbrev pub of_type : Primitive → Typed → Option T.Expression
of_type type (single t e) = keep (is_same_type t type) e
of_type type (whole t sizes a) = None

-- ---- literals

-- (refusal: wrong type) a literal's value must be in its type
abbrev pub constant_of : Primitive → ℤ → Option Typed
constant_of type v = keep (is_of type v) (single type (Constant v))

abbrev pub are_bytes : List ℤ → Bool
are_bytes [] = true
are_bytes (b ∷ bs) = is_of Byte b && are_bytes bs

-- (refusal: wrong type) a string is an array of BYTE whose SIZE is an INT
abbrev pub string_of : List ℤ → Option (List ℤ)
string_of bytes = keep (are_bytes bytes && is_of Int (pos (length bytes))) bytes

abbrev pub whole_string : List ℤ → Typed
whole_string bytes = whole Byte (length bytes ∷ []) (Text bytes)

-- a number is INT, a byte is BYTE, where no type is given; none can be given to a string
abbrev pub typed_literal : Lit → Option PrimitiveTree → Option Typed
typed_literal (number v) None = constant_of Int v
typed_literal (number v) (Some type) = constant_of (primitive_of type) v
typed_literal (byte b) None = constant_of Byte (pos b)
typed_literal (byte b) (Some type) = constant_of (primitive_of type) (pos b)
typed_literal (text bytes) None = string_of (map pos bytes) >>= λ bs. Some (whole_string bs)
typed_literal (text bytes) (Some type) = None

-- ---- names under subscripts

abbrev pub joined : Subscripts → Subscripts → Subscripts
joined no_subscripts es = es
joined (then_subscript d ds) es = then_subscript d (joined ds es)

-- (refusals: wrong type, where there are more subscripts than sizes; subscript, where a constant one is outside) the sizes left
abbrev pub left_by : Subscripts → List ℕ → Option (List ℕ)
left_by no_subscripts sizes = Some sizes
left_by (then_subscript e es) [] = None
left_by (then_subscript e es) (n ∷ ns) = keep (is_within (constant e) n) ns >>= λ left. left_by es left

abbrev pub under : Stretch → Subscripts → Option Stretch
under r es = left_by es r.left >>= λ left. Some (record r { subscripts = joined r.subscripts es; left = left })

abbrev pub place_of : ℕ → Stretch → Place
place_of line r = place line r.first r.sizes r.subscripts

-- a variable that is no array is its cell
abbrev pub read_one : ℕ → Stretch → List ℕ → T.Expression
read_one line r [] = Cell r.first
read_one line r (n ∷ ns) = Component (place_of line r)

abbrev pub read_stretch : ℕ → Primitive → Stretch → List ℕ → Typed
read_stretch line type r [] = single type (read_one line r r.sizes)
read_stretch line type r (n ∷ ns) = whole type (n ∷ ns) (Cells (place_of line r))

-- (refusals: wrong kind, where the name is a channel's or a protocol's; wrong type; subscript) a name that is read
abbrev pub read : ℕ → Known → Subscripts → Option Typed
read line (a_value type v) no_subscripts = Some (single type (Constant v))
read line (a_value type v) (then_subscript e es) = None
read line (a_string bytes) no_subscripts = Some (whole_string bytes)
read line (a_string bytes) (then_subscript e no_subscripts) = keep (is_within (constant e) (length bytes)) (single Byte (Letter line bytes e))
read line (a_string bytes) (then_subscript e (then_subscript f es)) = None
read line (some_cells access type r) es = under r es >>= λ q. Some (read_stretch line type q q.left)
read line (some_channels c r) es = None
read line (a_protocol c) es = None

-- (refusal: wrong type) the first of an array's sizes
abbrev pub first_size : List ℕ → Option ℕ
first_size [] = None
first_size (n ∷ ns) = Some n

-- the SIZE of what a name stands for: of an array of variables, of channels, or of a string
abbrev pub size_of_known : Known → Subscripts → Option ℕ
size_of_known (a_value type v) es = None
size_of_known (a_string bytes) no_subscripts = Some (length bytes)
size_of_known (a_string bytes) (then_subscript e es) = None
size_of_known (some_cells access type r) es = under r es >>= λ q. first_size q.left
size_of_known (some_channels c r) es = under r es >>= λ q. first_size q.left
size_of_known (a_protocol c) es = None

-- ---- expressions

abbrev pub two_typed : ℕ → Operator → Primitive × T.Expression → Primitive × T.Expression → Option Typed
two_typed line op a b = result_of op a.0 b.0 >>= λ type. Some (single type (Binary op a.0 line a.1 b.1))

abbrev pub one_typed : ℕ → Monadic → Primitive × T.Expression → Option Typed
one_typed line op a = keep (takes_operand op a.0) (single a.0 (Unary op a.0 line a.1))

abbrev pub logic_of : Logic → T.Expression → T.Expression → T.Expression
logic_of l.And a b = And a b
logic_of l.Or a b = Or a b

abbrev pub truth_of : Bool → ℤ
truth_of b = cond b (pos 1) (pos 0)

abbrev pub limit_of : Bool → ℤ
limit_of b = cond b (pos 2147483647) (neg_ℤ (pos 2147483648))

unfoldable mutual
  pub typed : Names → ℕ → Expression → Option Typed
  typed ns line (alone a) = typed_operand ns line a
  typed ns line (two a op b) = do
    x ← typed_operand ns line a >>= as_single
    y ← typed_operand ns line b >>= as_single
    two_typed line (operator_of op) x y
  typed ns line (one m.Negate a) = typed_operand ns line a >>= as_single >>= one_typed line Negate
  typed ns line (one m.Tilde a) = typed_operand ns line a >>= as_single >>= one_typed line BitNot
  typed ns line (one m.BitNot a) = typed_operand ns line a >>= as_single >>= one_typed line BitNot
  typed ns line (one m.Not a) = typed_operand ns line a >>= as_single >>= one_typed line Not
  typed ns line (one m.Size a) = size_of_operand ns line a >>= λ n. constant_of Int (pos n)
  typed ns line (convert type a) = do
    x ← typed_operand ns line a >>= as_single
    Some (single (primitive_of type) (Conversion (primitive_of type) line x.1))
  typed ns line (limit most) = Some (single Int (Constant (limit_of most)))
  typed ns line (chain op a b others) = do
    x ← typed_operand ns line a >>= of_type Boolean
    y ← typed_operand ns line b >>= of_type Boolean
    e ← typed_chain ns line op (logic_of op x y) others
    Some (single Boolean e)

  -- a chain groups to the left
  pub typed_chain : Names → ℕ → Logic → T.Expression → Operands → Option T.Expression
  typed_chain ns line op left no_operand = Some left
  typed_chain ns line op left (more_operands a others) = do
    x ← typed_operand ns line a >>= of_type Boolean
    typed_chain ns line op (logic_of op left x) others

  pub typed_operand : Names → ℕ → Operand → Option Typed
  typed_operand ns line (variable x es) = do
    k ← ns x
    subs ← typed_subscripts ns line es
    read line k subs
  typed_operand ns line (literal v type) = typed_literal v type
  typed_operand ns line (truth b) = Some (single Boolean (Constant (truth_of b)))
  typed_operand ns line (parens e) = typed ns line e

  -- (refusal: wrong type) each subscript is an INT
  pub typed_subscripts : Names → ℕ → Expressions → Option Subscripts
  typed_subscripts ns line no_expression = Some no_subscripts
  typed_subscripts ns line (more_expressions e es) = do
    x ← typed ns line e >>= of_type Int
    subs ← typed_subscripts ns line es
    Some (then_subscript x subs)

  -- SIZE reads nothing, but the subscripts under it are checked
  pub size_of_operand : Names → ℕ → Operand → Option ℕ
  size_of_operand ns line (variable x es) = do
    k ← ns x
    subs ← typed_subscripts ns line es
    size_of_known k subs
  size_of_operand ns line (literal (number v) type) = None
  size_of_operand ns line (literal (byte b) type) = None
  size_of_operand ns line (literal (text bytes) None) = string_of (map pos bytes) >>= λ bs. Some (length bs)
  size_of_operand ns line (literal (text bytes) (Some type)) = None
  size_of_operand ns line (truth b) = None
  size_of_operand ns line (parens e) = size_of_expression ns line e

  -- parentheses may stand round an array
  pub size_of_expression : Names → ℕ → Expression → Option ℕ
  size_of_expression ns line (alone a) = size_of_operand ns line a
  size_of_expression ns line (two a op b) = None
  size_of_expression ns line (one op a) = None
  size_of_expression ns line (convert type a) = None
  size_of_expression ns line (limit most) = None
  size_of_expression ns line (chain op a b others) = None

-- ---- expressions of a type, and constants among them

abbrev pub typed_as : Names → ℕ → Primitive → Expression → Option T.Expression
typed_as ns line type e = typed ns line e >>= of_type type

-- (refusals: wrong type; not constant) a constant of this type, which does not fault, and whose value is in it
abbrev pub constant_as : Names → ℕ → Primitive → Expression → Option ℤ
constant_as ns line type e = typed_as ns line type e >>= constant >>= λ v. keep (is_of type v) v
