-- When the code can evaluate an expression, and what its answer means.
-- Manual: nothing; this is (own).
use Rattle.std.specs.Prelude.{Err, IsTrue, List, None, Ok, Option, Result, get_or, length, pos, ℕ, ℤ, ⊤, ◌*◌, ◌+◌, ◌<◌, ◌≡◌, ◌≤◌}
use Rattle.occ_term.specs.Messages.{Primitive, Int, is_of, Fault, product}
use Rattle.occ_term.specs.Terms.{Expression, Constant, Cell, Component, Letter, Binary, Unary, And, Or, Conversion, Place, place, Subscripts, no_subscripts, then_subscript}
use Rattle.occ_term.specs.Values.{Store, Evaluated, Value, Fails, after, subscript, first_of, TypedOn, value_of, span_of}
use Rattle.occ_term.specs.Uses.{reads_of}
use Rattle.occ_term.specs.Typing.{HasType}
use Rattle.occ_term.specs.Frames.{Variables, holds_cell, at}
use Rattle.occ_term.specs.UnfoldedProgram.{most_cells}

-- the code's answer: a value or a fault
abbrev pub evaluated : {X : Type 0} → Result X Fault → Evaluated X
evaluated (Ok v) = Value v
evaluated (Err e) = Fails e

-- The expression has a type where no cell is declared past those that a program may have; the frame holds each cell that it reads, with a value of
-- the cell's type.
pub record CanBeEvaluated (e : Expression) (f : Variables) : Type 0 where
  pub types : ℕ → Option Primitive
  pub few : (c : ℕ) → most_cells ≤ c → types c ≡ None
  pub type : Primitive
  pub typed : HasType types e type
  pub held : (c : ℕ) → IsTrue (reads_of e c) → IsTrue (holds_cell f c)
  pub values : TypedOn (reads_of e) types (at f)

-- ---- what keeps the code's arithmetic within its words

abbrev pub IsWord : Expression → Store → Type 0
IsWord e s = (v : ℤ) → value_of e s ≡ Value v → IsTrue (is_of Int v)

-- cells that there are have numbers that a program may have
abbrev pub FewCells : ℕ → List ℕ → Type 0
FewCells first sizes = 0 < product sizes → first + product sizes ≤ most_cells

-- each operand's value is an INT, and each array lies among the cells
abbrev mutual
  pub Bounded : Expression → Store → Type 0
  Bounded (Constant v) s = ⊤
  Bounded (Cell c) s = ⊤
  Bounded (Component p) s = BoundedPlace p s
  Bounded (Letter line text e) s = Bounded e s
  Bounded (Binary op type line a b) s = Bounded a s × IsWord a s × Bounded b s × IsWord b s
  Bounded (Unary op type line a) s = Bounded a s × IsWord a s
  Bounded (And a b) s = Bounded a s × Bounded b s
  Bounded (Or a b) s = Bounded a s × Bounded b s
  Bounded (Conversion to line a) s = Bounded a s

  pub BoundedPlace : Place → Store → Type 0
  BoundedPlace (place line first sizes subs) s = FewCells first sizes × BoundedSubscripts subs s

  pub BoundedSubscripts : Subscripts → Store → Type 0
  BoundedSubscripts no_subscripts s = ⊤
  BoundedSubscripts (then_subscript e es) s = Bounded e s × BoundedSubscripts es s

-- the first cell that a place names
abbrev pub first_named : Place → Store → Evaluated ℕ
first_named p s = after (span_of p s) (λ at. Value (first_of at))

-- the first cell of the component with this subscript
abbrev pub first_of_component : ℕ → ℕ → ℕ → List ℕ → Expression → Store → Evaluated ℕ
first_of_component line first size others e s = after (value_of e s) (λ v. after (subscript line size v) (λ i. Value (first + i * product others)))

-- a letter of a string of bytes
abbrev pub letter : ℕ → List ℕ → ℤ → Evaluated ℤ
letter line text v = after (subscript line (length text) v) (λ i. Value (pos (get_or text i 0)))
