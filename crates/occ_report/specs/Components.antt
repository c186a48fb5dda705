-- The components of arrays that were read under a variable as their subscript.
-- Manual: components of arrays.
use Rattle.std.specs.Prelude.{List, None, Option, Some, [], if◌then◌else◌, int_le, nat_abs, nat_lt, pos, Vec, ℕ, ℤ, ◌&&◌, ◌*◌, ◌+◌, ◌++◌, ◌∷◌, ◌≡◌}
use Rattle.occ_term.specs.Frames.{Variables, in_place}
use Rattle.occ_machine.specs.declared.instr.Instr.{Instr}
use Rattle.occ_machine.specs.declared.instr.Instr.TheVariants.{Push, Load, LoadAt, Subscript}
use Rattle.occ_report.specs.Evaluating.{as_list, is_evaluating}

-- the cell at a subscript, of so many components from a first cell on, each of which has that many cells
abbrev pub subscripted : (first : ℤ) → (size each : ℕ) → (subscript : ℤ) → Option ℕ
subscripted first size each v =
    if int_le (pos 0) v && nat_lt (nat_abs v) size && nat_lt (nat_abs first + nat_abs v * each) 4294967296
    then Some (nat_abs first + nat_abs v * each) else None

-- the cell that these four instructions read, by the value of a variable
abbrev pub read_by_four : Variables → Instr ℕ → Instr ℕ → Instr ℕ → Instr ℕ → Option ℕ
read_by_four f (Push first) (Load place) (Subscript line size each) LoadAt = subscripted first size each (in_place f place)
read_by_four f a b c d = None

-- the cell that a code reads so with its first instructions
abbrev pub read_first : Variables → List (Instr ℕ) → Option ℕ
read_first f (a ∷ b ∷ c ∷ d ∷ others) = read_by_four f a b c d
read_first f code = None

-- From these instructions on: what is read so is kept up to the end of the evaluation.
abbrev pub components_in : Variables → List ℕ → List (Instr ℕ) → List ℕ
components_in f found [] = found
components_in f found (i ∷ others) = components_in f ((if is_evaluating i then found else []) ++ as_list (read_first f (i ∷ others))) others

-- ---- of what code has; private contracts alone cite it

abbrev pub AddsComponent : {A : Type 0} → Variables → Instr ℕ → List (Instr ℕ) → (old new : Vec ℕ A) → Type 0
AddsComponent f i code old new = new.items ≡ (if is_evaluating i then old.items else []) ++ as_list (read_first f code)
