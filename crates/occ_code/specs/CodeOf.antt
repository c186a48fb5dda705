-- The code of a source: a body for each process, which is what the code of the process's term is.
-- Manual: nothing; this is (own).
use Rattle.std.specs.Prelude.{List, Vec, [], map, reverse, ℕ, ⊤, ◌*◌, ◌++◌, ◌<◌, ◌≤◌, ◌∷◌, ◌≡◌}
use Rattle.std.specs.Arc.{arc_value}
use Rattle.std.specs.declared.sync.Arc.{Arc}
use Rattle.occ_term.specs.Terms.{Term}
use Rattle.occ_term.specs.UnfoldedProgram.{UnfoldedProgram, meaning}
use Rattle.occ_term.specs.Processes.{Numbered, processes_of}
use Rattle.occ_term.specs.Uses.{uses_of}
use Rattle.occ_term.specs.Sizes.{size_of}
use Rattle.occ_machine.specs.SameStop.{Lists, used_by}
use Rattle.occ_machine.specs.Machine.{Body}
use Rattle.occ_machine.specs.Compiled.{Program, IsCompiledFrom, most_instructions}
use Rattle.occ_code.specs.Emitted.{body_of, instructions_of}
use Rattle.occ_code.specs.Within.{AllWithin}
use Rattle.occ_code.specs.declared.compiling.CodeFault.{CodeFault}
use Rattle.occ_code.specs.declared.compiling.CodeFault.TheVariants.{TooLarge, BadQuantum, Memory}

-- the body of a term, for turns of this quantum: its code, the cells that the term uses, and those that it writes
pub record IsBodyOf (t : Term) (quantum : ℕ) (b : Body) : Type 0 where
  pub is : b ≡ body_of t b.cells b.writes quantum
  pub cells : Lists b.cells (used_by (uses_of t))
  pub writes : Lists b.writes (uses_of t).writes

-- a body for each process
abbrev pub AreBodiesOf : List Numbered → ℕ → List Body → Type 0
AreBodiesOf [] quantum [] = ⊤
AreBodiesOf [] quantum (b ∷ bs) = ⊥
AreBodiesOf (p ∷ ps) quantum [] = ⊥
AreBodiesOf (p ∷ ps) quantum (b ∷ bs) = IsBodyOf p.term quantum b × AreBodiesOf ps quantum bs

-- the code of this source: it does what the source does, and each body is what the code of its term is
pub record IsCodeOf (u : UnfoldedProgram) (quantum : ℕ) (p : Program) : Type 0 where
  pub does : IsCompiledFrom u quantum p
  pub emitted : AreBodiesOf (processes_of (meaning u)) quantum p.bodies

-- what means the same on the same channels has one code for each quantum and mode of errors
abbrev pub OneCode : Type 0
OneCode = (u v : UnfoldedProgram) (quantum : ℕ) (p q : Program) → meaning u ≡ meaning v → u.channels ≡ v.channels → p.errors ≡ q.errors → IsCodeOf u quantum p → IsCodeOf v quantum q → p ≡ q

-- the greatest quantum
abbrev pub most_quantum : ℕ
most_quantum = 65536

-- how many stops of loops a turn may take at most
abbrev pub IsQuantum : ℕ → Type 0
IsQuantum quantum = (0 < quantum) × (quantum ≤ most_quantum)

-- A quantum that is none is refused before all else. Want of memory says nothing more. The other says that 32 instructions for
-- each node are more than a program may have.
abbrev pub CodeRefuses : CodeFault → ℕ → UnfoldedProgram → Type 0
CodeRefuses TooLarge quantum u = IsQuantum quantum × (most_instructions < 32 * (size_of (meaning u)).nodes)
CodeRefuses BadQuantum quantum u = IsQuantum quantum → ⊥
CodeRefuses Memory quantum u = IsQuantum quantum

-- ---- private contracts alone cite what follows

-- Bodies were added for these processes, the one of the last process first; they are theirs where no cell is past the limit.
pub record AddsBodies (quantum : ℕ) (before : List Body) (ps : List Numbered) (after : List Body) : Type 0 where
  pub more : List Body
  pub added : after ≡ before ++ more
  pub are : AllWithin ps → AreBodiesOf ps quantum (reverse more)

-- the same of a list of shared bodies
abbrev pub AddsShared : {A B : Type 0} → ℕ → Vec (Arc Body B) A → List Numbered → Vec (Arc Body B) A → Type 0
AddsShared quantum old ps new = AddsBodies quantum (map arc_value old.items) ps (map arc_value new.items)

-- behind the bodies of the processes after them those of one part are added, and with these they are those of all
abbrev pub AddsBefore : {X A B : Type 0} → (X → List Numbered) → (X → X) → ℕ → Vec (Arc Body B) A → Vec (Arc Body B) A → Type 0
AddsBefore {X} processes one quantum old new =
    (before : List Body) (others : X) → AddsBodies quantum before (processes others) (map arc_value old.items)
    → AddsBodies quantum before (processes (one others)) (map arc_value new.items)

-- all bodies of a term's processes, where no cell is past the limit
abbrev pub HasBodiesOf : {A B : Type 0} → Term → ℕ → Vec (Arc Body B) A → Type 0
HasBodiesOf t quantum bodies = AllWithin (processes_of t) → AreBodiesOf (processes_of t) quantum (map arc_value bodies.items)

abbrev pub IsRefused : CodeFault → Term → Type 0
IsRefused TooLarge t = most_instructions < instructions_of (processes_of t)
IsRefused BadQuantum t = ⊥
IsRefused Memory t = ⊤
