-- Compiled programs: a body for each process, which does what the process's term does.
-- Manual: nothing; this is (own).
use Rattle.std.specs.Prelude.{All, List, [], length, ℕ, ⊤, ◌+◌, ◌≤◌, ◌∷◌, ◌≡◌}
use Rattle.occ_term.specs.UnfoldedProgram.{UnfoldedProgram, IsWellFormed, Lawful, declared, meaning}
use Rattle.occ_term.specs.Processes.{Numbered, processes_of}
use Rattle.occ_term.specs.TermTyping.{Declared}
use Rattle.occ_term.specs.declared.fault.Errors.{Errors}
use Rattle.occ_term.specs.declared.names.Channel.{Channel}
use Rattle.occ_machine.specs.Machine.{Body}
use Rattle.occ_machine.specs.Alike.{DoesAs}

-- the code of a program: a body for each process number, the channels, and what a fault does
pub record Program : Type 0 where
  pub bodies : List Body
  pub channels : List Channel
  pub errors : Errors

-- the body at each place does what the process with that number does
abbrev pub AllDo : Declared → ℕ → List Body → List Numbered → Type 0
AllDo d n [] [] = ⊤
AllDo d n [] (p ∷ ps) = ⊥
AllDo d n (b ∷ bs) [] = ⊥
AllDo d n (b ∷ bs) (p ∷ ps) = (p.number ≡ n) × DoesAs d b p.term × AllDo d (n + 1) bs ps

-- how many instructions there are
abbrev pub instructions_in : List Body → ℕ
instructions_in [] = 0
instructions_in (b ∷ bs) = length b.code + instructions_in bs

-- how many instructions a program's bodies may have in all
abbrev pub most_instructions : ℕ
most_instructions = 262144

-- compiled from this source, for turns that take so many stops of loops at most, within the limit of instructions
pub record IsCompiledFrom (u : UnfoldedProgram) (quantum : ℕ) (p : Program) : Type 0 where
  pub channels : p.channels ≡ u.channels
  pub bodies : AllDo (declared u) 0 p.bodies (processes_of (meaning u))
  pub quanta : All (λ b. b.quantum ≡ quantum) p.bodies
  pub small : instructions_in p.bodies ≤ most_instructions

-- compiled from some source that is well-formed and keeps the usage rules
pub record IsCompiled (p : Program) : Type 0 where
  pub source : UnfoldedProgram
  pub well_formed : IsWellFormed source
  pub lawful : Lawful source
  pub quantum : ℕ
  pub compiled : IsCompiledFrom source quantum p
