-- What emitting leaves.
-- Manual: nothing; this is (own).
use Rattle.std.specs.Prelude.{List, Vec, length, reverse, ℕ, ◌++◌, ◌-◌, ◌∷◌, ◌≡◌, ◌≤◌}
use Rattle.occ_machine.specs.declared.instr.Instr.{Instr}

-- Code is emitted from its end to its start, so that how far a jump leads is known when the jump is emitted.
abbrev pub emitted : List (Instr ℕ) → List (Instr ℕ)
emitted is = reverse is

-- what was emitted after what was there before
pub record Emits (before piece after : List (Instr ℕ)) : Type 0 where
  pub more : List (Instr ℕ)
  pub added : after ≡ before ++ more
  pub is : emitted more ≡ piece

-- what was emitted after one instruction whose place is known
pub record Behind (before piece after : List (Instr ℕ)) : Type 0 where
  pub first : Instr ℕ
  pub more : List (Instr ℕ)
  pub added : after ≡ before ++ first ∷ more
  pub is : emitted more ≡ piece

-- the same, of what was emitted to a list of instructions
abbrev pub AddsCode : {A : Type 0} → Vec (Instr ℕ) A → List (Instr ℕ) → Vec (Instr ℕ) A → Type 0
AddsCode old piece new = Emits old.items piece new.items

-- what was emitted after the instruction at this place has become part of a piece, as its body
abbrev pub EmitsAround : {A : Type 0} → ℕ → Vec (Instr ℕ) A → (List (Instr ℕ) → List (Instr ℕ)) → Vec (Instr ℕ) A → Type 0
EmitsAround place old piece new =
    (before body : List (Instr ℕ)) → length before ≡ place → Behind before body old.items → Emits before (piece body) new.items

-- Where the list had so many instructions, before any of these pieces was emitted, they all go on, so the code of each says how
-- far off that is. One is emitted before those that are there.
abbrev pub EmitsBefore : {X A : Type 0} → (X → ℕ → List (Instr ℕ)) → (X → X) → ℕ → Vec (Instr ℕ) A → Vec (Instr ℕ) A → Type 0
EmitsBefore {X} code one end old new =
    (before : List (Instr ℕ)) (others : X) → end ≤ length before → Emits before (code others (length before - end)) old.items
    → Emits before (code (one others) (length before - end)) new.items
