-- The rule of ready arms: with priority none that is textually earlier is ready.
-- Manual: combining processes.
use Rattle.std.specs.Prelude.{Bool, IsFalse, IsTrue, List, Option, [], ℕ, ◌∷◌, ◌≡◌, ◌⊎◌, Some, true}
use Rattle.occ_term.specs.Selecting.{is_ready_on, chosen_of}

module _ {A : Type 0} (channel : A → Option ℕ) (offers : ℕ → Bool) (a : A) where
  abbrev pub IsFirstReady : List A → Type 0
  IsFirstReady [] = ⊥
  IsFirstReady (x ∷ xs) = (IsTrue (is_ready_on offers (channel x)) × (x ≡ a)) ⊎ (IsFalse (is_ready_on offers (channel x)) × IsFirstReady xs)

-- of any arms with channels
abbrev pub PriorityTakesFirst : {A : Type 0} → (A → Option ℕ) → Type 0
PriorityTakesFirst {A = A} channel =
    (pick : ℕ) (offers : ℕ → Bool) (arms : List A) (a : A) → chosen_of channel true pick offers arms ≡ Some a → IsFirstReady channel offers a arms
