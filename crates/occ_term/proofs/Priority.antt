-- The rule of ready arms.
use Rattle.std.proofs.Common.{◌≡◌, ℕ, Bool, true, false, List, [], ◌∷◌, refl, Option, Some, inl, inr}
use Rattle.std.specs.Prelude.{slice_get, if◌then◌else◌}
use Rattle.occ_term.specs.Selecting.{is_ready_on, ready_among}
use Rattle.occ_term.specs.Priority.{IsFirstReady, PriorityTakesFirst}

module _ {A : Type 0} (channel : A → Option ℕ) (offers : ℕ → Bool) (a : A) where
  abbrev IsFirst : List A → Type 0
  IsFirst arms = slice_get (ready_among channel offers arms) 0 ≡ Some a → IsFirstReady channel offers a arms

  by_readiness : (x : A) (xs : List A) → IsFirst xs → (b : Bool) → is_ready_on offers (channel x) ≡ b → slice_get (if b then x ∷ ready_among channel offers xs else ready_among channel offers xs) 0 ≡ Some a → IsFirstReady channel offers a (x ∷ xs)
  by_readiness x xs later true r q = inl (r, cc)
  by_readiness x xs later false r q = inr (r, later q)

  first_ready : (arms : List A) → IsFirst arms
  first_ready [] q = cc
  first_ready (x ∷ xs) q = by_readiness x xs (first_ready xs) (is_ready_on offers (channel x)) refl q

pub priority_takes_first : {A : Type 0} (channel : A → Option ℕ) → PriorityTakesFirst channel
priority_takes_first channel pick offers arms a q = first_ready channel offers a arms q
