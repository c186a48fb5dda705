-- The choices of a plan of turns, by number.
use Rattle.std.proofs.Common.{◌≡◌, ℕ, zero, suc, ◌+◌, ◌<◌, ◌≤◌, length, Some, None, refl, ap, ◌∙◌, arith}
use Rattle.std.specs.Prelude.{slice_get}
use Rattle.occ_net_replay.specs.declared.choice.Choice.{Choice}
use Rattle.occ_choices.specs.Plans.{turns_from}

pub turns_length : (k n : ℕ) → length (turns_from k n) ≡ n
turns_length k zero = refl
turns_length k (suc n) = let h = turns_length (k + 1) n in omega (arith, h)

abbrev pub turn_number : ℕ → Choice
turn_number k = record { which = k; pick = 0 }

pub turns_at : (i k n : ℕ) → i < n → slice_get (turns_from k n) i ≡ Some (turn_number (k + i))
turns_at i k zero h = absurd (omega arith)
turns_at zero k (suc n) h = let e : k ≡ k + 0 = omega arith in ap (λ m. Some (turn_number m)) e
turns_at (suc i) k (suc n) h =
    let e : k + 1 + i ≡ k + suc i = omega arith in
    turns_at i (k + 1) n (omega arith) ∙ ap (λ m. Some (turn_number m)) e

pub turns_past : (i k n : ℕ) → n ≤ i → slice_get (turns_from k n) i ≡ None
turns_past i k zero h = refl
turns_past zero k (suc n) h = absurd (omega arith)
turns_past (suc i) k (suc n) h = turns_past i (k + 1) n (omega arith)
