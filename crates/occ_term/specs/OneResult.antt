-- A step, a turn and an ending are one: from the same place nothing else follows.
-- Manual: nothing; this is (own).
use Rattle.std.specs.Prelude.{ℕ, ◌≡◌}
use Rattle.occ_term.specs.declared.fault.Errors.{Errors}
use Rattle.occ_term.specs.Values.{Store}
use Rattle.occ_term.specs.Steps.{Left, Step}
use Rattle.occ_term.specs.Turns.{Turn}
use Rattle.occ_term.specs.System.{System}
use Rattle.occ_term.specs.Runs.{EndsBy, Ending}

abbrev pub OneStep : Type 0
OneStep = (a b c : Left) (s s' s'' : Store) → Step a s b s' → Step a s c s'' → (b ≡ c) × (s' ≡ s'')

abbrev pub OneTurn : Type 0
OneTurn = (q : ℕ) (a b c : Left) (s s' s'' : Store) → Turn q a s b s' → Turn q a s c s'' → (b ≡ c) × (s' ≡ s'')

abbrev pub OneEnding : Type 0
OneEnding = (errors : Errors) (a : System) (x y : Ending) → EndsBy errors a x → EndsBy errors a y → x ≡ y
