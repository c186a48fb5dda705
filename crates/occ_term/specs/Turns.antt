-- From stop to stop: single turns, and turns that pass the stops of loops.
-- Manual: nothing. Where processes stop, and that a turn goes to a stop, is (own).
use Rattle.std.specs.Prelude.{IsFalse, IsTrue, suc, ℕ, ◌≡◌, ◌⊎◌}
use Rattle.occ_term.specs.Values.{Store}
use Rattle.occ_term.specs.Steps.{Left, status, is_running, is_looping, Step}

-- none or more steps, each to what is not at a stop
pub data Steps : Left → Store → Left → Store → Type 0 where
  none : {a : Left} {s : Store} → Steps a s a s
  more : {a b c : Left} {s s' s'' : Store} → Step a s b s' → IsTrue (is_running (status b)) → Steps b s' c s'' → Steps a s c s''

-- A single turn: one or more steps, of which the last leads to a stop.
pub data SingleTurn : Left → Store → Left → Store → Type 0 where
  single_turn : {a b c : Left} {s s' s'' : Store} → Steps a s b s' → Step b s' c s'' → IsFalse (is_running (status c)) → SingleTurn a s c s''

-- A turn: to the quantum-th stop of a loop, or to any other stop before it.
pub data Turn : ℕ → Left → Store → Left → Store → Type 0 where
  stops : {q : ℕ} {a b : Left} {s s' : Store} → SingleTurn a s b s' → (q ≡ 0) ⊎ IsFalse (is_looping (status b)) → Turn (suc q) a s b s'
  passes : {q : ℕ} {a b c : Left} {s s' s'' : Store}
      → SingleTurn a s b s' → IsTrue (is_looping (status b)) → Turn q b s' c s'' → Turn (suc q) a s c s''
