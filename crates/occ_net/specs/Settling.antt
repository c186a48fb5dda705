-- Turns that were taken elsewhere.
-- Manual: nothing; this is (own).
use Rattle.std.specs.Prelude.{List, None, Some, [], false, slice_get, slice_set, ℕ, ◌++◌, ◌∷◌, ◌≡◌}
use Rattle.occ_proc.specs.Turns.{Taken}
use Rattle.occ_net_replay.specs.Replay.{Net, HasTask, ending_of, turns_at}
use Rattle.occ_net.specs.declared.fault.NetFault.{NetFault}
use Rattle.occ_net.specs.declared.fault.NetFault.TheVariants.{Stale, Over, Memory}
use Rattle.occ_net.specs.Networks.{Past, ready_in}

-- the turn's body and the task before it are the network's own, by content
pub record IsOwn (n : Past) (net : Net) (s : Taken) : Type 0 where
  pub body : slice_get n.program.bodies s.before.number ≡ Some s.body
  pub task : HasTask net.tasks s.before.number s.before

-- The network took the turn in: there is one choice more, of the process by its place among the ready ones, and the process is in.
pub record HasSettled (old : Past) (net : Net) (s : Taken) (pick : ℕ) (new : Past) : Type 0 where
  pub going : ending_of old.program.errors net ≡ None
  pub own : IsOwn old net s
  pub place : ℕ
  pub at : slice_get (ready_in net) place ≡ Some s.before.number
  pub is : new ≡ record old { choices = old.choices ++ record { which = place; pick = pick } ∷ []; out = slice_set old.out s.before.number false }

-- An ending comes before all else, and then a turn that is not of the network's own: its process, and how many turns the network's own
-- task of that one has taken. Want of memory says that it was neither.
abbrev pub RefusesTurn : Past → Net → Taken → NetFault → Type 0
RefusesTurn n net s (Over ending) = ending_of n.program.errors net ≡ Some ending
RefusesTurn n net s (Stale number turns) = (ending_of n.program.errors net ≡ None) × (IsOwn n net s → ⊥) × (number ≡ s.before.number) × (turns ≡ turns_at net.tasks number)
RefusesTurn n net s Memory = (ending_of n.program.errors net ≡ None) × IsOwn n net s

-- the network goes on, and the turn is of its own
pub record CanSettle (n : Past) (net : Net) (s : Taken) : Type 0 where
  pub going : ending_of n.program.errors net ≡ None
  pub own : IsOwn n net s

-- ---- private contracts alone cite what follows

-- the number is one of these
pub record IsAmong (numbers : List ℕ) (number : ℕ) : Type 0 where
  pub place : ℕ
  pub at : slice_get numbers place ≡ Some number
