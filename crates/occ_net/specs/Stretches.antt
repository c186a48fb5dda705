-- Turns that one process takes in a row, each but the last of which leaves it ready.
-- Manual: nothing; this is (own).
use Rattle.std.specs.Prelude.{Bool, List, None, Some, [], false, slice_get, slice_set, suc, zero, ℕ, ◌++◌, ◌+◌, ◌<◌, ◌^◌, ◌∷◌, ◌≡◌}
use Rattle.std.specs.Arc.{arc_value}
use Rattle.occ_machine.specs.Machine.{Body}
use Rattle.occ_machine.specs.declared.task.Task.{Task}
use Rattle.occ_proc.specs.Stretches.{CanTakeUpTo, InRow}
use Rattle.occ_net_replay.specs.declared.choice.Choice.{Choice}
use Rattle.occ_net_replay.specs.Replay.{HasTask, Net, ending_of}
use Rattle.occ_net.specs.declared.leasing.Lease.{Lease}
use Rattle.occ_net.specs.Networks.{IsState, Past, ready_in}

-- what is leased can take turns in a row, as long as each leaves it ready
abbrev pub CanGoOn : Lease → Type 0
CanGoOn l = CanTakeUpTo (arc_value l.body) (2 ^ 32) l.task

-- so many turns in a row, by the network's own body and from its own task of the process with that number, lead to this task
pub record AreOwn (n : Past) (net : Net) (number count : ℕ) (after : Task) : Type 0 where
  pub some : 0 < count
  pub body : Body
  pub before : Task
  pub has_body : slice_get n.program.bodies number ≡ Some body
  pub has_task : HasTask net.tasks number before
  pub turns : InRow body before count after

-- the network goes on, and the turns are of its own
pub record TakesAll (n : Past) (net : Net) (number count : ℕ) (after : Task) : Type 0 where
  pub going : ending_of n.program.errors net ≡ None
  pub own : AreOwn n net number count after

-- so many choices of one place behind others, with picks that count on
abbrev pub choices_from : ℕ → ℕ → List Choice → ℕ → List Choice
choices_from place pick choices zero = choices
choices_from place pick choices (suc n) = choices_from place pick choices n ++ record { which = place; pick = pick + n } ∷ []

abbrev pub in_after : List Bool → ℕ → ℕ → List Bool
in_after out number zero = out
in_after out number (suc n) = slice_set out number false

-- the process at this place has taken so many turns, and is in
abbrev pub after_turns : Past → ℕ → ℕ → ℕ → ℕ → Past
after_turns n place pick number count = record n { choices = choices_from place pick n.choices count; out = in_after n.out number count }

-- The network took the turns in: there are as many choices more, each of the process by its place among the ready ones, which is the same
-- throughout, and the process is in.
pub record SettlesAll (old : Past) (number count pick : ℕ) (new : Past) : Type 0 where
  pub place : ℕ
  pub at : (k : ℕ) → k < count → (net : Net) → IsState (after_turns old place pick number k) net → slice_get (ready_in net) place ≡ Some number
  pub is : new ≡ after_turns old place pick number count
