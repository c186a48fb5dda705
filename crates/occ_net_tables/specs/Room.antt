-- Room for what a turn makes possible, and what stays where a growth is refused.
-- Manual: nothing; this is (own).
use Rattle.std.specs.Prelude.{List, length, map, slice_get, vec_capacity, vec_len, ℕ, ◌+◌, ◌≡◌, ◌≤◌, Vec}
use Rattle.std.specs.Option.{option_map_or}
use Rattle.occ_term.specs.Frames.{Variables}
use Rattle.occ_machine.specs.Machine.{Body}
use Rattle.occ_machine.specs.declared.task.Wait.{Wait}
use Rattle.occ_machine.specs.declared.task.Wait.TheVariants.{Ready, Took, Offers, Awaits, Chooses, Joins, Halted, Done, Faulted}
use Rattle.occ_net_replay.specs.Replay.{branch_frame, HasTask, Tasks, taken_from}
use Rattle.occ_net_tables.specs.declared.tables.Tables.{Tables}
use Rattle.occ_machine.specs.Compiled.{Program}
use Rattle.occ_machine.specs.declared.task.Task.{Task}

-- there is room for so many more ready processes
pub record HasRoom (n : Tables) (more : ℕ) : Type 0 where
  pub ready : vec_len n.ready + more ≤ vec_capacity n.ready

-- how many more processes may be ready after a turn that ended so
abbrev pub more_ready : Wait → ℕ
more_ready Ready = 1
more_ready (Took arm indices m) = 1
more_ready (Offers c m) = 1
more_ready (Awaits c) = 1
more_ready (Chooses pri arms) = 1
more_ready (Joins ns) = length ns
more_ready Halted = 1
more_ready Done = 1
more_ready (Faulted e) = 1

-- both hold the same
pub record AreSame (old new : Tables) : Type 0 where
  pub tasks : new.tasks.items ≡ old.tasks.items
  pub ready : new.ready.items ≡ old.ready.items
  pub offering : new.offering.items ≡ old.offering.items
  pub awaiting : new.awaiting.items ≡ old.awaiting.items
  pub parents : new.parents.items ≡ old.parents.items
  pub unfinished : new.unfinished.items ≡ old.unfinished.items
  pub fault : new.fault ≡ old.fault
  pub used : new.used ≡ old.used
  pub trace : new.trace ≡ old.trace

-- ---- private contracts alone cite what follows

-- the frame with which a branch begins
abbrev pub first_frame : List Body → Variables → ℕ → Variables
first_frame bodies f n = option_map_or (λ b. branch_frame b f) (slice_get bodies n) f

-- so begin the branches of a process with this frame
pub record AreFirstFrames (bodies : List Body) (frames : List Variables) (ns : List ℕ) : Type 0 where
  pub frame : Variables
  pub are : frames ≡ map (first_frame bodies frame) ns

abbrev pub first_frames : Program → Variables → List ℕ → List Variables
first_frames p f ns = map (first_frame p.bodies f) ns

-- of whatever frame the process with this number has
abbrev pub BeginFrom : {A : Type 0} → Program → Tasks → ℕ → List ℕ → Vec Variables A → Type 0
BeginFrom p tasks n ns frames = (t : Task) → HasTask tasks n t → frames.items ≡ first_frames p t.frame ns

-- a frame with what one branch can write
abbrev pub with_branch : Program → Tasks → ℕ → Variables → Variables
with_branch p tasks n f = taken_from (slice_get p.bodies n) (slice_get tasks n) f

-- one more stands in a list, which has as much room at least
abbrev pub HasOneMore : {A : Type 0} → (old new : Vec ℕ A) → Type 0
HasOneMore old new = (vec_len new ≡ vec_len old + 1) × (vec_capacity old ≤ vec_capacity new)
