-- Changes of one task in its slot.
-- Manual: nothing; this is (own).
use Rattle.std.specs.Prelude.{List, Some, slice_set, ℕ, ◌+◌, ◌<◌, ◌^◌, ◌≡◌, Option, Vec}
use Rattle.occ_machine.specs.Machine.{Body, Stopping}
use Rattle.occ_machine.specs.declared.task.Task.{Task}
use Rattle.occ_machine.specs.declared.task.Wait.{Wait}
use Rattle.occ_term.specs.declared.message.Part.{Part}
use Rattle.occ_machine.specs.SameStop.{ready_with}
use Rattle.occ_proc.specs.Turns.{HasStop, IsLeftReady, standing_at, left_message}
use Rattle.occ_proc.specs.declared.turn_end.TurnEnd.{TurnEnd}
use Rattle.occ_net_replay.specs.Replay.{Tasks, HasTask, made_ready, Net}
use Rattle.occ_term.specs.declared.message.Message.{Message}
use Rattle.occ_machine.specs.declared.task.Wait.TheVariants.{Offers}
use Rattle.occ_machine.specs.Compiled.{Program}
use Rattle.occ_net_tables.specs.declared.tables.Tables.{Tables}
use Rattle.occ_net_tables.specs.Holding.{HeldBy, Holds}
use Rattle.occ_proc.specs.declared.scratch.Scratch.{Scratch}

-- the process has begun
pub record IsThere (tasks : Tasks) (n : ℕ) : Type 0 where
  pub task : Task
  pub there : HasTask tasks n task

-- it has a turn
pub record MayTakeTurn (body : Body) (tasks : Tasks) (n : ℕ) : Type 0 where
  pub task : Task
  pub there : HasTask tasks n task
  pub counts : task.turns + 1 < 2 ^ 64
  pub stops : HasStop body task

-- It has taken a turn that ended so and left these items of a message. Its task is left as the turn left it.
pub record EndedBy (body : Body) (old : Tasks) (n : ℕ) (t : Task) (end : TurnEnd) (items : List Part) (new : Tasks) : Type 0 where
  pub last : Task
  pub stops : Stopping body t (ready_with last (standing_at end items last.wait))
  pub left : IsLeftReady end last.wait
  pub is : new ≡ slice_set old n (Some last)

-- its task has taken a turn, and is left as ready
pub record Advanced (body : Body) (old : Tasks) (n : ℕ) (t : Task) (wait : Wait) (new : Tasks) : Type 0 where
  pub after : Task
  pub stops : Stopping body t after
  pub waits : after.wait ≡ wait
  pub is : new ≡ slice_set old n (Some (made_ready after))

-- what it stood at was taken out
pub record IsTaken (old : Tasks) (n : ℕ) (t : Task) (wait : Wait) (new : Tasks) : Type 0 where
  pub waits : t.wait ≡ wait
  pub is : new ≡ slice_set old n (Some (made_ready t))

-- whatever network the tables hold, the process has this task
abbrev pub HoldsTask : Tables → ℕ → Task → Type 0
HoldsTask tables n t = HeldBy tables (λ net. HasTask net.tasks n t)

-- or it has not begun
abbrev pub HasNoTask : Tables → ℕ → Type 0
HasNoTask tables n = (p : Program) (keyboard : List ℕ) (net : Net) (t : Task) → Holds p keyboard tables net → HasTask net.tasks n t → ⊥

-- ---- of whatever task it has; private contracts alone cite these

abbrev pub WaitSet : Tasks → ℕ → Wait → Tasks → Type 0
WaitSet old n wait new = (t : Task) → HasTask old n t → new ≡ slice_set old n (Some (ready_with t wait))

abbrev pub WaitTaken : Tasks → ℕ → Wait → Tasks → Type 0
WaitTaken old n wait new = (t : Task) → HasTask old n t → IsTaken old n t wait new

abbrev pub EndsTurn : {A : Type 0} → Body → (old : Vec (Option Task) A) → ℕ → Scratch → (new : Vec (Option Task) A) → TurnEnd → Type 0
EndsTurn body old n scratch new end = (t : Task) → HasTask old.items n t → EndedBy body old.items n t end (left_message scratch) new.items

-- the message that it offered
abbrev pub OfferTaken : Tasks → ℕ → Message → Tasks → Type 0
OfferTaken old n message new = (t : Task) (chan : ℕ) (m : Message) → HasTask old n t → t.wait ≡ Offers chan m → (message ≡ m) × (new ≡ slice_set old n (Some (made_ready t)))

-- a message that it offers
abbrev pub IsOffered : Tasks → ℕ → Message → Type 0
IsOffered tasks n message = (t : Task) (chan : ℕ) (m : Message) → HasTask tasks n t → t.wait ≡ Offers chan m → message ≡ m
