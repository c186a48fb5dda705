-- Turns in a row of one process, over tables.
-- Manual: nothing; this is (own).
use Rattle.std.specs.Prelude.{[], List, None, Option, Some, Vec, get_or, length, slice_get, slice_set, suc, take, zero, ℕ, ◌++◌, ◌+◌, ◌≤◌, ◌∷◌, ◌≡◌}
use Rattle.occ_term.specs.declared.message.Part.{Part}
use Rattle.occ_machine.specs.Compiled.{Program}
use Rattle.occ_machine.specs.Machine.{Body}
use Rattle.occ_machine.specs.SameStop.{ready_with}
use Rattle.occ_machine.specs.declared.task.Task.{Task}
use Rattle.occ_proc.specs.Stretches.{CanTakeUpTo, InRow}
use Rattle.occ_proc.specs.Turns.{IsLeftReady, left_message, standing_at}
use Rattle.occ_proc.specs.declared.scratch.Scratch.{Scratch}
use Rattle.occ_proc.specs.declared.turn_end.TurnEnd.{TurnEnd}
use Rattle.occ_net_replay.specs.declared.choice.Choice.{Choice}
use Rattle.occ_net_replay.specs.Replay.{HasTask, Net, OneTurn, Tasks, ending_of, ready_from}
use Rattle.occ_net_tables.specs.declared.running.Keep.{Keep}
use Rattle.occ_net_tables.specs.declared.tables.Tables.{Tables}
use Rattle.occ_net_tables.specs.Holding.{Holds}
use Rattle.occ_net_tables.specs.Places.{kept_by}
use Rattle.occ_net_tables.specs.Endings.{GoesOn}
use Rattle.occ_net_tables.specs.Running.{HasRun}
use Rattle.occ_net_tables.specs.Settling.{Standing, StandsBehind, TurnsBehind}

-- ---- private contracts alone cite what stands here

-- it can take up to so many turns in a row
pub record MayTakeRow (body : Body) (tasks : Tasks) (n most : ℕ) : Type 0 where
  pub task : Task
  pub there : HasTask tasks n task
  pub goes : CanTakeUpTo body most task

-- It has taken so many turns in a row, the last of which ended so and left these items of a message. Its task is left as that turn left it.
pub record RowEndedBy (body : Body) (old : Tasks) (n : ℕ) (t : Task) (count : ℕ) (end : TurnEnd) (items : List Part) (new : Tasks) : Type 0 where
  pub last : Task
  pub turns : InRow body t count (ready_with last (standing_at end items last.wait))
  pub left : IsLeftReady end last.wait
  pub is : new ≡ slice_set old n (Some last)

abbrev pub EndsRow : {A : Type 0} → Body → (old : Vec (Option Task) A) → ℕ → Scratch → (new : Vec (Option Task) A) → ℕ × TurnEnd → Type 0
EndsRow body old n scratch new row = (t : Task) → HasTask old.items n t → RowEndedBy body old.items n t row.0 row.1 (left_message scratch) new.items

-- The process at this place took a turn that ended so and left these items of a message. Its task is here as the turn left it.
pub record HasTakenTurn (p : Program) (keyboard : List ℕ) (n : Tables) (place number : ℕ) (end : TurnEnd) (items : List Part) : Type 0 where
  pub left : Task
  pub there : HasTask n.tasks.items number left
  pub ready : IsLeftReady end left.wait
  pub behind : StandsBehind p keyboard n place number (ready_with left (standing_at end items left.wait))

-- that turn of the network, with this pick
abbrev pub SettlesEnd : Program → List ℕ → (place number : ℕ) → TurnEnd → List Part → (pick : ℕ) → Tables → Tables → Type 0
SettlesEnd p keyboard place number end items pick old new =
    (left : Task) → HasTask old.tasks.items number left → TurnsBehind p keyboard old place number (ready_with left (standing_at end items left.wait)) pick new

-- ---- turns by the choices of a list

-- a turn by this choice of the list to this state, of a network with these ready processes that goes on
pub record OneTurnBy (p : Program) (ready : List ℕ) (list : List Choice) (at : ℕ) (leads : Net → Type 0) (after : Net) : Type 0 where
  pub before : Net
  pub row : leads before
  pub going : ending_of p.errors before ≡ None
  pub same : ready_from 0 before.tasks ≡ ready
  pub choice : Choice
  pub is : slice_get list at ≡ Some choice
  pub turn : OneTurn p choice before after

-- so many turns by the choices of the list from this one on, before each of which these processes are ready
abbrev pub TurnsFrom : Program → List ℕ → List Choice → (from : ℕ) → Net → (count : ℕ) → Net → Type 0
TurnsFrom p ready list from first zero net = first ≡ net
TurnsFrom p ready list from first (suc n) net = OneTurnBy p ready list (from + n) (TurnsFrom p ready list from first n) net

-- whatever state the tables held, they hold the one that so many turns lead to
pub record RowTurnsTo (p : Program) (keyboard : List ℕ) (ready : List ℕ) (list : List Choice) (from : ℕ) (net : Net) (count : ℕ) (new : Tables) : Type 0 where
  pub next : Net
  pub turns : TurnsFrom p ready list from net count next
  pub holds : Holds p keyboard new next

abbrev pub TakesRow : Program → List ℕ → List Choice → (from count : ℕ) → Tables → Tables → Type 0
TakesRow p keyboard list from count old new = (net : Net) → Holds p keyboard old net → RowTurnsTo p keyboard old.ready.items list from net count new

-- the network stands where no more than so many turns have led, and one process alone is ready
pub record StandsAlone (p : Program) (keyboard : List ℕ) (n : Tables) (turns : ℕ) : Type 0 where
  pub standing : Standing p keyboard n
  pub few : length standing.choices ≤ turns
  pub going : GoesOn p n
  pub alone : length n.ready.items ≡ 1

-- behind these, what is kept of so many choices of the list from this one on, which select among these ready processes
abbrev pub kept_more : Keep → List ℕ → List Choice → (from : ℕ) → List Choice → (count : ℕ) → List Choice
kept_more keep ready list from kept zero = kept
kept_more keep ready list from kept (suc n) = kept_more keep ready list from kept n ++ kept_by keep ready (get_or list (from + n) (record { which = 0; pick = 0 })) ∷ []

-- the same among any one process
abbrev pub KeepsRow : Keep → List Choice → (count : ℕ) → (old new : List Choice) → Type 0
KeepsRow keep list count old new = (ready : List ℕ) → length ready ≡ 1 → new ≡ kept_more keep ready list (length old) old count

-- the first choices of the list, as many as were kept, are used; the run goes on, and one process alone is ready
pub record CanRunRow (p : Program) (keyboard : List ℕ) (keep : Keep) (list kept : List Choice) (n : Tables) : Type 0 where
  pub run : HasRun p keyboard keep (take (length kept) list) kept n
  pub going : GoesOn p n
  pub alone : length n.ready.items ≡ 1
