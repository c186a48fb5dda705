-- What a network was made of, and the state that it is in.
-- Manual: nothing; this is (own).
use Rattle.std.specs.Prelude.{Bool, List, None, Option, Some, [], false, if◌then◌else◌, length, replicate, slice_get, slice_set, unwrap_or, ℕ, ◌<◌, ◌^◌, ◌∷◌, ◌≡◌}
use Rattle.occ_machine.specs.Compiled.{Program, IsCompiled}
use Rattle.occ_machine.specs.declared.task.Task.{Task}
use Rattle.occ_net_replay.specs.declared.choice.Choice.{Choice}
use Rattle.occ_term.specs.declared.ending.Ending.{Ending}
use Rattle.occ_net_replay.specs.Following.{AreBytes}
use Rattle.occ_net_replay.specs.Replay.{Net, Replays, Tasks, ending_of, ready_from}
use Rattle.occ_net_tables.specs.Places.{Placed}

-- What a network was made of: its code and its keyboard, the choices of its turns, each `which` a place among the ready processes, and
-- which processes are out, by number.
pub record Past : Type 0 where
  pub program : Program
  pub keyboard : List ℕ
  pub choices : List Choice
  pub out : List Bool

-- the state that the replay of its choices comes to
abbrev pub IsState : Past → Net → Type 0
IsState n net = Replays n.program n.keyboard n.choices net

-- before its first turn, where no process is out
abbrev pub fresh : Program → List ℕ → Past
fresh p keyboard = record { program = p; keyboard = keyboard; choices = []; out = replicate (length p.bodies) false }

-- what is true of every network
pub record IsNetwork (n : Past) : Type 0 where
  pub net : Net
  pub state : IsState n net
  pub places : Placed n.program n.keyboard n.choices n.choices net
  pub compiled : IsCompiled n.program
  pub bytes : AreBytes n.keyboard
  pub few : length n.choices < 2 ^ 63
  pub marked : length n.out ≡ length n.program.bodies

-- so it is in the state that the network has
abbrev pub InState : Past → (Net → Type 0) → Type 0
InState n Says = (net : Net) → IsState n net → Says net

-- ---- processes that may take a turn

-- their numbers, rising
abbrev pub ready_in : Net → List ℕ
ready_in net = ready_from 0 net.tasks

abbrev pub task_begun : Option (Option Task) → Option Task
task_begun None = None
task_begun (Some t) = t

abbrev pub task_numbered : Tasks → Option ℕ → Option Task
task_numbered tasks None = None
task_numbered tasks (Some n) = task_begun (slice_get tasks n)

-- the task of the one at this place
abbrev pub ready_task : Net → ℕ → Option Task
ready_task net i = task_numbered net.tasks (slice_get (ready_in net) i)

-- ---- processes that are out

abbrev pub is_out : List Bool → ℕ → Bool
is_out out number = unwrap_or (slice_get out number) false

-- the first of these numbers that is not out
abbrev pub first_in : List Bool → List ℕ → Option ℕ
first_in out [] = None
first_in out (n ∷ ns) = if is_out out n then first_in out ns else Some n

abbrev pub with_out : Past → ℕ → Bool → Past
with_out n number b = record n { out = slice_set n.out number b }

-- no process is out
abbrev pub all_in : Past → Past
all_in n = record n { out = replicate (length n.out) false }

-- what a lease gives: none where there is an ending, else the least ready number that is not out
abbrev pub leased_at : Option Ending → List Bool → List ℕ → Option ℕ
leased_at None out ready = first_in out ready
leased_at (Some ending) out ready = None

abbrev pub leased : Past → Net → Option ℕ
leased n net = leased_at (ending_of n.program.errors net) n.out (ready_in net)
