-- A turn that has come to its stop, before anything happens behind it; and whether it looks past the keyboard's bytes.
-- Manual: nothing; this is (own).
use Rattle.std.specs.Prelude.{IsTrue, List, Some, length, slice_set, ℕ, ◌%◌, ◌≡◌}
use Rattle.occ_machine.specs.Compiled.{Program}
use Rattle.occ_machine.specs.SameStop.{ready_with}
use Rattle.occ_machine.specs.declared.task.Task.{Task}
use Rattle.occ_term.specs.declared.message.Part.{Part}
use Rattle.occ_proc.specs.Turns.{IsLeftReady, left_message, standing_at}
use Rattle.occ_proc.specs.declared.scratch.Scratch.{Scratch}
use Rattle.occ_live_laws.specs.Live.{StaysWithin}
use Rattle.occ_net_replay.specs.Following.{AreBytes}
use Rattle.occ_net_replay.specs.Replay.{HasTask, Net, may_go}
use Rattle.occ_net_replay.specs.declared.choice.Choice.{Choice}
use Rattle.occ_net_tables.specs.declared.tables.Tables.{Tables}
use Rattle.occ_net_tables.specs.declared.turning.Begun.{Begun}
use Rattle.occ_net_tables.specs.Holding.{Holds}
use Rattle.occ_net_tables.specs.Rows.{HasTakenTurn}
use Rattle.occ_net_tables.specs.Settling.{IsTurnAt, Standing, tables_with}
use Rattle.occ_net_tables.specs.Tasks.{IsThere}
use Rattle.occ_net_tables.specs.Turning.{SettlesTurn}

-- the network stands where a replay of some keyboard has come to that can go on
pub record CanBegin (p : Program) (n : Tables) : Type 0 where
  pub keyboard : List ℕ
  pub bytes : AreBytes keyboard
  pub standing : Standing p keyboard n

-- The process that the choice selects has come to its next stop, by a turn that left these items of a message. Its task is here as the turn
-- left it, and all else is as it was.
pub record BeganTurn (p : Program) (choice : Choice) (old : Tables) (begun : Begun) (items : List Part) (new : Tables) : Type 0 where
  pub selects : begun.place ≡ choice.which % length old.ready.items
  pub first : Task
  pub there : HasTask old.tasks.items begun.number first
  pub may : IsTrue (may_go first.wait)
  pub left : Task
  pub tasks : new.tasks.items ≡ slice_set old.tasks.items begun.number (Some left)
  pub others : new ≡ record old { tasks = new.tasks }
  pub ready : IsLeftReady begun.end left.wait
  pub turn : IsTurnAt p old begun.place begun.number (ready_with left (standing_at begun.end items left.wait))

abbrev pub BeginsTurn : Program → Choice → Tables → Begun → Scratch → Tables → Type 0
BeginsTurn p choice old begun scratch new = BeganTurn p choice old begun (left_message scratch) new

-- the process took this turn, which left what the scratch has
abbrev pub IsBegun : Program → List ℕ → Tables → Begun → Scratch → Type 0
IsBegun p keyboard n begun scratch = HasTakenTurn p keyboard n begun.place begun.number begun.end (left_message scratch)

-- that turn of the network, with this pick
abbrev pub SettlesBegun : Program → List ℕ → Begun → Scratch → (pick : ℕ) → Tables → Tables → Type 0
SettlesBegun p keyboard begun s pick old new = SettlesTurn p keyboard begun.place begun.number begun.end s pick old new

-- ---- the keyboard's bytes

-- the process has a task here
abbrev pub HasOwnTask : Tables → ℕ → Type 0
HasOwnTask n number = IsThere n.tasks.items number

-- Of whatever network the tables held before it: the turn does not look past these bytes.
abbrev pub StaysWithinBytes : List ℕ → Tables → Begun → (pick : ℕ) → Type 0
StaysWithinBytes keyboard n begun pick =
    (p : Program) (first left : Task) (items : List Part) (net : Net) → Holds p keyboard (tables_with n begun.number first) net → IsTrue (may_go first.wait) → HasTask n.tasks.items begun.number left
    → StaysWithin pick net begun.number (ready_with left (standing_at begun.end items left.wait))

-- of each such network: it does
abbrev pub LooksPastBytes : List ℕ → Tables → Begun → (pick : ℕ) → Type 0
LooksPastBytes keyboard n begun pick =
    (p : Program) (first left : Task) (items : List Part) (net : Net) → Holds p keyboard (tables_with n begun.number first) net → IsTrue (may_go first.wait) → HasTask n.tasks.items begun.number left
    → StaysWithin pick net begun.number (ready_with left (standing_at begun.end items left.wait)) → ⊥

-- so many of the bytes are taken
abbrev pub with_used : Tables → ℕ → Tables
with_used n known = record n { used = known }
