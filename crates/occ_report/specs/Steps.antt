-- The lines of a run's turns.
-- Manual: nothing; this is (own).
use Rattle.std.specs.Prelude.{List, None, OnOk, Option, Result, Some, [], codes, drop, length, slice_get, ℕ, ◌+◌, ◌++◌, ◌≡◌, ◌∷◌, Vec, ◌-◌}
use Rattle.std.specs.Fmt.{decimal}
use Rattle.occ_chart.specs.Labels.{arrow_words, message_text}
use Rattle.occ_machine.specs.declared.task.Arm.{Arm}
use Rattle.occ_machine.specs.declared.task.Task.{Task}
use Rattle.occ_machine.specs.declared.task.Wait.{Wait}
use Rattle.occ_machine.specs.declared.task.Wait.TheVariants.{Ready, Took, Offers, Awaits, Chooses, Joins, Halted, Done, Faulted}
use Rattle.occ_machine.specs.Compiled.{Program}
use Rattle.occ_machine.specs.Machine.{Body, Stopping}
use Rattle.occ_net_replay.specs.declared.choice.Choice.{Choice}
use Rattle.occ_term.specs.declared.ending.Ending.TheVariants.{Fault}
use Rattle.occ_term.specs.Endings.{ending_text}
use Rattle.occ_net_replay.specs.Replay.{HasTask, Net, OneTurn, ending_of, first_net, ready_from, selected_process}
use Rattle.occ_net_tables.specs.Holding.{Holds}
use Rattle.occ_net_tables.specs.Outcomes.{Begins}
use Rattle.occ_net_tables.specs.declared.tables.Tables.{Tables}
use Rattle.occ_report.specs.declared.stop.Stop.{Stop}
use Rattle.occ_report.specs.Places.{Known, stop_of}
use Rattle.occ_shown.specs.Answers.{ends_text, names_of, numbers_text}
use Rattle.occ_term.specs.Runs.{Entry, Names, entries, tag_shown}
use Rattle.occ_term.specs.declared.names.Channel.{Channel}
use Rattle.occ_term.specs.declared.message.Message.{Message}
use Rattle.occ_term.specs.declared.communication.Communication.{Communication}

-- ---- at what a turn stops

-- an arm with SKIP has no channel
abbrev pub arm_text : Names → Option ℕ → List ℕ
arm_text names None = codes "; SKIP"
arm_text names (Some c) = codes "; " ++ (codes "awaits " ++ names.channel_name c)

abbrev pub arm_channels : Names → List Arm → List ℕ
arm_channels names [] = []
arm_channels names (a ∷ others) = arm_text names a.chan ++ arm_channels names others

abbrev pub stop_text : Names → Wait → List ℕ
stop_text names Ready = codes "can go on"
stop_text names (Took arm indices m) = codes "can go on"
stop_text names (Offers c m) = codes "offers " ++ message_text (tag_shown names c m.tag) m.items ++ codes " on " ++ names.channel_name c
stop_text names (Awaits c) = codes "awaits " ++ names.channel_name c
stop_text names (Chooses pri arms) = codes "chooses" ++ arm_channels names arms
stop_text names (Joins ns) = codes "waits for" ++ numbers_text ns
stop_text names Halted = codes "halted"
stop_text names Done = codes "ends"
stop_text names (Faulted e) = ending_text (Fault e)

-- the line of the source at which a turn stops, where it is known
abbrev pub stop_line : Option Stop → List ℕ
stop_line None = []
stop_line (Some s) = codes "line " ++ decimal s.line ++ codes ": "

-- of the process with this number, whose turn left this task
abbrev pub stopped_text : Names → List Known → ℕ → Task → List ℕ
stopped_text names known n t = stop_line (stop_of known n t.wait t.pc) ++ stop_text names t.wait

-- ---- the line of a turn

-- the number of the turn, those that are ready, the one that takes the turn, the pick
abbrev pub turn_head : (turn : ℕ) → (ready : List ℕ) → (taken pick : ℕ) → List ℕ
turn_head turn ready taken pick = (decimal turn ++ codes " ready") ++ numbers_text ready ++ (codes " took p" ++ (decimal taken ++ (codes " pick " ++ (decimal pick ++ codes " "))))

-- a communication: its number, its ends, the channel's name and the message
abbrev pub made_text : Entry → List ℕ
made_text e = codes ", " ++ decimal e.number ++ ends_text e.sender e.receiver ++ arrow_words e

abbrev pub all_made_text : List Entry → List ℕ
all_made_text [] = []
all_made_text (e ∷ es) = made_text e ++ all_made_text es

-- at what the turn stopped, and the communication that it made possible
abbrev pub turn_tail : Names → List Known → ℕ → Task → List Entry → List ℕ
turn_tail names known n t made = stopped_text names known n t ++ all_made_text made ++ 10 ∷ []

-- those of the second state that the first has not
abbrev pub news : Names → Net → Net → List Entry
news names a b = entries names (length a.trace + 1) (drop (length a.trace) b.trace)

abbrev pub step_text : Names → List Known → (turn : ℕ) → (before : Net) → (taken pick : ℕ) → (left : Task) → (after : Net) → List ℕ
step_text names known turn a taken pick left b = turn_head turn (ready_from 0 a.tasks) taken pick ++ turn_tail names known taken left (news names a b)

-- a replay, and the line of each of its turns, numbered from 1, with what is known of where processes stand in the source
pub data Stepped (known : List Known) (p : Program) (keyboard : List ℕ) : List Choice → Net → List ℕ → Type 0 where
  none_stepped : Stepped known p keyboard [] (first_net p keyboard) []
  one_stepped : {cs : List Choice} {c : Choice} {a b : Net} {text : List ℕ}
      → Stepped known p keyboard cs a text → ending_of p.errors a ≡ None → (turn : OneTurn p c a b)
      → Stepped known p keyboard (cs ++ c ∷ []) b (text ++ step_text (names_of p.channels) known (length cs + 1) a turn.number c.pick turn.after b)

-- The replay of the used choices, which are a beginning of the list, and the line of each of its turns.
pub record IsSteps (known : List Known) (p : Program) (keyboard : List ℕ) (list : List Choice) (bytes : List ℕ) : Type 0 where
  pub used : List Choice
  pub net : Net
  pub stepped : Stepped known p keyboard used net bytes
  pub begins : Begins used list
  pub whole : ending_of p.errors net ≡ None → used ≡ list

-- ---- what the code does; private contracts alone cite it

-- the next turn of the process with this number, which is selected, leaves it with this task
pub record NextTurn (p : Program) (which : ℕ) (net : Net) (number : ℕ) (after : Task) : Type 0 where
  pub body : Body
  pub before : Task
  pub selects : selected_process (ready_from 0 net.tasks) which ≡ Some number
  pub has_body : slice_get p.bodies number ≡ Some body
  pub has_task : HasTask net.tasks number before
  pub stops : Stopping body before after

-- in the middle of a run: so many turns are taken, and their lines are written
pub record Stepping (known : List Known) (p : Program) (keyboard : List ℕ) (turns : ℕ) (rest list : List Choice) (n : Tables) (text : List ℕ) : Type 0 where
  pub given : List Choice
  pub count : turns ≡ length given
  pub so_far : given ++ rest ≡ list
  pub net : Net
  pub stepped : Stepped known p keyboard given net text
  pub holds : Holds p keyboard n net

-- one turn more, and its line
pub record StepsTo (known : List Known) (p : Program) (keyboard : List ℕ) (turn : ℕ) (c : Choice) (net : Net) (old : List ℕ) (n : Tables) (new : List ℕ) : Type 0 where
  pub next : Net
  pub taken : OneTurn p c net next
  pub holds : Holds p keyboard n next
  pub is : new ≡ old ++ step_text (names_of p.channels) known turn net taken.number c.pick taken.after next

-- ---- of what code has; private contracts alone cite these

abbrev pub offers_text : List Channel → ℕ → Message → List ℕ
offers_text cs c m = codes "offers " ++ message_text (tag_shown (names_of cs) c m.tag) m.items ++ codes " on " ++ (names_of cs).channel_name c

abbrev pub awaits_text : List Channel → ℕ → List ℕ
awaits_text cs c = codes "awaits " ++ (names_of cs).channel_name c

abbrev pub chooses_text : List Channel → List Arm → List ℕ
chooses_text cs arms = codes "chooses" ++ arm_channels (names_of cs) arms

abbrev pub joins_text : List ℕ → List ℕ
joins_text ns = codes "waits for" ++ numbers_text ns

abbrev pub stopped_told : List Channel → List Known → ℕ → Task → List ℕ
stopped_told cs known n t = stopped_text (names_of cs) known n t

-- communications that are the last of so many
abbrev pub last_made : List Channel → ℕ → List Communication → List Entry
last_made cs made xs = entries (names_of cs) (made - length xs + 1) xs

abbrev pub AddsTail : {A : Type 0} → List Channel → List Known → ℕ → Task → (made : ℕ) → List Communication → (old new : Vec ℕ A) → Type 0
AddsTail cs known n t made xs old new = new.items ≡ old.items ++ turn_tail (names_of cs) known n t (last_made cs made xs)

-- of the network that the tables held
abbrev pub AddsStep : {X E A : Type 0} → Result X E → List Known → Program → List ℕ → ℕ → Choice → Vec ℕ A → Tables → Vec ℕ A → Tables → Type 0
AddsStep done known p keyboard turn c before old after new =
    OnOk done ((net : Net) → Holds p keyboard old net → StepsTo known p keyboard turn c net before.items new after.items)

abbrev pub TakesNext : Program → List ℕ → Tables → ℕ → ℕ × Task → Type 0
TakesNext p keyboard tables which r = (net : Net) → Holds p keyboard tables net → NextTurn p which net r.0 r.1
