-- The replay of choices: what a program's network holds after them.
--
-- A process is a task between two of its turns, on variables of its own. For each choice the chosen ready process takes a
-- turn, and then happens at once what that turn makes possible: a communication, the choice of an arm, a fork or a join.
-- Manual: combining processes (PAR, ALT); primitive processes (communication). Tasks, turns and choices: (own).
use Rattle.std.specs.Prelude.{Bool, IsTrue, List, None, Option, Some, [], false, if◌then◌else◌, length, map, nat_eq, option_map, pos, replicate, slice_get, slice_set, true, ℕ, ⊤, ◌%◌, ◌++◌, ◌+◌, ◌||◌, ◌∷◌, ◌≡◌}
use Rattle.std.specs.Option.{option_map_or}
use Rattle.occ_term.specs.Messages.{message}
use Rattle.occ_term.specs.declared.message.Part.TheVariants.{One}
use Rattle.occ_term.specs.declared.primitive.Primitive.TheVariants.{Byte}
use Rattle.occ_term.specs.declared.message.Message.{Message}
use Rattle.occ_term.specs.declared.fault.Errors.{Errors}
use Rattle.occ_term.specs.declared.fault.Errors.TheVariants.{Halt, Stop}
use Rattle.occ_term.specs.declared.fault.Fault.{Fault}
use Rattle.occ_term.specs.Frames.{Variables, zero_frame, is_held, at, frame_with}
use Rattle.occ_term.specs.Selecting.{chosen_of}
use Rattle.occ_term.specs.declared.communication.Communication.{Communication}
use Rattle.occ_term.specs.declared.communication.End.{End}
use Rattle.occ_term.specs.declared.communication.End.TheVariants.{Process as OfProcess, Keyboard, Screen, Error}
use Rattle.occ_term.specs.System.{communication, has_byte}
use Rattle.occ_term.specs.Runs.{TakesPart}
use Rattle.occ_machine.specs.SameStop.{joined_with}
use Rattle.occ_machine.specs.Machine.{Body, Stopping}
use Rattle.occ_machine.specs.Compiled.{Program}
use Rattle.occ_machine.specs.declared.task.Arm.{Arm}
use Rattle.occ_machine.specs.declared.task.Task.{Task}
use Rattle.occ_machine.specs.declared.task.Wait.{Wait}
use Rattle.occ_machine.specs.declared.task.Wait.TheVariants.{Ready, Took, Offers, Awaits, Chooses, Joins, Halted, Done, Faulted}
use Rattle.occ_net_replay.specs.declared.choice.Choice.{Choice}
use Rattle.occ_term.specs.declared.ending.Ending.{Ending}
use Rattle.occ_term.specs.declared.ending.Ending.TheVariants as ending

-- a task by process number, and none for a process that has not begun
abbrev pub Tasks : Type 0
Tasks = List (Option Task)

-- The tasks; the keyboard's bytes that are left; for each channel the messages whose output and whose input is complete; the
-- communications, who took a turn, and the faults that turns ended with, in order.
pub record Net : Type 0 where
  pub tasks : Tasks
  pub keyboard : List ℕ
  pub output : ℕ → List Message
  pub input : ℕ → List Message
  pub trace : List Communication
  pub turns : List ℕ
  pub noted : List Fault

-- the process with that number has this task
abbrev pub HasTask : Tasks → ℕ → Task → Type 0
HasTask tasks n t = slice_get tasks n ≡ Some (Some t)

abbrev pub with_task : Net → ℕ → Task → Net
with_task net n t = record net { tasks = slice_set net.tasks n (Some t) }

-- ---- the start

-- a process at its start, with the values of these variables
abbrev pub first_task : ℕ → ℕ → Variables → Task
first_task number turns f = record { number = number; turns = turns; pc = 0; frame = f; wait = Ready }

abbrev pub none_begun : List Body → Tasks
none_begun [] = []
none_begun (b ∷ bs) = None ∷ none_begun bs

-- process 0 begins, alone
abbrev pub first_tasks : List Body → Tasks
first_tasks [] = []
first_tasks (b ∷ bs) = Some (first_task 0 0 (zero_frame b.cells b.loops)) ∷ none_begun bs

abbrev pub first_net : Program → List ℕ → Net
first_net p keyboard = record { tasks = first_tasks p.bodies; keyboard = keyboard; output = λ c. []; input = λ c. []; trace = []; turns = []; noted = [] }

-- ---- who may take a turn

abbrev pub may_go : Wait → Bool
may_go Ready = true
may_go (Took arm indices m) = true
may_go (Offers c m) = false
may_go (Awaits c) = false
may_go (Chooses pri arms) = false
may_go (Joins ns) = false
may_go Halted = false
may_go Done = false
may_go (Faulted e) = false

abbrev pub goes : Option Task → Bool
goes None = false
goes (Some t) = may_go t.wait

-- the numbers, from n on, of the processes that may take a turn, rising
abbrev pub ready_from : ℕ → Tasks → List ℕ
ready_from n [] = []
ready_from n (t ∷ ts) = if goes t then n ∷ ready_from (n + 1) ts else ready_from (n + 1) ts

-- `which` counts modulo the ready processes
abbrev pub selected_process : List ℕ → ℕ → Option ℕ
selected_process ready which = slice_get ready (which % length ready)

-- the fault that a turn ends with, if any
abbrev pub noted_at : Wait → List Fault
noted_at Ready = []
noted_at (Took arm indices m) = []
noted_at (Offers c m) = []
noted_at (Awaits c) = []
noted_at (Chooses pri arms) = []
noted_at (Joins ns) = []
noted_at Halted = []
noted_at Done = []
noted_at (Faulted e) = e ∷ []

-- after a turn of the process with that number
abbrev pub took_turn : Net → ℕ → Task → Net
took_turn net n t = record net { tasks = slice_set net.tasks n (Some t); turns = net.turns ++ n ∷ []; noted = net.noted ++ noted_at t.wait }

-- ---- communication

abbrev pub made_ready : Task → Task
made_ready t = record t { wait = Ready }

-- with the message that it awaited
abbrev pub has_taken : Task → Message → Task
has_taken t m = record t { wait = Took 0 [] (Some m) }

-- with the arm that it chose
abbrev pub took_arm : Task → Arm → Option Message → Task
took_arm t a m = record t { wait = Took a.number a.indices m }

-- the message of one byte
abbrev pub byte_message : ℕ → Message
byte_message b = message None (One Byte (pos b) ∷ [])

abbrev pub one_more : (ℕ → List Message) → ℕ → Message → ℕ → List Message
one_more lists c m = λ d. if nat_eq c d then lists d ++ m ∷ [] else lists d

-- the channels on which an offer stands
abbrev pub offers_on : Wait → ℕ → Bool
offers_on Ready c = false
offers_on (Took arm indices m) c = false
offers_on (Offers d m) c = nat_eq d c
offers_on (Awaits d) c = false
offers_on (Chooses pri arms) c = false
offers_on (Joins ns) c = false
offers_on Halted c = false
offers_on Done c = false
offers_on (Faulted e) c = false

abbrev pub offers_among : Tasks → ℕ → Bool
offers_among [] c = false
offers_among (None ∷ ts) c = offers_among ts c
offers_among (Some t ∷ ts) c = offers_on t.wait c || offers_among ts c

abbrev pub standing : Net → ℕ → Bool
standing net c = has_byte net.keyboard c || offers_among net.tasks c

-- the arm that a choosing process takes by the rule of ready arms
abbrev pub arm_chosen : Bool → ℕ → (ℕ → Bool) → List Arm → Option Arm
arm_chosen pri pick offers arms = chosen_of (λ a. a.chan) pri pick offers arms

-- an end whose output of this message completes
pub data HandsOver (c : ℕ) (m : Message) : End → Net → Net → Type 0 where
  task_gives : {n : ℕ} {t : Task} {net : Net}
      → HasTask net.tasks n t → t.wait ≡ Offers c m
      → HandsOver c m (OfProcess n) net (record (with_task net n (made_ready t)) { output = one_more net.output c m })
  keyboard_gives : {b : ℕ} {kb : List ℕ} {net : Net}
      → net.keyboard ≡ b ∷ kb → c ≡ 0 → m ≡ byte_message b → HandsOver c m Keyboard net (record net { keyboard = kb; output = one_more net.output c m })

-- an end that takes it; `offers` are those that stood before
pub data Gets (pick : ℕ) (offers : ℕ → Bool) (c : ℕ) (m : Message) : End → Net → Net → Type 0 where
  task_gets : {n : ℕ} {t : Task} {net : Net}
      → HasTask net.tasks n t → t.wait ≡ Awaits c
      → Gets pick offers c m (OfProcess n) net (record (with_task net n (has_taken t m)) { input = one_more net.input c m })
  arm_gets : {n : ℕ} {t : Task} {net : Net} {pri : Bool} {arms : List Arm} {a : Arm}
      → HasTask net.tasks n t → t.wait ≡ Chooses pri arms → arm_chosen pri pick offers arms ≡ Some a → a.chan ≡ Some c
      → Gets pick offers c m (OfProcess n) net (record (with_task net n (took_arm t a (Some m))) { input = one_more net.input c m })
  screen_gets : {net : Net} → c ≡ 1 → Gets pick offers c m Screen net (record net { input = one_more net.input c m })
  error_gets : {net : Net} → c ≡ 2 → Gets pick offers c m Error net (record net { input = one_more net.input c m })

abbrev pub traced : Net → Communication → Net
traced net x = record net { trace = net.trace ++ x ∷ [] }

-- an offer and an end that takes its message are joined
pub data PassesOn (pick : ℕ) : Net → Communication → Net → Type 0 where
  joined : {c : ℕ} {m : Message} {x y : End} {a b d : Net}
      → HandsOver c m x a b → Gets pick (standing a) c m y b d → PassesOn pick a (communication c x y m) (traced d (communication c x y m))

-- ---- forks and joins

-- how many turns the process with that number has taken so far, in earlier forks too
abbrev pub turns_of : Option Task → ℕ
turns_of None = 0
turns_of (Some t) = t.turns

abbrev pub turns_at : Tasks → ℕ → ℕ
turns_at tasks n = option_map_or turns_of (slice_get tasks n) 0

-- a body's cells, with the values that these variables have
abbrev pub branch_frame : Body → Variables → Variables
branch_frame b f = record { cells = b.cells; values = map (at f) b.cells; left = replicate b.loops 0 }

abbrev pub branch_task : List Body → Variables → Tasks → ℕ → Option Task
branch_task bodies f tasks n = option_map (λ b. first_task n (turns_at tasks n) (branch_frame b f)) (slice_get bodies n)

-- the branches with these numbers begin, each with a copy of the cells that it uses
abbrev pub with_branches : List Body → Variables → List ℕ → Tasks → Tasks
with_branches bodies f [] tasks = tasks
with_branches bodies f (n ∷ ns) tasks = with_branches bodies f ns (slice_set tasks n (branch_task bodies f tasks n))

-- the values of these cells are taken over
abbrev pub taken_over : List ℕ → Variables → Variables → Variables
taken_over [] from f = f
taken_over (c ∷ cs) from f = taken_over cs from (frame_with f c (at from c))

abbrev pub taken_from : Option Body → Option (Option Task) → Variables → Variables
taken_from None t f = f
taken_from (Some b) None f = f
taken_from (Some b) (Some None) f = f
taken_from (Some b) (Some (Some t)) f = taken_over b.writes t.frame f

-- of each branch the cells that it can write
abbrev pub merged : List Body → Tasks → List ℕ → Variables → Variables
merged bodies tasks [] f = f
merged bodies tasks (n ∷ ns) f = merged bodies tasks ns (taken_from (slice_get bodies n) (slice_get tasks n) f)

abbrev pub is_done : Wait → Bool
is_done Ready = false
is_done (Took arm indices m) = false
is_done (Offers c m) = false
is_done (Awaits c) = false
is_done (Chooses pri arms) = false
is_done (Joins ns) = false
is_done Halted = false
is_done Done = true
is_done (Faulted e) = false

abbrev pub ended : Option Task → Bool
ended None = false
ended (Some t) = is_done t.wait

abbrev pub AreDone : Tasks → List ℕ → Type 0
AreDone tasks [] = ⊤
AreDone tasks (n ∷ ns) = IsTrue (option_map_or ended (slice_get tasks n) false) × AreDone tasks ns

-- ---- what happens at once after a turn of the process n

pub data Happens (bodies : List Body) (n pick : ℕ) : Net → Net → Type 0 where
  meets : {x : Communication} {a b : Net} → TakesPart n x → PassesOn pick a x b → Happens bodies n pick a b
  skips : {t : Task} {pri : Bool} {arms : List Arm} {arm : Arm} {a : Net}
      → HasTask a.tasks n t → t.wait ≡ Chooses pri arms → arm_chosen pri pick (standing a) arms ≡ Some arm → arm.chan ≡ None
      → Happens bodies n pick a (with_task a n (took_arm t arm None))
  forks : {t : Task} {ns : List ℕ} {a : Net}
      → HasTask a.tasks n t → t.wait ≡ Joins ns → Happens bodies n pick a (record a { tasks = with_branches bodies t.frame ns a.tasks })
  joins : (m : ℕ) {t : Task} {ns : List ℕ} {a : Net}
      → HasTask a.tasks m t → t.wait ≡ Joins ns → IsTrue (is_held ns n) → AreDone a.tasks ns
      → Happens bodies n pick a (with_task a m (joined_with t (merged bodies a.tasks ns t.frame)))

-- one such thing, where one is possible
pub data Settled (bodies : List Body) (n pick : ℕ) : Net → Net → Type 0 where
  settles : {a b : Net} → Happens bodies n pick a b → Settled bodies n pick a b
  stays : {a : Net} → ((b : Net) → Happens bodies n pick a b → ⊥) → Settled bodies n pick a a

-- ---- endings

abbrev pub main_done : Tasks → Bool
main_done [] = false
main_done (t ∷ ts) = ended t

abbrev pub first_noted : List Fault → Option Fault
first_noted faults = slice_get faults 0

abbrev pub stopped_by : Option Fault → Ending
stopped_by None = ending.Stopped
stopped_by (Some e) = ending.StoppedBy e

-- the end of process 0; else it is stopped where no process may take a turn
abbrev pub standing_by : Option Fault → Bool → List ℕ → Option Ending
standing_by fault true ready = Some ending.Ended
standing_by fault false [] = Some (stopped_by fault)
standing_by fault false (n ∷ ns) = None

-- the first fault ends the network, or it stopped its process alone
abbrev pub ending_by : Errors → Option Fault → Bool → List ℕ → Option Ending
ending_by Halt None done ready = standing_by None done ready
ending_by Halt (Some e) done ready = Some (ending.Fault e)
ending_by Stop fault done ready = standing_by fault done ready

abbrev pub ending_of : Errors → Net → Option Ending
ending_of errors net = ending_by errors (first_noted net.noted) (main_done net.tasks) (ready_from 0 net.tasks)

-- ---- replay

-- the chosen process takes a turn, and what that makes possible happens
pub record OneTurn (p : Program) (c : Choice) (a b : Net) : Type 0 where
  pub number : ℕ
  pub body : Body
  pub before : Task
  pub after : Task
  pub selects : selected_process (ready_from 0 a.tasks) c.which ≡ Some number
  pub has_body : slice_get p.bodies number ≡ Some body
  pub has_task : HasTask a.tasks number before
  pub stops : Stopping body before after
  pub settles : Settled p.bodies number c.pick (took_turn a number after) b

-- a turn for each choice, none after an ending
pub data Replays (p : Program) (keyboard : List ℕ) : List Choice → Net → Type 0 where
  begins : Replays p keyboard [] (first_net p keyboard)
  goes_on : {cs : List Choice} {c : Choice} {a b : Net} → Replays p keyboard cs a → ending_of p.errors a ≡ None → OneTurn p c a b → Replays p keyboard (cs ++ c ∷ []) b
