-- What happens when a process has taken a turn.
-- Manual: nothing; this is (own).
use Rattle.std.specs.Vec.{with_item}
use Rattle.std.specs.Prelude.{Bool, false, IsTrue, List, None, Option, Some, [], drop, if◌then◌else◌, length, nat_eq, slice_get, slice_set, ℕ, ℤ, ◌+◌, ◌<◌, ◌^◌, ◌++◌, ◌∷◌, ◌≡◌}
use Rattle.occ_term.specs.declared.message.Message.{Message}
use Rattle.occ_term.specs.Frames.{Variables, is_held}
use Rattle.occ_machine.specs.SameStop.{IsRising, joined_with}
use Rattle.occ_machine.specs.Compiled.{Program}
use Rattle.occ_machine.specs.Machine.{Body, Stopping}
use Rattle.occ_machine.specs.declared.task.Arm.{Arm}
use Rattle.occ_machine.specs.declared.task.Task.{Task}
use Rattle.occ_machine.specs.declared.task.Wait.{Wait}
use Rattle.occ_machine.specs.declared.task.Wait.TheVariants.{Took, Offers, Awaits, Chooses, Joins}
use Rattle.occ_net_replay.specs.declared.choice.Choice.{Choice}
use Rattle.occ_net_replay.specs.Replay.{Net, Tasks, HasTask, OneTurn, Replays, Settled, branch_task, byte_message, ending_of, goes, made_ready, may_go, merged, ready_from, standing, took_arm, took_turn, with_branches, first_noted}
use Rattle.occ_net_replay.specs.Moments.{NoneReady}
use Rattle.occ_net_replay.specs.Waiting.{OffersAlone, ListensAlone, ForksAlone, channels_at, listens_on}
use Rattle.occ_term.specs.declared.communication.End.{End}
use Rattle.occ_term.specs.declared.communication.End.TheVariants.{Process, Keyboard, Screen, Error}
use Rattle.occ_term.specs.declared.communication.Communication.{Communication}
use Rattle.occ_net_tables.specs.declared.tables.Tables.{Tables}
use Rattle.occ_net_tables.specs.Holding.{Holds, IsOrdinary, Sized, Sound}
use Rattle.occ_net_tables.specs.Choosing.{TakesBy, offered_by}
use Rattle.occ_net_tables.specs.Ready.{put_in}
use Rattle.occ_net_tables.specs.Keys.{set_all}
use Rattle.occ_term.specs.declared.fault.Fault.{Fault}
use Rattle.occ_net_tables.specs.Room.{first_frame, first_frames}

-- a turn of the network: whatever state it held, it holds the next one
pub record TurnsTo (p : Program) (keyboard : List ℕ) (choice : Choice) (net : Net) (new : Tables) : Type 0 where
  pub next : Net
  pub turn : OneTurn p choice net next
  pub holds : Holds p keyboard new next

-- the network stands where a replay has come to that can go on
pub record Standing (p : Program) (keyboard : List ℕ) (n : Tables) : Type 0 where
  pub choices : List Choice
  pub few : 1 + length choices < 2 ^ 64
  pub net : Net
  pub replays : Replays p keyboard choices net
  pub open_end : ending_of p.errors net ≡ None
  pub holds : Holds p keyboard n net

-- the same, but for what was said
pub record StandsUntold (p : Program) (keyboard : List ℕ) (n : Tables) : Type 0 where
  pub said : List Communication
  pub standing : Standing p keyboard (record n { trace = said })

-- the process at this place among the ready ones comes by a turn to this task
pub record IsTurnAt (p : Program) (n : Tables) (place number : ℕ) (after : Task) : Type 0 where
  pub body : Body
  pub before : Task
  pub at : slice_get n.ready.items place ≡ Some number
  pub has_body : slice_get p.bodies number ≡ Some body
  pub there : HasTask n.tasks.items number before
  pub stops : Stopping body before after

-- the same tables, but for the task of one process
abbrev pub tables_with : Tables → ℕ → Task → Tables
tables_with n number t = record n { tasks = with_item n.tasks number (Some t) }

-- where the process at this place had come to some task in place of the one that stands here, a turn would bring it to this task
pub record StandsBehind (p : Program) (keyboard : List ℕ) (n : Tables) (place number : ℕ) (after : Task) : Type 0 where
  pub first : Task
  pub there : HasTask n.tasks.items number first
  pub last : Task
  pub standing : Standing p keyboard (tables_with n number last)
  pub turn : IsTurnAt p (tables_with n number last) place number after

-- that turn of the network, with this pick
abbrev pub TurnsBehind : Program → List ℕ → Tables → ℕ → ℕ → Task → ℕ → Tables → Type 0
TurnsBehind p keyboard old place number after pick new =
    (last : Task) (net : Net) (choice : Choice) → Standing p keyboard (tables_with old number last) → IsTurnAt p (tables_with old number last) place number after → Holds p keyboard (tables_with old number last) net
    → place ≡ choice.which → pick ≡ choice.pick → TurnsTo p keyboard choice net new

-- ---- private contracts alone cite what follows

-- The process at this place among the ready ones has taken a turn, and is left as ready; this is its task after the turn.
pub record Mid (p : Program) (keyboard : List ℕ) (n : Tables) (number place : ℕ) (after : Task) (net : Net) : Type 0 where
  pub before : Task
  pub has_task : HasTask net.tasks number before
  pub may : IsTrue (may_go before.wait)
  pub at_place : slice_get n.ready.items place ≡ Some number
  pub ordinary : IsOrdinary after.wait
  pub untaken : (arm : ℕ) (indices : List ℤ) (m : Option Message) → after.wait ≡ Took arm indices m → ⊥
  pub tasks : n.tasks.items ≡ slice_set net.tasks number (Some (made_ready after))
  pub bytes : net.keyboard ≡ drop n.used keyboard
  pub trace : net.trace ≡ n.trace
  pub sound : Sound n net.noted
  pub sized : Sized p n
  pub offers : (c : ℕ) (m : Message) → after.wait ≡ Offers c m → OffersAlone p net.tasks c
  pub listens : (c : ℕ) → IsTrue (listens_on after.wait c) → ListensAlone p net.tasks c
  pub forks : (ns : List ℕ) → after.wait ≡ Joins ns → ForksAlone p net.tasks number ns
  pub unready : (i : ℕ) (t : Task) (pri : Bool) (arms : List Arm) → HasTask net.tasks i t → t.wait ≡ Chooses pri arms → NoneReady (λ a. a.chan) (standing net) arms

-- it stands at this
pub record HasMid (p : Program) (n : Tables) (number place : ℕ) (wait : Wait) : Type 0 where
  pub keyboard : List ℕ
  pub after : Task
  pub net : Net
  pub mid : Mid p keyboard n number place after net
  pub waits : after.wait ≡ wait

-- what the turn made possible happens
pub record SettlesTo (p : Program) (keyboard : List ℕ) (pick number : ℕ) (after : Task) (net : Net) (new : Tables) : Type 0 where
  pub next : Net
  pub settles : Settled p.bodies number pick (took_turn net number after) next
  pub holds : Holds p keyboard new next

abbrev pub Settles : Program → List ℕ → ℕ → ℕ → ℕ → Wait → Tables → Tables → Type 0
Settles p keyboard pick number place wait old new =
    (after : Task) (net : Net) → Mid p keyboard old number place after net → after.wait ≡ wait → SettlesTo p keyboard pick number after net new

-- its task is left as ready, and nothing else is changed
pub record LeftReady (old : Tables) (number : ℕ) (t : Task) (new : Tables) : Type 0 where
  pub tasks : new.tasks.items ≡ slice_set old.tasks.items number (Some (made_ready t))
  pub ready : new.ready ≡ old.ready
  pub offering : new.offering ≡ old.offering
  pub awaiting : new.awaiting ≡ old.awaiting
  pub parents : new.parents ≡ old.parents
  pub unfinished : new.unfinished ≡ old.unfinished
  pub fault : new.fault ≡ old.fault
  pub used : new.used ≡ old.used
  pub trace : new.trace ≡ old.trace

-- it has taken a turn, and what it stands at is in its task
pub record HasStopped (p : Program) (n : Tables) (number place : ℕ) : Type 0 where
  pub task : Task
  pub there : HasTask n.tasks.items number task
  pub mid : (between : Tables) → LeftReady n number task between → HasMid p between number place task.wait

-- what its turn made possible happens
pub record SettlesFrom (p : Program) (keyboard : List ℕ) (pick number place : ℕ) (t : Task) (old new : Tables) : Type 0 where
  pub between : Tables
  pub left : LeftReady old number t between
  pub settles : Settles p keyboard pick number place t.wait between new

-- the end that always takes what is offered on a channel
abbrev pub outer_taker : ℕ → Option End
outer_taker c = if nat_eq c 1 then Some Screen else if nat_eq c 2 then Some Error else None

-- what the keyboard gives on a channel, where so many of its bytes are taken
abbrev pub byte_on : ℕ → List ℕ → ℕ → Option ℕ
byte_on c keyboard used = if nat_eq c 0 then slice_get keyboard used else None

-- who sent what to whom on which channel
abbrev pub communicated : ℕ → End → End → Message → Communication
communicated c x y m = record { chan = c; sender = x; receiver = y; message = m }

-- A process waits for a message on the channel, and takes it by this arm, where no other offer stands.
abbrev pub TakesAlone : ℕ → ℕ → Wait → Arm → Type 0
TakesAlone pick c w a = TakesBy pick (offered_by (Some c) []) c w a

-- some process does
pub record IsTaking (tasks : Tasks) (taker chan pick : ℕ) : Type 0 where
  pub task : Task
  pub there : HasTask tasks taker task
  pub arm : Arm
  pub takes : TakesAlone pick chan task.wait arm

-- it stands at none of its channels any more
pub record LeftChannels (old : Tables) (taker : ℕ) (t : Task) (new : Tables) : Type 0 where
  pub tasks : new.tasks.items ≡ slice_set old.tasks.items taker (Some (made_ready t))
  pub awaiting : new.awaiting.items ≡ set_all (channels_at t.wait) None old.awaiting.items
  pub ready : new.ready ≡ old.ready
  pub offering : new.offering ≡ old.offering
  pub parents : new.parents ≡ old.parents
  pub unfinished : new.unfinished ≡ old.unfinished
  pub fault : new.fault ≡ old.fault
  pub used : new.used ≡ old.used
  pub trace : new.trace ≡ old.trace

-- a process awaits a message on the channel, and on no other one
pub record IsAwaiting (tasks : Tasks) (taker chan : ℕ) : Type 0 where
  pub task : Task
  pub there : HasTask tasks taker task
  pub waits : task.wait ≡ Awaits chan

-- a process that waited for a message has it by this arm, stands at none of its channels any more, and may go on
pub record Handed (old : Tables) (taker : ℕ) (t : Task) (a : Arm) (m : Message) (new : Tables) : Type 0 where
  pub tasks : new.tasks.items ≡ slice_set old.tasks.items taker (Some (took_arm t a (Some m)))
  pub ready : new.ready.items ≡ put_in taker old.ready.items
  pub awaiting : new.awaiting.items ≡ set_all (channels_at t.wait) None old.awaiting.items
  pub trace : new.trace ≡ old.trace
  pub offering : new.offering ≡ old.offering
  pub parents : new.parents ≡ old.parents
  pub unfinished : new.unfinished ≡ old.unfinished
  pub fault : new.fault ≡ old.fault
  pub used : new.used ≡ old.used

-- the same tables, but for one communication more in the trace
abbrev pub with_noted : Tables → Communication → Tables
with_noted n x = record n { trace = n.trace ++ x ∷ [] }

-- a process has the keyboard's next byte by this arm, and may go on
pub record TookByte (old : Tables) (number : ℕ) (a : Arm) (byte : ℕ) (new : Tables) : Type 0 where
  pub tasks : (t : Task) → HasTask old.tasks.items number t → new.tasks.items ≡ slice_set old.tasks.items number (Some (took_arm t a (Some (byte_message byte))))
  pub trace : new.trace ≡ old.trace ++ communicated 0 Keyboard (Process number) (byte_message byte) ∷ []
  pub used : new.used ≡ old.used + 1
  pub ready : new.ready ≡ old.ready
  pub offering : new.offering ≡ old.offering
  pub awaiting : new.awaiting ≡ old.awaiting
  pub parents : new.parents ≡ old.parents
  pub unfinished : new.unfinished ≡ old.unfinished
  pub fault : new.fault ≡ old.fault

-- a process offers a message on the channel
pub record IsOffering (tasks : Tasks) (giver chan : ℕ) : Type 0 where
  pub task : Task
  pub there : HasTask tasks giver task
  pub message : Message
  pub waits : task.wait ≡ Offers chan message

-- a process has by this arm the message that another one offered, and both may go on
pub record TookFrom (old : Tables) (number giver chan : ℕ) (a : Arm) (t : Task) (m : Message) (new : Tables) : Type 0 where
  pub tasks : (u : Task) → HasTask old.tasks.items number u → new.tasks.items ≡ slice_set (slice_set old.tasks.items giver (Some (made_ready t))) number (Some (took_arm u a (Some m)))
  pub ready : new.ready.items ≡ put_in giver old.ready.items
  pub offering : new.offering.items ≡ slice_set old.offering.items chan None
  pub trace : new.trace ≡ old.trace ++ communicated chan (Process giver) (Process number) m ∷ []
  pub awaiting : new.awaiting ≡ old.awaiting
  pub parents : new.parents ≡ old.parents
  pub unfinished : new.unfinished ≡ old.unfinished
  pub fault : new.fault ≡ old.fault
  pub used : new.used ≡ old.used

-- ---- forks

-- the process has not begun, or is done
pub record IsFree (tasks : Tasks) (i : ℕ) : Type 0 where
  pub entry : Option Task
  pub is : slice_get tasks i ≡ Some entry
  pub still : goes entry ≡ false

-- the branches that are to begin
pub record BranchesMayBegin (p : Program) (n : Tables) (ns : List ℕ) : Type 0 where
  pub ready_is : n.ready.items ≡ ready_from 0 n.tasks.items
  pub rising : IsRising ns
  pub have_bodies : (i : ℕ) → IsTrue (is_held ns i) → i < length p.bodies
  pub free : (i : ℕ) → IsTrue (is_held ns i) → IsFree n.tasks.items i

-- a branch begins
pub record Began (p : Program) (parent : ℕ) (f : Variables) (old : Tables) (i : ℕ) (new : Tables) : Type 0 where
  pub tasks : new.tasks.items ≡ slice_set old.tasks.items i (branch_task p.bodies f old.tasks.items i)
  pub ready_is : new.ready.items ≡ ready_from 0 new.tasks.items
  pub parents : new.parents.items ≡ slice_set old.parents.items i (Some parent)
  pub offering : new.offering ≡ old.offering
  pub awaiting : new.awaiting ≡ old.awaiting
  pub unfinished : new.unfinished ≡ old.unfinished
  pub fault : new.fault ≡ old.fault
  pub used : new.used ≡ old.used
  pub trace : new.trace ≡ old.trace

-- branches begin
pub record AllBegan (p : Program) (parent : ℕ) (f : Variables) (old : Tables) (ns : List ℕ) (new : Tables) : Type 0 where
  pub tasks : new.tasks.items ≡ with_branches p.bodies f ns old.tasks.items
  pub ready_is : new.ready.items ≡ ready_from 0 new.tasks.items
  pub parents : new.parents.items ≡ set_all ns (Some parent) old.parents.items
  pub offering : new.offering ≡ old.offering
  pub awaiting : new.awaiting ≡ old.awaiting
  pub unfinished : new.unfinished ≡ old.unfinished
  pub fault : new.fault ≡ old.fault
  pub used : new.used ≡ old.used
  pub trace : new.trace ≡ old.trace

-- ---- joins

-- a process waits for these, and may go on
pub record Joining (n : Tables) (m : ℕ) : Type 0 where
  pub task : Task
  pub there : HasTask n.tasks.items m task
  pub branches : List ℕ
  pub waits : task.wait ≡ Joins branches
  pub apart : is_held branches m ≡ false
  pub rising : IsRising n.ready.items

-- what they can write is taken over, and nobody waits for them any more
pub record JoinsBranches (p : Program) (old : Tables) (m : ℕ) (t : Task) (ns : List ℕ) (new : Tables) : Type 0 where
  pub tasks : new.tasks.items ≡ slice_set old.tasks.items m (Some (joined_with t (merged p.bodies old.tasks.items ns t.frame)))
  pub ready : new.ready.items ≡ put_in m old.ready.items
  pub parents : new.parents.items ≡ set_all ns None old.parents.items
  pub offering : new.offering ≡ old.offering
  pub awaiting : new.awaiting ≡ old.awaiting
  pub unfinished : new.unfinished ≡ old.unfinished
  pub fault : new.fault ≡ old.fault
  pub used : new.used ≡ old.used
  pub trace : new.trace ≡ old.trace

-- of some program
abbrev pub HasSomeMid : Tables → (number place : ℕ) → Wait → Type 0
HasSomeMid n number place wait = (p : Program) × HasMid p n number place wait

-- ---- of whatever network, task and message it is

-- a turn of the network that the tables held
abbrev pub TakesTurn : Program → List ℕ → Choice → Tables → Tables → Type 0
TakesTurn p keyboard choice old new = (net : Net) → Holds p keyboard old net → TurnsTo p keyboard choice net new

-- that of the process at this place among the ready ones, with this pick
abbrev pub TakesTurnAt : Program → List ℕ → (place pick : ℕ) → Tables → Tables → Type 0
TakesTurnAt p keyboard place pick old new =
    (net : Net) (choice : Choice) → Holds p keyboard old net → place ≡ choice.which → pick ≡ choice.pick → TurnsTo p keyboard choice net new

-- the last turn in a row of a process, of which the tables had this task
abbrev pub TakesLast : Program → List ℕ → Tables → (place number : ℕ) → Task → (pick : ℕ) → Tables → Task → Type 0
TakesLast p keyboard old place number after pick new before =
    HasTask old.tasks.items number before × TurnsBehind p keyboard old place number after pick new

abbrev pub SettlesWait : Program → List ℕ → (pick number place : ℕ) → Tables → Tables → Type 0
SettlesWait p keyboard pick number place old new = (t : Task) → HasTask old.tasks.items number t → SettlesFrom p keyboard pick number place t old new

-- whatever the program, the keyboard or the pick
abbrev pub SettlesAnyhow : (number place : ℕ) → Wait → Tables → Tables → Type 0
SettlesAnyhow number place wait old new = (p : Program) (keyboard : List ℕ) (pick : ℕ) → Settles p keyboard pick number place wait old new

abbrev pub SettlesIn : Program → (number place : ℕ) → Wait → Tables → Tables → Type 0
SettlesIn p number place wait old new = (keyboard : List ℕ) (pick : ℕ) → Settles p keyboard pick number place wait old new

abbrev pub SettlesBy : (pick number place : ℕ) → Wait → Tables → Tables → Type 0
SettlesBy pick number place wait old new = (p : Program) (keyboard : List ℕ) → Settles p keyboard pick number place wait old new

abbrev pub SettlesOn : List ℕ → (number place : ℕ) → Wait → Tables → Tables → Type 0
SettlesOn keyboard number place wait old new = (p : Program) (pick : ℕ) → Settles p keyboard pick number place wait old new

abbrev pub SettlesWith : List ℕ → (pick number place : ℕ) → Wait → Tables → Tables → Type 0
SettlesWith keyboard pick number place wait old new = (p : Program) → Settles p keyboard pick number place wait old new

abbrev pub JoinsAll : Program → Tables → ℕ → Tables → Type 0
JoinsAll p old m new = (t : Task) (ns : List ℕ) → HasTask old.tasks.items m t → t.wait ≡ Joins ns → JoinsBranches p old m t ns new

abbrev pub BeganWith : Program → ℕ → Variables → Tables → ℕ → Tables → Type 0
BeganWith p parent frame old i new = (f : Variables) → frame ≡ first_frame p.bodies f i → Began p parent f old i new

abbrev pub AllBeganWith : Program → ℕ → List Variables → Tables → List ℕ → Tables → Type 0
AllBeganWith p parent frames old ns new = (f : Variables) → frames ≡ first_frames p f ns → AllBegan p parent f old ns new

-- the arm by which it takes a message that is offered on the channel
abbrev pub IsTakingBy : Tasks → (taker chan pick : ℕ) → Arm → Type 0
IsTakingBy tasks taker chan pick arm = (t : Task) (a : Arm) → HasTask tasks taker t → TakesAlone pick chan t.wait a → arm ≡ a

abbrev pub LeavesChannels : Tables → ℕ → Tables → Type 0
LeavesChannels old taker new = (t : Task) → HasTask old.tasks.items taker t → LeftChannels old taker t new

abbrev pub HandsTo : Tables → (taker chan pick : ℕ) → Message → Tables → Type 0
HandsTo old taker chan pick m new = (t : Task) (a : Arm) → HasTask old.tasks.items taker t → TakesAlone pick chan t.wait a → Handed old taker t a m new

-- the same where the communication was noted before
abbrev pub GaveTo : Tables → (number taker chan pick : ℕ) → Message → Tables → Type 0
GaveTo old number taker chan pick m new = HandsTo (with_noted old (communicated chan (Process number) (Process taker) m)) taker chan pick m new

abbrev pub TookOffer : Tables → (number giver chan : ℕ) → Arm → Tables → Type 0
TookOffer old number giver chan a new =
    (t : Task) (m : Message) → HasTask old.tasks.items giver t → t.wait ≡ Offers chan m → TookFrom old number giver chan a t m new

-- the first fault, where one more is noted
abbrev pub NotesFirst : Option Fault → Fault → Option Fault → Type 0
NotesFirst noted fault first = (faults : List Fault) → noted ≡ first_noted faults → first ≡ first_noted (faults ++ fault ∷ [])
