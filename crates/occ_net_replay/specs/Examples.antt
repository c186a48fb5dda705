-- Small networks of tasks, and what happens in them after a turn.
-- Manual: nothing; this is (own).
use Rattle.std.specs.Prelude.{Bool, List, None, Option, Some, [], false, map, pos, true, ℕ, ℤ, ◌∷◌, ◌≡◌}
use Rattle.occ_term.specs.Messages.{fault, message}
use Rattle.occ_term.specs.declared.fault.Errors.TheVariants.{Halt, Stop}
use Rattle.occ_term.specs.declared.fault.Fault.{Fault}
use Rattle.occ_term.specs.declared.fault.FaultKind.TheVariants.{Arith}
use Rattle.occ_term.specs.declared.message.Message.{Message}
use Rattle.occ_term.specs.declared.message.Part.TheVariants.{One}
use Rattle.occ_term.specs.declared.primitive.Primitive.TheVariants.{Int}
use Rattle.occ_term.specs.Frames.{Variables}
use Rattle.occ_term.specs.Runs.{messages_on}
use Rattle.occ_term.specs.declared.communication.Communication.{Communication}
use Rattle.occ_term.specs.declared.communication.End.TheVariants.{Process as OfProcess, Keyboard, Screen}
use Rattle.occ_term.specs.System.{communication}
use Rattle.occ_machine.specs.Machine.{Body}
use Rattle.occ_machine.specs.declared.task.Arm.{Arm}
use Rattle.occ_machine.specs.declared.task.Task.{Task}
use Rattle.occ_machine.specs.declared.task.Wait.{Wait}
use Rattle.occ_machine.specs.declared.task.Wait.TheVariants.{Ready, Took, Offers, Awaits, Chooses, Joins, Halted, Done, Faulted}
use Rattle.occ_term.specs.declared.ending.Ending.TheVariants as ending
use Rattle.occ_net_replay.specs.Replay.{Net, Tasks, Settled, byte_message, ending_of, ready_from, selected_process, took_turn}
use Rattle.occ_net_replay.specs.Waiting.{channels_at, listens_on}

-- ---- tasks and networks

abbrev pub variables : List ℕ → List ℕ → List ℕ → Variables
variables cells values left = record { cells = cells; values = map pos values; left = left }

-- after so many turns, with these variables
abbrev pub after : ℕ → ℕ → Variables → Wait → Option Task
after n turns f w = Some (record { number = n; turns = turns; pc = 6; frame = f; wait = w })

-- after two turns, without variables
abbrev pub task : ℕ → Wait → Option Task
task n w = after n 2 (variables [] [] []) w

abbrev pub net_of : List ℕ → Tasks → Net
net_of keyboard tasks = record { tasks = tasks; keyboard = keyboard; output = λ c. []; input = λ c. []; trace = []; turns = []; noted = [] }

-- without a keyboard, where these faults were noted
abbrev pub noting : List Fault → Tasks → Net
noting faults tasks = record (net_of [] tasks) { noted = faults }

-- After a turn of the process n these tasks come to those, with these communications; each is in the lists of its channel.
pub record LeadsTo (bodies : List Body) (n pick : ℕ) (a : Net) (tasks : Tasks) (met : List Communication) : Type 0 where
  pub net : Net
  pub settles : Settled bodies n pick a net
  pub tasks_are : net.tasks ≡ tasks
  pub trace : net.trace ≡ met
  pub output : (c : ℕ) → net.output c ≡ messages_on c met
  pub input : (c : ℕ) → net.input c ≡ messages_on c met

abbrev pub whole_number : ℕ → Message
whole_number v = message None (One Int (pos v) ∷ [])

abbrev pub from_to : ℕ → ℕ → ℕ → ℕ → Communication
from_to c n m v = communication c (OfProcess n) (OfProcess m) (whole_number v)

-- ---- who takes a turn: 1 and 3 are ready, and are counted round and round

abbrev pub five : Tasks
five = task 0 (Joins (1 ∷ 2 ∷ 3 ∷ 4 ∷ [])) ∷ task 1 Ready ∷ task 2 (Awaits 3) ∷ task 3 (Took 0 [] (Some (whole_number 7))) ∷ None ∷ []

abbrev pub TurnRows : Type 0
TurnRows =
    (selected_process (ready_from 0 five) 0 ≡ Some 1)
    × (selected_process (ready_from 0 five) 1 ≡ Some 3)
    × (selected_process (ready_from 0 five) 2 ≡ Some 1)
    × (selected_process (ready_from 0 five) 4294967295 ≡ Some 3)

-- ---- c ! 7 beside c ? x, whichever comes second; an offer that nobody awaits; the keyboard and the screen

abbrev pub both_stand : Tasks
both_stand = task 0 (Offers 3 (whole_number 7)) ∷ task 1 (Awaits 3) ∷ []

abbrev pub both_go : Tasks
both_go = task 0 Ready ∷ task 1 (Took 0 [] (Some (whole_number 7))) ∷ []

abbrev pub apart : Tasks
apart = task 0 (Offers 3 (whole_number 7)) ∷ task 1 (Awaits 4) ∷ []

abbrev pub MeetingRows : Type 0
MeetingRows =
    LeadsTo [] 0 0 (net_of [] both_stand) both_go (from_to 3 0 1 7 ∷ [])
    × LeadsTo [] 1 0 (net_of [] both_stand) both_go (from_to 3 0 1 7 ∷ [])
    × LeadsTo [] 0 0 (net_of [] apart) apart []
    × LeadsTo [] 0 0 (net_of (104 ∷ 105 ∷ []) (task 0 (Awaits 0) ∷ [])) (task 0 (Took 0 [] (Some (byte_message 104))) ∷ []) (communication 0 Keyboard (OfProcess 0) (byte_message 104) ∷ [])
    × LeadsTo [] 0 0 (net_of [] (task 0 (Offers 1 (byte_message 104)) ∷ [])) (task 0 Ready ∷ []) (communication 1 (OfProcess 0) Screen (byte_message 104) ∷ [])

-- ---- choices: with standing offers; with SKIP; with the keyboard; an offer that comes to a process that waits

abbrev pub arm : ℕ → Option ℕ → Arm
arm place channel = record { number = place; chan = channel; indices = [] }

-- an arm from 3, for this value of its index
abbrev pub replicated : ℕ → Arm
replicated v = record { number = 10; chan = Some 3; indices = pos v ∷ [] }

-- two processes offer, on 3 and on 4, and one chooses
abbrev pub choosing_among : Bool → List Arm → Tasks
choosing_among pri arms = task 0 (Offers 3 (whole_number 5)) ∷ task 1 (Offers 4 (whole_number 6)) ∷ task 2 (Chooses pri arms) ∷ []

abbrev pub choosing : Bool → Tasks
choosing pri = choosing_among pri (arm 10 (Some 3) ∷ arm 20 (Some 4) ∷ [])

-- the message from 3, or from 4, by this arm
abbrev pub first_by : ℕ → Tasks
first_by place = task 0 Ready ∷ task 1 (Offers 4 (whole_number 6)) ∷ task 2 (Took place [] (Some (whole_number 5))) ∷ []

abbrev pub second_by : ℕ → Tasks
second_by place = task 0 (Offers 3 (whole_number 5)) ∷ task 1 Ready ∷ task 2 (Took place [] (Some (whole_number 6))) ∷ []

abbrev pub took_first : Tasks
took_first = first_by 10

abbrev pub took_second : Tasks
took_second = second_by 20

-- one process offers on 3, and one chooses
abbrev pub offer_to : Bool → List Arm → Tasks
offer_to pri arms = task 0 (Offers 3 (whole_number 5)) ∷ task 1 (Chooses pri arms) ∷ []

abbrev pub got_by : ℕ → List ℤ → Tasks
got_by place indices = task 0 Ready ∷ task 1 (Took place indices (Some (whole_number 5))) ∷ []

abbrev pub skipped_by : ℕ → Tasks
skipped_by place = task 0 (Offers 3 (whole_number 5)) ∷ task 1 (Took place [] None) ∷ []

abbrev pub or_skip : Tasks
or_skip = task 0 (Chooses true (arm 10 (Some 3) ∷ arm 20 None ∷ [])) ∷ []

abbrev pub from_keyboard : Tasks
from_keyboard = task 0 (Chooses false (arm 10 (Some 3) ∷ arm 20 (Some 0) ∷ [])) ∷ []

abbrev pub closed : Tasks
closed = offer_to false (arm 10 (Some 4) ∷ [])

abbrev pub ChoiceRows : Type 0
ChoiceRows =
    ((pick : ℕ) → LeadsTo [] 2 pick (net_of [] (choosing true)) took_first (from_to 3 0 2 5 ∷ []))
    × LeadsTo [] 2 0 (net_of [] (choosing false)) took_first (from_to 3 0 2 5 ∷ [])
    × LeadsTo [] 2 1 (net_of [] (choosing false)) took_second (from_to 4 1 2 6 ∷ [])
    × LeadsTo [] 2 2 (net_of [] (choosing false)) took_first (from_to 3 0 2 5 ∷ [])
    × LeadsTo [] 0 0 (net_of [] or_skip) (task 0 (Took 20 [] None) ∷ []) []

-- an arm that is not ready is not counted
abbrev pub ClosedRows : Type 0
ClosedRows =
    ((pick : ℕ) → LeadsTo [] 2 pick (net_of [] (choosing_among true (arm 15 (Some 5) ∷ arm 20 (Some 4) ∷ arm 10 (Some 3) ∷ []))) (second_by 20) (from_to 4 1 2 6 ∷ []))
    × LeadsTo [] 2 2 (net_of [] (choosing_among false (arm 10 (Some 3) ∷ arm 15 (Some 5) ∷ arm 20 (Some 4) ∷ []))) (first_by 10) (from_to 3 0 2 5 ∷ [])
    × LeadsTo [] 2 3 (net_of [] (choosing_among false (arm 10 (Some 3) ∷ arm 15 (Some 5) ∷ arm 20 (Some 4) ∷ []))) (second_by 20) (from_to 4 1 2 6 ∷ [])
    × LeadsTo [] 1 0 (net_of [] closed) closed []

-- SKIP is ready as an offer is, and its offers stand on
abbrev pub SkipRows : Type 0
SkipRows =
    ((pick : ℕ) → LeadsTo [] 1 pick (net_of [] (offer_to true (arm 10 (Some 3) ∷ arm 20 None ∷ []))) (got_by 10 []) (from_to 3 0 1 5 ∷ []))
    × ((pick : ℕ) → LeadsTo [] 1 pick (net_of [] (offer_to true (arm 20 None ∷ arm 10 (Some 3) ∷ []))) (skipped_by 20) [])
    × LeadsTo [] 1 0 (net_of [] (offer_to false (arm 10 (Some 3) ∷ arm 20 None ∷ []))) (got_by 10 []) (from_to 3 0 1 5 ∷ [])
    × LeadsTo [] 1 1 (net_of [] (offer_to false (arm 10 (Some 3) ∷ arm 20 None ∷ []))) (skipped_by 20) []

-- after a turn of the offering process, the pick counts among the arms of the one that waits
abbrev pub LateOfferRows : Type 0
LateOfferRows =
    LeadsTo [] 0 1 (net_of [] (offer_to false (arm 10 (Some 3) ∷ arm 20 (Some 3) ∷ []))) (got_by 20 []) (from_to 3 0 1 5 ∷ [])
    × LeadsTo [] 0 2 (net_of [] (offer_to false (arm 10 (Some 3) ∷ arm 20 (Some 3) ∷ []))) (got_by 10 []) (from_to 3 0 1 5 ∷ [])
    × LeadsTo [] 0 1 (net_of [] (offer_to false (arm 30 (Some 4) ∷ arm 10 (Some 3) ∷ arm 20 (Some 3) ∷ []))) (got_by 20 []) (from_to 3 0 1 5 ∷ [])
    × ((pick : ℕ) → LeadsTo [] 0 pick (net_of [] (offer_to true (arm 30 (Some 4) ∷ arm 10 (Some 3) ∷ arm 20 (Some 3) ∷ []))) (got_by 10 []) (from_to 3 0 1 5 ∷ []))
    × LeadsTo [] 0 1 (net_of [] (offer_to false (replicated 7 ∷ replicated 8 ∷ []))) (got_by 10 (pos 8 ∷ [])) (from_to 3 0 1 5 ∷ [])
    × LeadsTo [] 0 0 (net_of (104 ∷ 105 ∷ []) from_keyboard) (task 0 (Took 20 [] (Some (byte_message 104))) ∷ []) (communication 0 Keyboard (OfProcess 0) (byte_message 104) ∷ [])

-- on which channels a process waits for a message
abbrev pub ListenRows : Type 0
ListenRows =
    (channels_at (Chooses false (arm 10 (Some 3) ∷ arm 20 None ∷ arm 30 (Some 5) ∷ [])) ≡ 3 ∷ 5 ∷ [])
    × (channels_at (Awaits 4) ≡ 4 ∷ [])
    × (channels_at (Offers 3 (whole_number 5)) ≡ [])
    × (listens_on (Chooses true (arm 20 None ∷ arm 30 (Some 5) ∷ [])) 5 ≡ true)

-- with priority the first arm alone
abbrev pub FirstWithPriority : Type 0
FirstWithPriority = (pick : ℕ) (b : Net) → Settled [] 2 pick (net_of [] (choosing true)) b → b.tasks ≡ took_first

-- ---- a PAR of two branches, the first of which ran before: the first writes cell 0, the second reads cell 2 and writes cell 1

abbrev pub body : List ℕ → List ℕ → ℕ → Body
body cells writes loops = record { code = []; cells = cells; writes = writes; loops = loops; quantum = 1 }

abbrev pub bodies : List Body
bodies = body (0 ∷ 1 ∷ 2 ∷ []) (0 ∷ 1 ∷ 2 ∷ []) 1 ∷ body (0 ∷ []) (0 ∷ []) 0 ∷ body (1 ∷ 2 ∷ []) (1 ∷ []) 2 ∷ []

-- the process 0, with these values, at the fork or after the join
abbrev pub parent : List ℕ → Wait → Option Task
parent values w = after 0 2 (variables (0 ∷ 1 ∷ 2 ∷ []) values (9 ∷ [])) w

abbrev pub waiting : Option Task
waiting = parent (4 ∷ 5 ∷ 6 ∷ []) (Joins (1 ∷ 2 ∷ []))

abbrev pub begins : ℕ → ℕ → Variables → Option Task
begins n turns f = Some (record { number = n; turns = turns; pc = 0; frame = f; wait = Ready })

abbrev pub branches : Wait → Wait → Tasks
branches v w = after 1 3 (variables (0 ∷ []) (14 ∷ []) []) v ∷ after 2 7 (variables (1 ∷ 2 ∷ []) (15 ∷ 16 ∷ []) (0 ∷ 0 ∷ [])) w ∷ []

abbrev pub ForkRows : Type 0
ForkRows =
    LeadsTo bodies 0 0 (net_of [] (waiting ∷ after 1 3 (variables (0 ∷ []) (8 ∷ []) []) Done ∷ None ∷ []))
    (waiting ∷ begins 1 3 (variables (0 ∷ []) (4 ∷ []) []) ∷ begins 2 0 (variables (1 ∷ 2 ∷ []) (5 ∷ 6 ∷ []) (0 ∷ 0 ∷ [])) ∷ []) []
    × LeadsTo bodies 1 0 (net_of [] (waiting ∷ branches Done Done)) (parent (14 ∷ 15 ∷ 6 ∷ []) Ready ∷ branches Done Done) []
    × LeadsTo bodies 1 0 (net_of [] (waiting ∷ branches Done Ready)) (waiting ∷ branches Done Ready) []
    × LeadsTo bodies 2 0 (net_of [] (waiting ∷ branches Done Halted)) (waiting ∷ branches Done Halted) []

-- ---- what a turn notes that ends with a fault, or with another stop

abbrev pub faulted : ℕ → Option Task
faulted line = task 1 (Faulted (fault Arith line))

abbrev pub faults_at : List ℕ → List Fault
faults_at lines = map (fault Arith) lines

-- where these faults were noted, and a turn of process 0 ends so
abbrev pub noted_after : List ℕ → Wait → List Fault
noted_after lines w = (took_turn (noting (faults_at lines) (None ∷ [])) 0 (record { number = 0; turns = 1; pc = 6; frame = variables [] [] []; wait = w })).noted

abbrev pub NotedRows : Type 0
NotedRows =
    (noted_after [] (Faulted (fault Arith 4)) ≡ faults_at (4 ∷ []))
    × (noted_after (9 ∷ []) (Faulted (fault Arith 4)) ≡ faults_at (9 ∷ 4 ∷ []))
    × (noted_after (9 ∷ []) Ready ≡ faults_at (9 ∷ []))
    × (noted_after [] Halted ≡ [])

-- ---- endings: a fault before all else, or beside the others; then the end of process 0, then that nobody is ready

abbrev pub EndingRows : Type 0
EndingRows =
    (ending_of Halt (noting (faults_at (4 ∷ [])) (task 0 (Joins (1 ∷ 2 ∷ [])) ∷ faulted 4 ∷ task 2 Ready ∷ [])) ≡ Some (ending.Fault (fault Arith 4)))
    × (ending_of Halt (net_of [] (task 0 Done ∷ task 1 Done ∷ [])) ≡ Some ending.Ended)
    × (ending_of Halt (net_of [] (task 0 (Joins (1 ∷ [])) ∷ task 1 Halted ∷ [])) ≡ Some ending.Stopped)
    × (ending_of Halt (net_of [] (task 0 (Joins (1 ∷ [])) ∷ task 1 Ready ∷ None ∷ [])) ≡ None)

-- where a fault stops its process alone: the others go on; of more faults the first noted, whatever their processes' numbers
abbrev pub StopRows : Type 0
StopRows =
    (ending_of Stop (noting (faults_at (4 ∷ [])) (task 0 (Joins (1 ∷ 2 ∷ [])) ∷ faulted 4 ∷ task 2 Ready ∷ [])) ≡ None)
    × (ending_of Stop (noting (faults_at (4 ∷ [])) (task 0 (Joins (1 ∷ 2 ∷ [])) ∷ faulted 4 ∷ task 2 Done ∷ [])) ≡ Some (ending.StoppedBy (fault Arith 4)))
    × (ending_of Stop (noting (faults_at (5 ∷ 4 ∷ [])) (task 0 (Joins (1 ∷ 2 ∷ [])) ∷ faulted 4 ∷ faulted 5 ∷ [])) ≡ Some (ending.StoppedBy (fault Arith 5)))
    × (ending_of Stop (net_of [] (task 0 Done ∷ task 1 Done ∷ [])) ≡ Some ending.Ended)
    × (ending_of Stop (net_of [] (task 0 (Joins (1 ∷ [])) ∷ task 1 Halted ∷ [])) ≡ Some ending.Stopped)
