-- The run that a replay is followed by, at every moment: between two turns each process stands at the same stop in both.
-- Manual: nothing; this is (own).
use Rattle.std.specs.Prelude.{Bool, IsTrue, List, None, Option, Some, [], false, length, nat_eq, slice_get, ℕ, ◌+◌, ⊤, ◌<◌, ◌^◌, ◌++◌, ◌||◌, ◌∷◌, ◌≡◌, ◌⊎◌}
use Rattle.occ_term.specs.declared.fault.Fault.{Fault}
use Rattle.occ_term.specs.declared.message.Message.{Message}
use Rattle.occ_term.specs.Going.{IsGoing}
use Rattle.occ_term.specs.Runs.{Event, Run}
use Rattle.occ_term.specs.Selecting.{Enabled, Setting, is_ready_on, waits_for}
use Rattle.occ_term.specs.Steps.{Doing, Do, Again, Offering, Awaiting, Choosing, Taken, SkipTaken, MessageTaken, Taking, Forking, Halted, Faulted, Done, Loop, Context, Left, left}
use Rattle.occ_term.specs.System.{Process, process, Processes, no_processes, and_process, System, system, start, AllEnded, noted_in}
use Rattle.occ_term.specs.Terms.{Branches, Reception, Skip, Term}
use Rattle.occ_term.specs.UnfoldedProgram.{UnfoldedProgram, IsWellFormed, Lawful, declared, meaning}
use Rattle.occ_machine.specs.Alike.{Alike}
use Rattle.occ_machine.specs.SameStop.{Agrees, indices_in, numbers_of}
use Rattle.occ_machine.specs.Compiled.{Program, IsCompiledFrom}
use Rattle.occ_machine.specs.Machine.{Body}
use Rattle.occ_machine.specs.declared.task.Arm.{Arm}
use Rattle.occ_machine.specs.declared.task.Task.{Task}
use Rattle.occ_machine.specs.declared.task.Wait.{Wait}
use Rattle.occ_machine.specs.declared.task.Wait.TheVariants as W
use Rattle.occ_net_replay.specs.declared.choice.Choice.{Choice}
use Rattle.occ_net_replay.specs.Following.{AreBytes, Followed}
use Rattle.occ_net_replay.specs.Replay.{Net, Tasks, HasTask, OneTurn, Replays, goes_on as replays_on, AreDone, ending_of, first_net, is_done, may_go, standing}
use Rattle.occ_net_replay.specs.Sharing.{SharesStore, store_of}

-- ---- the processes of a system

-- the process with that number stands in the tree, with what is left of it and its live branches
mutual
  pub data At (n : ℕ) (own : Left) (ps : Processes) : Process → Type 0 where
    here : At n own ps (process n own ps)
    below : {m : ℕ} {a : Left} {qs : Processes} → Among n own ps qs → At n own ps (process m a qs)

  pub data Among (n : ℕ) (own : Left) (ps : Processes) : Processes → Type 0 where
    first : {p : Process} {qs : Processes} → At n own ps p → Among n own ps (and_process p qs)
    later : {p : Process} {qs : Processes} → Among n own ps qs → Among n own ps (and_process p qs)

abbrev pub main_process : System → Process
main_process (system kb p s noted) = p

-- the bytes that are left of the keyboard
abbrev pub keyboard_in : System → List ℕ
keyboard_in (system kb p s noted) = kb

-- ---- the same stop

-- arms in the same order, on the same channels
abbrev pub OnSameChannels : List Arm → List Enabled → Type 0
OnSameChannels [] [] = ⊤
OnSameChannels [] (e ∷ es) = ⊥
OnSameChannels (a ∷ arms) [] = ⊥
OnSameChannels (a ∷ arms) (e ∷ es) = (a.chan ≡ waits_for e) × OnSameChannels arms es

-- the message of what was taken; an arm with SKIP has none
abbrev pub message_taken : Taken → Option Message
message_taken (SkipTaken body) = None
message_taken (MessageTaken list m) = Some m

-- What a task that may go on does next: a term from its start, a loop's test once more, or what it took, with the same indices of
-- replicators and the same message. The number of an arm stands in the code alone.
pub data ProceedsBy : Wait → Doing → Type 0 where
  by_term : {t : Term} → ProceedsBy W.Ready (Do t)
  by_loop : {l : Loop} → ProceedsBy W.Ready (Again l)
  by_taking : {arm : ℕ} {again : List Setting} {what : Taken} → ProceedsBy (W.Took arm (indices_in again) (message_taken what)) (Taking again what)

-- the numbers of these processes
abbrev pub numbers_below : Processes → List ℕ
numbers_below no_processes = []
numbers_below (and_process (process n own ps) qs) = n ∷ numbers_below qs

-- What a task waits for, and what is left of the process with its live branches: both go on by the same, or wait for the same on the
-- same channel, with the same message, for the same branches, or have come to the same end.
pub data StopsAlike : Wait → Left → Processes → Type 0 where
  both_go : {w : Wait} {x : Doing} {k : List Context} → ProceedsBy w x → StopsAlike w (left x k) no_processes
  both_join : {bs : Branches} {k : List Context} {ps : Processes} → AllEnded ps → StopsAlike W.Ready (left (Forking bs) k) ps
  both_offer : {c : ℕ} {m : Message} {k : List Context} → StopsAlike (W.Offers c m) (left (Offering c m) k) no_processes
  both_await : {c : ℕ} {list : Reception} {k : List Context} → StopsAlike (W.Awaits c) (left (Awaiting c list) k) no_processes
  both_choose : {pri : Bool} {arms : List Arm} {es : List Enabled} {k : List Context} → OnSameChannels arms es → StopsAlike (W.Chooses pri arms) (left (Choosing pri es) k) no_processes
  both_fork : {ns : List ℕ} {bs : Branches} {k : List Context} {ps : Processes} → numbers_of bs ≡ ns → numbers_below ps ≡ ns → StopsAlike (W.Joins ns) (left (Forking bs) k) ps
  both_halt : {k : List Context} → StopsAlike W.Halted (left Halted k) no_processes
  both_fail : {e : Fault} {k : List Context} → StopsAlike (W.Faulted e) (left (Faulted e) k) no_processes
  both_done : {k : List Context} → StopsAlike W.Done (left Done k) no_processes

-- each process of the system has a task that stops alike; a task without a process there is done
pub record StandAlike (tasks : Tasks) (main : Process) : Type 0 where
  pub each : (n : ℕ) (own : Left) (ps : Processes) → At n own ps main → (t : Task) × HasTask tasks n t × StopsAlike t.wait own ps
  pub others : (n : ℕ) (t : Task) → HasTask tasks n t → ((own : Left) × (ps : Processes) × At n own ps main) ⊎ IsTrue (is_done t.wait)

-- ---- the same code ahead

-- what a process goes on with in a turn: what is left of it, or what stands behind its branches once all of them have ended
pub data GoesOnWith : Left → Processes → Left → Type 0 where
  is_going : {x : Doing} {k : List Context} → IsGoing x → GoesOnWith (left x k) no_processes (left x k)
  is_joining : {bs : Branches} {k : List Context} {ps : Processes} → AllEnded ps → GoesOnWith (left (Forking bs) k) ps (left (Do Skip) k)

-- A process that may go on has a body of code. Its frame has the store's values on the body's cells, and the code does from here
-- what the process goes on with, for all turns that can still be counted. So the arm that a run has taken does what the code does.
abbrev pub DoesAhead : UnfoldedProgram → Program → Net → System → Type 0
DoesAhead u p net now =
    (n : ℕ) (own next : Left) (ps : Processes) (t : Task) (turns : ℕ)
    → At n own ps (main_process now) → GoesOnWith own ps next → HasTask net.tasks n t → IsTrue (may_go t.wait)
    → turns + length net.turns < 2 ^ 64 → (body : Body) × (slice_get p.bodies n ≡ Some body) × Agrees (declared u) body.cells t.frame (store_of now) × Alike turns (declared u) body t next

-- ---- nothing is possible that needs no turn

-- whether an end beside the processes always takes what is offered on a channel
abbrev pub is_read : ℕ → Bool
is_read c = nat_eq c 1 || nat_eq c 2

module _ {A : Type 0} (channel : A → Option ℕ) (offers : ℕ → Bool) where
  abbrev pub NoneReady : List A → Type 0
  NoneReady [] = ⊤
  NoneReady (a ∷ arms) = (is_ready_on offers (channel a) ≡ false) × NoneReady arms

-- Of all tasks: no offer stands on a channel that is always read, no input waits where an offer stands, no arm of a choice is
-- ready, and no branches that a task waits for are all done.
pub record Quiet (net : Net) : Type 0 where
  pub unread : (i : ℕ) (t : Task) (c : ℕ) (m : Message) → HasTask net.tasks i t → t.wait ≡ W.Offers c m → is_read c ≡ false
  pub unheard : (i : ℕ) (t : Task) (c : ℕ) → HasTask net.tasks i t → t.wait ≡ W.Awaits c → IsTrue (standing net c) → ⊥
  pub unready : (i : ℕ) (t : Task) (pri : Bool) (arms : List Arm) → HasTask net.tasks i t → t.wait ≡ W.Chooses pri arms → NoneReady (λ a. a.chan) (standing net) arms
  pub unjoined : (i : ℕ) (t : Task) (ns : List ℕ) → HasTask net.tasks i t → t.wait ≡ W.Joins ns → AreDone net.tasks ns → ⊥

-- ---- one run at every moment

-- The system has the replay's processes at its stops, with the same code ahead; its one store is what their frames share, the same
-- bytes are left of the keyboard and the same faults noted, and nothing is possible that needs no turn.
pub record IsMoment (u : UnfoldedProgram) (p : Program) (net : Net) (now : System) : Type 0 where
  pub alike : StandAlike net.tasks (main_process now)
  pub ahead : DoesAhead u p net now
  pub shares : SharesStore p net now
  pub keyboard : keyboard_in now ≡ net.keyboard
  pub noted : noted_in now ≡ net.noted
  pub quiet : Quiet net

-- The systems of a run beside a replay, one more than the choices: those before, and the one that it has come to. It begins with the
-- source's start; each turn leads from the last system to the next one; and each system stands where the replay stands by then.
pub data Accompanies (u : UnfoldedProgram) (p : Program) (quantum : ℕ) (keyboard : List ℕ) : List Choice → Net → List Event → (before : List System) → (now : System) → Type 0 where
  at_start : IsMoment u p (first_net p keyboard) (start (meaning u) keyboard) → Accompanies u p quantum keyboard [] (first_net p keyboard) [] [] (start (meaning u) keyboard)
  after_turn : {cs : List Choice} {c : Choice} {a b : Net} {es : List Event} {before : List System} {now next : System} (e : Event)
      → Accompanies u p quantum keyboard cs a es before now → OneTurn p c a b → Run p.errors quantum now (e ∷ []) next → IsMoment u p b next
      → Accompanies u p quantum keyboard (cs ++ c ∷ []) b (es ++ e ∷ []) (before ++ now ∷ []) next

-- The one run of a replay: it has the replay's turns, communications, faults and ending, and stands where the replay stands at every moment.
pub record IsOneRun (u : UnfoldedProgram) (p : Program) (quantum : ℕ) (keyboard : List ℕ) (cs : List Choice) (net : Net) : Type 0 where
  pub follows : Followed u keyboard quantum p.errors net
  pub before : List System
  pub accompanies : Accompanies u p quantum keyboard cs net follows.events before follows.system

-- each replay has one run that goes with it from its start on, turn by turn
abbrev pub ReplaysAreOneRun : Type 0
ReplaysAreOneRun =
    (u : UnfoldedProgram) (p : Program) (quantum : ℕ) (keyboard : List ℕ) (cs : List Choice) (net : Net)
    → IsWellFormed u → Lawful u → IsCompiledFrom u quantum p → AreBytes keyboard → length cs < 2 ^ 64
    → Replays p keyboard cs net → IsOneRun u p quantum keyboard cs net

-- the second run is the first with one turn more: it has gone through the same systems, and from the last of them to its own
pub record OneFurther (u : UnfoldedProgram) (p : Program) (quantum : ℕ) (keyboard : List ℕ) {cs ds : List Choice} {a b : Net}
    (f : IsOneRun u p quantum keyboard cs a) (g : IsOneRun u p quantum keyboard ds b) : Type 0 where
  pub event : Event
  pub events : g.follows.events ≡ f.follows.events ++ event ∷ []
  pub systems : g.before ≡ f.before ++ f.follows.system ∷ []
  pub turn : Run p.errors quantum f.follows.system (event ∷ []) g.follows.system

-- A run for each replay, where that of one choice more is that of the others with one turn more. So where a run has come to fits
-- each turn that the replay may take next, also where its last turn went into one of several arms with SKIP.
pub record RunsOfAll (u : UnfoldedProgram) (p : Program) (quantum : ℕ) (keyboard : List ℕ) : Type 0 where
  pub run_of : (cs : List Choice) (net : Net) → length cs < 2 ^ 64 → Replays p keyboard cs net → IsOneRun u p quantum keyboard cs net
  pub further : (cs : List Choice) (c : Choice) (a b : Net) (few : length cs < 2 ^ 64) (more : length (cs ++ c ∷ []) < 2 ^ 64) (r : Replays p keyboard cs a) (g : ending_of p.errors a ≡ None) (o : OneTurn p c a b)
      → OneFurther u p quantum keyboard (run_of cs a few r) (run_of (cs ++ c ∷ []) b more (replays_on r g o))

abbrev pub OneRunForAll : Type 0
OneRunForAll =
    (u : UnfoldedProgram) (p : Program) (quantum : ℕ) (keyboard : List ℕ)
    → IsWellFormed u → Lawful u → IsCompiledFrom u quantum p → AreBytes keyboard → RunsOfAll u p quantum keyboard

-- a process that the replay may select is one that goes on in the run
abbrev pub ReadyGoOn : Type 0
ReadyGoOn =
    (u : UnfoldedProgram) (p : Program) (net : Net) (now : System) (n : ℕ) (t : Task)
    → IsMoment u p net now → HasTask net.tasks n t → IsTrue (may_go t.wait)
    → (own : Left) × (ps : Processes) × At n own ps (main_process now) × (next : Left) × GoesOnWith own ps next
