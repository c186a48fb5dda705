-- The system: the keyboard, the main tree of processes, the screen and the error sink, over one store.
-- Manual: combining processes (PAR); primitive processes (communication); invalid processes. One store, the numbers of processes,
-- and the ends beside the main process: (own).
use Rattle.std.specs.Prelude.{Bool, IsTrue, List, None, Some, [], false, nat_eq, pos, ℕ, ⊤, ◌++◌, ◌||◌, ◌∷◌, ◌≡◌}
pub use Rattle.occ_term.specs.declared.communication.End.{End}
pub use Rattle.occ_term.specs.declared.communication.End.TheVariants.{Process as OfProcess, Keyboard, Screen, Error}
pub use Rattle.occ_term.specs.declared.communication.Communication.{Communication}
use Rattle.occ_term.specs.declared.fault.Errors.{Errors}
use Rattle.occ_term.specs.declared.fault.Errors.TheVariants as on_fault
use Rattle.occ_term.specs.Messages.{Byte, Fault, One, Message, message}
use Rattle.occ_term.specs.Terms.{Term, Skip, Branches, no_branches, and_branch, Reception}
use Rattle.occ_term.specs.Values.{Store}
use Rattle.occ_term.specs.Selecting.{Setting, Enabled, SkipArm, InputArm, chosen}
use Rattle.occ_term.specs.Steps.{SkipTaken, MessageTaken, Do, Offering, Awaiting, Choosing, Taking, Forking, Context, Left, left, Status, Runs, Loops, Offers, Awaits, Chooses, Forks, IsHalted, FailsBy, HasEnded, status, is_ended}
use Rattle.occ_term.specs.Turns.{Turn}

-- a process has its number, what is left of it, and its live branches
mutual
  pub data Process : Type 0 where
    process : (number : ℕ) (own : Left) (branches : Processes) → Process

  pub data Processes : Type 0 where
    no_processes : Processes
    and_process : (first : Process) (others : Processes) → Processes

-- The keyboard has bytes to output. The faults are noted in the order of turns.
pub data System : Type 0 where
  system : (keyboard : List ℕ) (main : Process) (store : Store) (noted : List Fault) → System

-- The main term is the process 0. Channel 0 is the keyboard, 1 the screen, 2 the error channel (own).
abbrev pub start : Term → List ℕ → System
start t keyboard = system keyboard (process 0 (left (Do t) []) no_processes) (λ c. pos 0) []

-- A fault ends the whole system, or stops its process alone (manual: invalid processes). Whether a process may still go on, with these
-- faults noted: where a fault ends all, only while none is.
abbrev pub MayGo : Errors → List Fault → Type 0
MayGo on_fault.Halt noted = noted ≡ []
MayGo on_fault.Stop noted = ⊤

abbrev pub noted_in : System → List Fault
noted_in (system kb p s noted) = noted

-- ---- turns in the system (own); forks and joins (manual: combining processes, PAR)

abbrev pub branches_of : Branches → Processes
branches_of no_branches = no_processes
branches_of (and_branch n t bs) = and_process (process n (left (Do t) []) no_processes) (branches_of bs)

-- the branches that a process at a fork has begun
abbrev pub begun : Status → Processes
begun Runs = no_processes
begun Loops = no_processes
begun (Offers c m) = no_processes
begun (Awaits c) = no_processes
begun (Chooses pri arms) = no_processes
begun (Forks bs) = branches_of bs
begun IsHalted = no_processes
begun (FailsBy e) = no_processes
begun HasEnded = no_processes

abbrev pub fault_noted : Status → List Fault
fault_noted Runs = []
fault_noted Loops = []
fault_noted (Offers c m) = []
fault_noted (Awaits c) = []
fault_noted (Chooses pri arms) = []
fault_noted (Forks bs) = []
fault_noted IsHalted = []
fault_noted (FailsBy e) = e ∷ []
fault_noted HasEnded = []

abbrev pub AllEnded : Processes → Type 0
AllEnded no_processes = ⊤
AllEnded (and_process (process n a no_processes) ps) = IsTrue (is_ended (status a)) × AllEnded ps
AllEnded (and_process (process n a (and_process q qs)) ps) = ⊥

-- what a process goes on from: Skip where it waits at a fork whose branches have all ended
pub data GoesFrom : Left → Processes → Left → Type 0 where
  alone : {a : Left} → GoesFrom a no_processes a
  joined : {bs : Branches} {k : List Context} {ps : Processes} → AllEnded ps → GoesFrom (left (Forking bs) k) ps (left (Do Skip) k)

-- a turn of the process with that number, and what it stands at then
mutual
  pub data TurnIn (quantum n : ℕ) : Process → Store → Process → Store → Status → Type 0 where
    turn_here : {a b c : Left} {ps : Processes} {s s' : Store}
        → GoesFrom a ps b → Turn quantum b s c s' → TurnIn quantum n (process n a ps) s (process n c (begun (status c))) s' (status c)
    turn_below : {m : ℕ} {a : Left} {ps ps' : Processes} {s s' : Store} {st : Status}
        → TurnAmong quantum n ps s ps' s' st → TurnIn quantum n (process m a ps) s (process m a ps') s' st

  pub data TurnAmong (quantum n : ℕ) : Processes → Store → Processes → Store → Status → Type 0 where
    turn_first : {p p' : Process} {ps : Processes} {s s' : Store} {st : Status}
        → TurnIn quantum n p s p' s' st → TurnAmong quantum n (and_process p ps) s (and_process p' ps) s' st
    turn_later : {p : Process} {ps ps' : Processes} {s s' : Store} {st : Status}
        → TurnAmong quantum n ps s ps' s' st → TurnAmong quantum n (and_process p ps) s (and_process p ps') s' st

pub data SystemTurn (errors : Errors) (quantum n : ℕ) : System → System → Type 0 where
  system_turn : {kb : List ℕ} {p p' : Process} {s s' : Store} {noted : List Fault} {st : Status}
      → MayGo errors noted → TurnIn quantum n p s p' s' st
      → SystemTurn errors quantum n (system kb p s noted) (system kb p' s' (noted ++ fault_noted st))

-- ---- communication: two changes, each of one part, with one channel and one message (manual: primitive processes)

-- a change of the process with that number
mutual
  pub data ChangeIn (R : Left → Left → Type 0) (n : ℕ) : Process → Process → Type 0 where
    change_here : {a b : Left} → R a b → ChangeIn R n (process n a no_processes) (process n b no_processes)
    change_below : {m : ℕ} {a : Left} {ps ps' : Processes} → ChangeAmong R n ps ps' → ChangeIn R n (process m a ps) (process m a ps')

  pub data ChangeAmong (R : Left → Left → Type 0) (n : ℕ) : Processes → Processes → Type 0 where
    change_first : {p p' : Process} {ps : Processes} → ChangeIn R n p p' → ChangeAmong R n (and_process p ps) (and_process p' ps)
    change_later : {p : Process} {ps ps' : Processes} → ChangeAmong R n ps ps' → ChangeAmong R n (and_process p ps) (and_process p ps')

-- on which channels an offer stands
abbrev pub offers_at : Status → ℕ → Bool
offers_at Runs c = false
offers_at Loops c = false
offers_at (Offers d m) c = nat_eq d c
offers_at (Awaits d) c = false
offers_at (Chooses pri arms) c = false
offers_at (Forks bs) c = false
offers_at IsHalted c = false
offers_at (FailsBy e) c = false
offers_at HasEnded c = false

abbrev mutual
  pub offers_in : Process → ℕ → Bool
  offers_in (process n a ps) c = offers_at (status a) c || offers_among ps c

  pub offers_among : Processes → ℕ → Bool
  offers_among no_processes c = false
  offers_among (and_process p ps) c = offers_in p c || offers_among ps c

abbrev pub has_byte : List ℕ → ℕ → Bool
has_byte [] c = false
has_byte (b ∷ bs) c = nat_eq c 0

abbrev pub offers : System → ℕ → Bool
offers (system kb p s noted) c = has_byte kb c || offers_in p c

-- an offer ends, and what comes after it goes on (`Do Skip`)
pub data GivesOn (c : ℕ) (m : Message) : Left → Left → Type 0 where
  offer_ends : {k : List Context} → GivesOn c m (left (Offering c m) k) (left (Do Skip) k)

-- an input has the message, or an ALT whose rule chooses an arm with that channel
pub data GetsOn (standing : ℕ → Bool) (c : ℕ) (m : Message) : Left → Left → Type 0 where
  input_gets : {k : List Context} {list : Reception} → GetsOn standing c m (left (Awaiting c list) k) (left (Taking [] (MessageTaken list m)) k)
  arm_gets : {k : List Context} {pri : Bool} {arms : List Enabled} {again : List Setting} {list : Reception}
      → (pick : ℕ) → chosen pri pick standing arms ≡ Some (InputArm again c list)
      → GetsOn standing c m (left (Choosing pri arms) k) (left (Taking again (MessageTaken list m)) k)

-- an ALT whose rule chooses an arm with SKIP (manual: combining processes)
pub data PassesBy (standing : ℕ → Bool) : Left → Left → Type 0 where
  arm_skips : {k : List Context} {pri : Bool} {arms : List Enabled} {again : List Setting} {body : Term}
      → (pick : ℕ) → chosen pri pick standing arms ≡ Some (SkipArm again body)
      → PassesBy standing (left (Choosing pri arms) k) (left (Taking again (SkipTaken body)) k)

-- Who gives a message, and who gets it: the two halves of one event. No step of a run is a half alone: Runs and StepRuns have `Meets`,
-- so an output ends only with its input.
pub data Sends (c : ℕ) (m : Message) : End → System → System → Type 0 where
  process_sends : {n : ℕ} {kb : List ℕ} {p p' : Process} {s : Store} {noted : List Fault}
      → ChangeIn (GivesOn c m) n p p' → Sends c m (OfProcess n) (system kb p s noted) (system kb p' s noted)
  keyboard_sends : {b : ℕ} {kb : List ℕ} {p : Process} {s : Store} {noted : List Fault}
      → c ≡ 0 → m ≡ message None (One Byte (pos b) ∷ []) → Sends c m Keyboard (system (b ∷ kb) p s noted) (system kb p s noted)

pub data Receives (standing : ℕ → Bool) (c : ℕ) (m : Message) : End → System → System → Type 0 where
  process_receives : {n : ℕ} {kb : List ℕ} {p p' : Process} {s : Store} {noted : List Fault}
      → ChangeIn (GetsOn standing c m) n p p' → Receives standing c m (OfProcess n) (system kb p s noted) (system kb p' s noted)
  screen_receives : {a : System} → c ≡ 1 → Receives standing c m Screen a a
  error_receives : {a : System} → c ≡ 2 → Receives standing c m Error a a

abbrev pub communication : ℕ → End → End → Message → Communication
communication c x y m = record { chan = c; sender = x; receiver = y; message = m }

-- what stands on channels is that of the system before
pub data Meets : System → Communication → System → Type 0 where
  meets : {a b d : System} {c : ℕ} {m : Message} {x y : End} → Sends c m x a b → Receives (offers a) c m y b d → Meets a (communication c x y m) d

pub data PassesSkip (n : ℕ) : System → System → Type 0 where
  passes_skip : {kb : List ℕ} {p p' : Process} {s : Store} {noted : List Fault}
      → ChangeIn (PassesBy (offers (system kb p s noted))) n p p' → PassesSkip n (system kb p s noted) (system kb p' s noted)
