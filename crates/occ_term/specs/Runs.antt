-- Runs, their endings, and what they show.
-- Manual: combining processes (PAR leaves the order open). Turns, the endings and what is shown: (own).
use Rattle.std.specs.Prelude.{Bool, IsFalse, IsTrue, List, None, Option, Some, [], if◌then◌else◌, map, nat_abs, nat_eq, ℕ, ◌++◌, ◌+◌, ◌∷◌, ◌≡◌, ◌⊎◌}
pub use Rattle.occ_term.specs.declared.ending.Ending.{Ending}
pub use Rattle.occ_term.specs.declared.ending.Ending.TheVariants.{Ended, Stopped, Fault as FaultEnds, StoppedBy, Limit}
use Rattle.occ_term.specs.declared.fault.Errors.{Errors}
use Rattle.occ_term.specs.declared.fault.Errors.TheVariants as on_fault
use Rattle.occ_term.specs.Messages.{Fault, Part, Message}
use Rattle.occ_term.specs.Terms.{Branches}
use Rattle.occ_term.specs.Values.{Store}
use Rattle.occ_term.specs.Storing.{values_in}
use Rattle.occ_term.specs.Steps.{Forking, Context, Left, left, status, is_ended, Step}
use Rattle.occ_term.specs.System.{Process, process, Processes, no_processes, and_process, System, system, MayGo, noted_in, AllEnded, SystemTurn, End, OfProcess, Communication, communication, Meets, PassesSkip}

abbrev pub TakesPart : ℕ → Communication → Type 0
TakesPart n x = (x.sender ≡ OfProcess n) ⊎ (x.receiver ≡ OfProcess n)

-- a communication in which the process takes part is possible, or a choice of SKIP by it
pub data Meeting (n : ℕ) (a : System) : Type 0 where
  by_message : {x : Communication} {b : System} → TakesPart n x → Meets a x b → Meeting n a
  by_skip : {b : System} → PassesSkip n a b → Meeting n a

-- (own)
-- After a turn of a process: one communication or choice of SKIP with it where one is possible, and else none.
pub data MeetsAtMost (errors : Errors) (n : ℕ) : System → Option Communication → System → Type 0 where
  meets_none : {a : System} → (MayGo errors (noted_in a) → Meeting n a → ⊥) → MeetsAtMost errors n a None a
  meets_one : {a b : System} {x : Communication} → MayGo errors (noted_in a) → TakesPart n x → Meets a x b → MeetsAtMost errors n a (Some x) b
  meets_skip : {a b : System} → MayGo errors (noted_in a) → PassesSkip n a b → MeetsAtMost errors n a None b

-- a turn of a run: the process, and its communication
pub data Event : Type 0 where
  event : (number : ℕ) (met : Option Communication) → Event

-- a list of turns; with quantum 0 there is no turn
pub data Run (errors : Errors) (quantum : ℕ) : System → List Event → System → Type 0 where
  no_turn : {a : System} → Run errors quantum a [] a
  goes : {n : ℕ} {x : Option Communication} {a b c d : System} {es : List Event}
      → SystemTurn errors quantum n a b → MeetsAtMost errors n b x c → Run errors quantum c es d → Run errors quantum a (event n x ∷ es) d

-- ---- the ending (own; faults: manual, invalid processes)

-- some process has a private step, of which the end of a fork is one
mutual
  pub data CanStep : Process → Store → Type 0 where
    own_step : {n : ℕ} {a b : Left} {s s' : Store} → Step a s b s' → CanStep (process n a no_processes) s
    join_step : {n : ℕ} {bs : Branches} {k : List Context} {ps : Processes} {s : Store} → AllEnded ps → CanStep (process n (left (Forking bs) k) ps) s
    branch_step : {n : ℕ} {a : Left} {ps : Processes} {s : Store} → AnyCanStep ps s → CanStep (process n a ps) s

  pub data AnyCanStep : Processes → Store → Type 0 where
    first_can : {p : Process} {ps : Processes} {s : Store} → CanStep p s → AnyCanStep (and_process p ps) s
    later_can : {p : Process} {ps : Processes} {s : Store} → AnyCanStep ps s → AnyCanStep (and_process p ps) s

pub data StepOf : System → Type 0 where
  private_step : {kb : List ℕ} {p : Process} {s : Store} {noted : List Fault} → CanStep p s → StepOf (system kb p s noted)
  meeting_step : {a b : System} {x : Communication} → Meets a x b → StepOf a
  skip_step : {n : ℕ} {a b : System} → PassesSkip n a b → StepOf a

abbrev pub IsStill : System → Type 0
IsStill a = StepOf a → ⊥

abbrev pub main_ended : System → Bool
main_ended (system kb (process n a ps) s noted) = is_ended (status a)

-- what a still system is stopped by: the first fault noted, if any
abbrev pub still_by : List Fault → Ending
still_by [] = Stopped
still_by (e ∷ es) = StoppedBy e

pub data EndsBy (errors : Errors) (a : System) : Ending → Type 0 where
  by_fault : {e : Fault} {es : List Fault} → errors ≡ on_fault.Halt → noted_in a ≡ e ∷ es → EndsBy errors a (FaultEnds e)
  by_end : MayGo errors (noted_in a) → IsTrue (main_ended a) → EndsBy errors a Ended
  by_standing : MayGo errors (noted_in a) → IsFalse (main_ended a) → IsStill a → EndsBy errors a (still_by (noted_in a))
  goes_on : MayGo errors (noted_in a) → IsFalse (main_ended a) → StepOf a → EndsBy errors a Limit

-- ---- what a run shows (own)

-- the names of channels, and of the tags of their protocols
pub record Names : Type 0 where
  pub channel_name : ℕ → List ℕ
  pub tag_name : ℕ → ℕ → List ℕ

pub record Entry : Type 0 where
  pub number : ℕ
  pub channel : ℕ
  pub name : List ℕ
  pub sender : End
  pub receiver : End
  pub tag : Option (List ℕ)
  pub message : Message

abbrev pub tag_shown : Names → ℕ → Option ℕ → Option (List ℕ)
tag_shown names c None = None
tag_shown names c (Some tag) = Some (names.tag_name c tag)

abbrev pub entry_of : Names → ℕ → Communication → Entry
entry_of names i x = record {
  number = i;
  channel = x.chan;
  name = names.channel_name x.chan;
  sender = x.sender;
  receiver = x.receiver;
  tag = tag_shown names x.chan x.message.tag;
  message = x.message;
}

abbrev pub communications : List Event → List Communication
communications [] = []
communications (event n None ∷ es) = communications es
communications (event n (Some x) ∷ es) = x ∷ communications es

-- numbered on from i
abbrev pub entries : Names → ℕ → List Communication → List Entry
entries names i [] = []
entries names i (x ∷ xs) = entry_of names i x ∷ entries names (i + 1) xs

abbrev pub sent_on : ℕ → Communication → List Message
sent_on d x = if nat_eq x.chan d then x.message ∷ [] else []

-- the messages communicated on a channel, in order
abbrev pub messages_on : ℕ → List Communication → List Message
messages_on d [] = []
messages_on d (x ∷ xs) = sent_on d x ++ messages_on d xs

abbrev pub bytes_in : List Part → List ℕ
bytes_in [] = []
bytes_in (p ∷ ps) = map nat_abs (values_in p) ++ bytes_in ps

abbrev pub bytes_of : List Message → List ℕ
bytes_of [] = []
bytes_of (m ∷ ms) = bytes_in m.items ++ bytes_of ms

pub record AllShown : Type 0 where
  pub trace : List Entry
  pub screen : List ℕ
  pub error : List ℕ
  pub messages : ℕ → List Message

abbrev pub shown_by : Names → List Communication → AllShown
shown_by names xs =
    record { trace = entries names 1 xs; screen = bytes_of (messages_on 1 xs); error = bytes_of (messages_on 2 xs); messages = λ c. messages_on c xs }

abbrev pub shown : Names → List Event → AllShown
shown names es = shown_by names (communications es)
