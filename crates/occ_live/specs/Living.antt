-- Runs that get the keyboard's bytes while they go on, and what of their screen was written.
-- Manual: nothing; this is (own).
use Rattle.std.specs.Prelude.{Bool, IsFalse, IsTrue, List, None, Option, Some, [], false, length, slice_get, true, ℕ, ⊤, Vec, ◌++◌, ◌+◌, ◌<◌, ◌^◌, ◌∷◌, ◌≡◌}
use Rattle.std.specs.Io.KnownBytes.{IsAtEnd}
use Rattle.occ_term.specs.declared.communication.Communication.{Communication}
use Rattle.occ_term.specs.declared.ending.Ending.{Ending}
use Rattle.occ_machine.specs.Compiled.{Program}
use Rattle.occ_machine.specs.Machine.{Body, Stopping}
use Rattle.occ_machine.specs.declared.task.Task.{Task}
use Rattle.occ_net_replay.specs.Waiting.{IsReplay}
use Rattle.occ_term.specs.UnfoldedProgram.{UnfoldedProgram}
use Rattle.occ_term.specs.declared.message.Part.{Part}
use Rattle.occ_live_laws.specs.Live.{ReplaysWithin, StaysWithin, with_more}
use Rattle.occ_choices.specs.Plans.{choices_of}
use Rattle.occ_choices.specs.declared.plan.Plan.{Plan}
use Rattle.occ_net_replay.specs.declared.choice.Choice.{Choice}
use Rattle.occ_net_replay.specs.Following.{AreBytes}
use Rattle.occ_net_replay.specs.Replay.{HasTask, Net, OneTurn, Replays, ending_of, first_net, ready_from, selected_process}
use Rattle.occ_net_tables.specs.TracePlaces.{Place, place_behind}
use Rattle.occ_net_tables.specs.Halves.{BeganTurn, StaysWithinBytes}
use Rattle.occ_net_tables.specs.Holding.{Holds, trace_in}
use Rattle.occ_net_tables.specs.Outcomes.{Begins, IsOutcome}
use Rattle.occ_net_tables.specs.declared.tables.Tables.{Tables}
use Rattle.occ_net_tables.specs.declared.turning.Begun.{Begun}
use Rattle.occ_files.specs.Reading.{ReadsNext, failures_of, reader_of, reason_kept}
use Rattle.occ_files.specs.declared.reader.CountedReader.{CountedReader}
use Rattle.occ_shown.specs.Answers.{channel_bytes}
use Rattle.occ_shown.specs.Counting.{AppendsTo, failures_of as writes_failed}
use Rattle.occ_shown.specs.declared.counted.Counted.{Counted}
use Rattle.occ_live.specs.declared.fault.LiveFault.{LiveFault}
use Rattle.occ_live.specs.declared.fault.LiveFault.TheVariants as fails
use Rattle.occ_live.specs.declared.living.Lived.{Lived}
use Rattle.occ_live.specs.declared.screen.Screen.{Screen}

-- ---- when a live run reads

-- The process that the choice selects comes to a stop at which it looks past the bytes: what comes next depends on whether there is another one.
pub record LooksPast (p : Program) (c : Choice) (net : Net) : Type 0 where
  pub number : ℕ
  pub body : Body
  pub before : Task
  pub after : Task
  pub selects : selected_process (ready_from 0 net.tasks) c.which ≡ Some number
  pub has_body : slice_get p.bodies number ≡ Some body
  pub has_task : HasTask net.tasks number before
  pub stops : Stopping body before after
  pub past : StaysWithin c.pick net number after → ⊥

-- a read is due: the run goes on by the next choice of the list, and that turn looks past the bytes
pub record IsDue (p : Program) (list cs : List Choice) (net : Net) : Type 0 where
  pub choice : Choice
  pub next : slice_get list (length cs) ≡ Some choice
  pub going : ending_of p.errors net ≡ None
  pub looks : LooksPast p choice net

-- What a run has come to by some first choices of the list. It begins without a byte. Where a read is due it gets some bytes, or meets the end of
-- the keyboard. Until then it takes no turn that looks past its bytes.
pub data LiveRun (p : Program) (list : List Choice) : (read : List ℕ) → (is_open : Bool) → List Choice → Net → Type 0 where
  starts : LiveRun p list [] true [] (first_net p [])
  gets_more : {read : List ℕ} {cs : List Choice} {net : Net} → LiveRun p list read true cs net → IsDue p list cs net → (more : List ℕ) → 0 < length more
      → LiveRun p list (read ++ more) true cs (with_more more net)
  meets_end : {read : List ℕ} {cs : List Choice} {net : Net} → LiveRun p list read true cs net → IsDue p list cs net → LiveRun p list read false cs net
  takes_turn : {read : List ℕ} {is_open : Bool} {cs : List Choice} {c : Choice} {a b : Net} → LiveRun p list read is_open cs a → slice_get list (length cs) ≡ Some c → ending_of p.errors a ≡ None
      → (o : OneTurn p c a b) → (IsTrue is_open → StaysWithin c.pick a o.number o.after) → LiveRun p list read is_open (cs ++ c ∷ []) b

-- where a read is due in a run of a lawful program, the turn is another one with a byte more, whatever that byte is
abbrev pub DueReadsMatter : Type 0
DueReadsMatter =
    (u : UnfoldedProgram) (p : Program) (quantum : ℕ) (list : List Choice) (read : List ℕ) (cs : List Choice) (a b other : Net) (byte : ℕ)
    → IsReplay u p quantum read cs a → (d : IsDue p list cs a) → OneTurn p d.choice a b → OneTurn p d.choice (with_more (byte ∷ []) a) other → other ≡ with_more (byte ∷ []) b → ⊥

-- It is the replay of these choices for the bytes that were read, and one within them while the keyboard may have more.
pub record IsReplayed (p : Program) (list : List Choice) (read : List ℕ) (is_open : Bool) (cs : List Choice) (net : Net) : Type 0 where
  pub begins : Begins cs list
  pub replays : Replays p read cs net
  pub within : IsTrue is_open → ReplaysWithin p read cs net

abbrev pub LiveRunsAreReplays : Type 0
LiveRunsAreReplays = (p : Program) (list : List Choice) (read : List ℕ) (is_open : Bool) (cs : List Choice) (net : Net) → LiveRun p list read is_open cs net → IsReplayed p list read is_open cs net

-- ---- what a live run comes to

-- What it comes to is what a run by the list comes to that had the bytes from the start. Where the keyboard may have more, it is so with any
-- bytes behind them. It read where a read was due.
pub record IsLive (p : Program) (read : List ℕ) (list : List Choice) (lived : Lived) : Type 0 where
  pub bytes : AreBytes read
  pub is : IsOutcome p read list lived.outcome
  pub run : LiveRun p list read lived.is_open lived.outcome.choices.items is.net
  pub for_more : IsTrue lived.is_open → (more : List ℕ) → IsOutcome p (read ++ more) list lived.outcome

-- where the keyboard has no more, its reader is at its end
abbrev pub EndsRightly : {K : Type 0} → (K → Option (List ℕ)) → CountedReader K → Bool → Type 0
EndsRightly remaining keys is_open = IsFalse is_open → IsAtEnd (remaining (reader_of keys))

-- What was written when a run was given up: all that its screen had before a read that failed, and else a beginning of it.
abbrev pub WroteSome : {W : Type 0} → (W → Option (List ℕ)) → (first now : Counted W) → List Communication → LiveFault → Type 0
WroteSome contents first now trace (fails.Read reason) = AppendsTo contents first now (channel_bytes 1 trace)
WroteSome contents first now trace fails.Write = (shown : List ℕ) × (rest : List ℕ) × (channel_bytes 1 trace ≡ shown ++ rest) × AppendsTo contents first now shown
WroteSome contents first now trace fails.Memory = (shown : List ℕ) × (rest : List ℕ) × (channel_bytes 1 trace ≡ shown ++ rest) × AppendsTo contents first now shown

-- What is told has failed: a read, for the reason of the last that did, or a write; or memory was refused.
abbrev pub TellsFailed : {K W : Type 0} → (keys_old keys_new : CountedReader K) → (old new : Counted W) → LiveFault → Type 0
TellsFailed keys_old keys_new old new (fails.Read reason) = (failures_of keys_old < failures_of keys_new) × (reason ≡ reason_kept keys_new)
TellsFailed keys_old keys_new old new fails.Write = writes_failed old < writes_failed new
TellsFailed keys_old keys_new old new fails.Memory = ⊤

-- a read failed where one was due
abbrev pub FailsWhereDue : Program → (list : List Choice) → (is_open : Bool) → (used : List Choice) → Net → LiveFault → Type 0
FailsWhereDue p list is_open used net (fails.Read reason) = IsTrue is_open × IsDue p list used net
FailsWhereDue p list is_open used net fails.Write = ⊤
FailsWhereDue p list is_open used net fails.Memory = ⊤

-- The run had come to this network, over the bytes that were read.
pub record FailsLive {W : Type 0} (contents : W → Option (List ℕ)) (p : Program) (read : List ℕ) (list : List Choice) (first now : Counted W) (fault : LiveFault) : Type 0 where
  pub is_open : Bool
  pub used : List Choice
  pub net : Net
  pub run : LiveRun p list read is_open used net
  pub due : FailsWhereDue p list is_open used net fault
  pub wrote : WroteSome contents first now net.trace fault

-- ---- private contracts alone cite what follows

-- a read failed, or memory was refused
abbrev pub TellsRead : {K : Type 0} → (old new : CountedReader K) → LiveFault → Type 0
TellsRead old new (fails.Read reason) = (failures_of old < failures_of new) × (reason ≡ reason_kept new)
TellsRead old new fails.Write = ⊥
TellsRead old new fails.Memory = ⊤

-- a write failed, or memory was refused
abbrev pub TellsWrite : {W : Type 0} → (old new : Counted W) → LiveFault → Type 0
TellsWrite old new (fails.Read reason) = ⊥
TellsWrite old new fails.Write = writes_failed old < writes_failed new
TellsWrite old new fails.Memory = ⊤

-- ---- what was shown

-- no communication stands before this place
abbrev pub MarksStart : Place → Type 0
MarksStart mark = mark ≡ place_behind []

-- the screen's bytes of the communications up to the mark were written
pub record HasShown {W : Type 0} (contents : W → Option (List ℕ)) (first now : Counted W) (mark : Place) (trace : List Communication) : Type 0 where
  pub before : List Communication
  pub behind : List Communication
  pub are : trace ≡ before ++ behind
  pub place : mark ≡ place_behind before
  pub written : AppendsTo contents first now (channel_bytes 1 before)

-- the mark stands behind a beginning of the trace
pub record IsMarked (mark : Place) (trace : List Communication) : Type 0 where
  pub before : List Communication
  pub behind : List Communication
  pub are : trace ≡ before ++ behind
  pub place : mark ≡ place_behind before

-- all that stood behind the mark was written, and nothing stands behind it now
abbrev pub Shows : {W : Type 0} → (W → Option (List ℕ)) → (old : Counted W) → Place → List Communication → (new : Counted W) → Place → Type 0
Shows contents old mark trace new next = (before behind : List Communication) → trace ≡ before ++ behind → mark ≡ place_behind before → AppendsTo contents old new (channel_bytes 1 behind) × (next ≡ place_behind trace)

-- a beginning of that was
abbrev pub ShowsPart : {W : Type 0} → (W → Option (List ℕ)) → (old : Counted W) → Place → List Communication → (new : Counted W) → LiveFault → Type 0
ShowsPart contents old mark trace new (fails.Read reason) = (before behind : List Communication) → trace ≡ before ++ behind → mark ≡ place_behind before → AppendsTo contents old new (channel_bytes 1 behind)
ShowsPart contents old mark trace new fault =
    (before behind : List Communication) → trace ≡ before ++ behind → mark ≡ place_behind before → (shown : List ℕ) × (rest : List ℕ) × (channel_bytes 1 behind ≡ shown ++ rest) × AppendsTo contents old new shown

-- whatever was shown of the one trace, so much is shown of the other
abbrev pub ShowsOn : {W : Type 0} → (W → Option (List ℕ)) → (old : Counted W) → Place → List Communication → (new : Counted W) → Place → List Communication → Type 0
ShowsOn contents old mark trace new next longer = (first : Counted _) → HasShown contents first old mark trace → HasShown contents first new next longer

-- whatever was shown, a fault left so much written
abbrev pub FailsBehind : {W : Type 0} → (W → Option (List ℕ)) → (old : Counted W) → Place → List Communication → (new : Counted W) → LiveFault → Type 0
FailsBehind contents old mark trace new fault = (first : Counted _) → HasShown contents first old mark trace → WroteSome contents first new trace fault

-- ---- what was read

-- whatever was read before, these are all that was read
abbrev pub ReadsOn : {K : Type 0} → (K → Option (List ℕ)) → (old : CountedReader K) → List ℕ → (new : CountedReader K) → List ℕ → Type 0
ReadsOn remaining old read new longer = (first : CountedReader _) → ReadsNext remaining first old read → ReadsNext remaining first new longer

-- ---- where a run stands

-- it has used these choices over the bytes that were read
pub record StandsLive (p : Program) (list : List Choice) (read : List ℕ) (is_open : Bool) (kept : List Choice) (n : Tables) : Type 0 where
  pub net : Net
  pub bytes : AreBytes read
  pub run : LiveRun p list read is_open kept net
  pub holds : Holds p read n net

-- it has come to this, of which it is not said whether the keyboard may have more
pub record HasCome (p : Program) (read : List ℕ) (kept : List Choice) (n : Tables) : Type 0 where
  pub net : Net
  pub few : length kept < 2 ^ 64
  pub replays : Replays p read kept net
  pub holds : Holds p read n net

-- it stands where it can go on by this choice
pub record MayGoOn (p : Program) (list : List Choice) (read : List ℕ) (is_open : Bool) (kept : List Choice) (choice : Choice) (n : Tables) : Type 0 where
  pub stands : StandsLive p list read is_open kept n
  pub few : 1 + length kept < 2 ^ 64
  pub next : slice_get list (length kept) ≡ Some choice
  pub going : ending_of p.errors stands.net ≡ None

-- it stood so, and this turn of its has come to its stop
pub record HasBegun (p : Program) (list : List Choice) (read : List ℕ) (is_open : Bool) (kept : List Choice) (choice : Choice) (begun : Begun) (items : List Part) (n : Tables) : Type 0 where
  pub old : Tables
  pub from : MayGoOn p list read is_open kept choice old
  pub began : BeganTurn p choice old begun items n

abbrev pub CanHear : Program → List ℕ → Bool → (pick : ℕ) → Begun → Tables → Type 0
CanHear p read is_open pick begun n = (list : List Choice) × (kept : List Choice) × (choice : Choice) × (items : List Part) × HasBegun p list read is_open kept choice begun items n

-- it stands so over the bytes that were read since, and the turn stays within these while the keyboard may have more
pub record HasHeard (p : Program) (list : List Choice) (read : List ℕ) (is_open : Bool) (kept : List Choice) (choice : Choice) (begun : Begun) (items : List Part) (n : Tables) : Type 0 where
  pub begun_so : HasBegun p list read is_open kept choice begun items n
  pub stays : IsTrue is_open → StaysWithinBytes read n begun choice.pick

abbrev pub Hears : Program → List ℕ → Bool → Tables → Begun → (pick : ℕ) → List ℕ → Tables → Bool → Type 0
Hears p read is_open n begun pick longer next still_open =
    (list kept : List Choice) (choice : Choice) (items : List Part) → choice.pick ≡ pick → HasBegun p list read is_open kept choice begun items n
    → HasHeard p list longer still_open kept choice begun items next

-- a read that failed was due
abbrev pub HearsNothing : Program → List ℕ → Bool → Tables → Begun → (pick : ℕ) → LiveFault → Type 0
HearsNothing p read is_open n begun pick fault =
    (list kept : List Choice) (choice : Choice) (items : List Part) → choice.pick ≡ pick → (x : HasBegun p list read is_open kept choice begun items n)
    → FailsWhereDue p list is_open kept x.from.stands.net fault

-- a fault in a turn of a run that stood so
pub record FailsAt {W : Type 0} (contents : W → Option (List ℕ)) (p : Program) (list : List Choice) (read : List ℕ) (old : Counted W) (mark : Place) (n : Tables) (new : Counted W) (fault : LiveFault) : Type 0 where
  pub is_open : Bool
  pub used : List Choice
  pub net : Net
  pub run : LiveRun p list read is_open used net
  pub due : FailsWhereDue p list is_open used net fault
  pub trace : net.trace ≡ trace_in n
  pub part : FailsBehind contents old mark (trace_in n) new fault

-- what came of a run with these choices, whose screen's bytes were written up to the end
pub record EndedSo {W : Type 0} (contents : W → Option (List ℕ)) (old : Counted W) (mark : Place) (trace : List Communication) (kept : List Choice) (ending : Ending) (is_open : Bool) (new : Counted W) (lived : Lived) : Type 0 where
  pub trace_is : lived.outcome.trace ≡ trace
  pub choices : lived.outcome.choices.items ≡ kept
  pub ending_is : lived.outcome.ending ≡ ending
  pub open_is : lived.is_open ≡ is_open
  pub shown : (before behind : List Communication) → trace ≡ before ++ behind → mark ≡ place_behind before → AppendsTo contents old new (channel_bytes 1 behind)

-- ---- the same of a screen and of tables

abbrev pub Marked : Screen → Tables → Type 0
Marked s n = IsMarked s.mark (trace_in n)

abbrev pub ScreenGoesOn : {W : Type 0} → (W → Option (List ℕ)) → (old : Counted W) → Screen → Tables → (new : Counted W) → Screen → Tables → Type 0
ScreenGoesOn contents old s n new t m = ShowsOn contents old s.mark (trace_in n) new t.mark (trace_in m)

abbrev pub ScreenShows : {W : Type 0} → (W → Option (List ℕ)) → (old : Counted W) → Screen → Tables → (new : Counted W) → Screen → Type 0
ScreenShows contents old s n new t = Shows contents old s.mark (trace_in n) new t.mark

abbrev pub ScreenShowsPart : {W : Type 0} → (W → Option (List ℕ)) → (old : Counted W) → Screen → Tables → (new : Counted W) → LiveFault → Type 0
ScreenShowsPart contents old s n new fault = ShowsPart contents old s.mark (trace_in n) new fault

abbrev pub ScreenFails : {W : Type 0} → (W → Option (List ℕ)) → (old : Counted W) → Screen → Tables → (new : Counted W) → LiveFault → Type 0
ScreenFails contents old s n new fault = FailsBehind contents old s.mark (trace_in n) new fault

-- it can go on so by this choice of the plan
abbrev pub MayTurn : {A : Type 0} → Program → Plan → (read : Vec ℕ A) → Bool → (kept : Vec Choice A) → Choice → Tables → Type 0
MayTurn p plan read is_open kept choice n = MayGoOn p (choices_of plan) read.items is_open kept.items choice n

-- it stands there, and whether the keyboard may have more is said last
abbrev pub StandsBy : {A : Type 0} → Program → Plan → (read : Vec ℕ A) → (kept : Vec Choice A) → Tables → Bool → Type 0
StandsBy p plan read kept n is_open = StandsLive p (choices_of plan) read.items is_open kept.items n

abbrev pub FailsIn : {W A : Type 0} → (W → Option (List ℕ)) → Program → Plan → (read : Vec ℕ A) → (old : Counted W) → Screen → Tables → (new : Counted W) → LiveFault → Type 0
FailsIn contents p plan read old s n new fault = FailsAt contents p (choices_of plan) read.items old s.mark n new fault

-- where the keyboard had no more before, or has no more now, its reader is at its end
abbrev pub EndsOn : {K : Type 0} → (K → Option (List ℕ)) → (old new : CountedReader K) → (was is : Bool) → Type 0
EndsOn remaining old new was is = EndsRightly remaining old was → EndsRightly remaining new is

abbrev pub RunComesTo : {W : Type 0} → (W → Option (List ℕ)) → (old : Counted W) → Screen → Tables → List Choice → Ending → Bool → (new : Counted W) → Lived → Type 0
RunComesTo contents old s n kept ending is_open new lived = EndedSo contents old s.mark (trace_in n) kept ending is_open new lived

abbrev pub HearsBytes : {A : Type 0} → Program → (old : Vec ℕ A) → Bool → Tables → Begun → (pick : ℕ) → (new : Vec ℕ A) → Tables → Bool → Type 0
HearsBytes p old is_open n begun pick new next still_open = Hears p old.items is_open n begun pick new.items next still_open
