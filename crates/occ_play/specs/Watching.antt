-- What `play_watched` promises: the answer of `play_workers`, and that the board has the trace of the very run that shows it. Meanwhile
-- it shows nothing but traces of runs of the text.
-- Manual: nothing; this is (own).
use Rattle.std.specs.Prelude.{Bool, IfErr, IfOk, List, [], Option, Result, length, true, ℕ, ◌++◌, ◌≡◌, ◌≤◌, ◌⊎◌}
use Rattle.occ_term.specs.Runs.{Entry, Event, Run, shown, shown_by}
use Rattle.occ_term.specs.System.{System, start}
use Rattle.occ_term.specs.UnfoldedProgram.{Lawful, UnfoldedProgram, meaning}
use Rattle.occ_board.specs.Traces.{Publishing, held_by, publishing}
use Rattle.occ_machine.specs.Compiled.{Program}
use Rattle.occ_net_replay.specs.declared.choice.Choice.{Choice}
use Rattle.occ_net_tables.specs.declared.running.Outcome.{Outcome}
use Rattle.occ_net_tables.specs.Outcomes.{IsOutcome}
use Rattle.occ_shown.specs.Answers.{names_of}
use Rattle.occ_shown.specs.declared.counted.Counted.{Counted}
use Rattle.occ_play.specs.declared.playing.Options.{Options}
use Rattle.occ_play.specs.declared.playing.Played.{Played}
use Rattle.occ_play.specs.declared.fault.PlayFault.{PlayFault}
use Rattle.occ_play.specs.Playing.{AfterFault, IsAnswer, Refuses, Unfolds, Wrote}
use Rattle.occ_play.specs.Working.{IsAnswerWithin}

-- An answer by workers. The board is closed, and has published what its publisher held before and then the trace of the run that
-- shows the answer.
pub record IsWatched (options : Options) (source keyboard : List ℕ) (limit : ℕ) (trace : Bool) (held : List Entry) (board : Publishing) (played : Played) (bytes : List ℕ) : Type 0 where
  pub answer : IsAnswerWithin options source keyboard limit trace played bytes
  pub published : board ≡ publishing (held ++ (shown (names_of answer.answer.of_text.program.channels) answer.answer.run.follows.events).trace) [] true

-- it was written, and nothing else
abbrev pub PlaysWatched : {W N : Type 0} → (W → Option (List ℕ)) → Options → (source keyboard : List ℕ) → ℕ → Bool → Publishing → (old new : Counted W) → Played × Publishing × N → Type 0
PlaysWatched contents options source keyboard limit trace publisher old new r =
    Wrote contents (IsWatched options source keyboard limit trace (held_by publisher) r.1 r.0) old new

-- These are the communications of a run of the text's program on this keyboard, of no more turns than the limit: all that it has made.
pub record IsTextsTrace (options : Options) (source keyboard : List ℕ) (limit : ℕ) (trace : List Entry) : Type 0 where
  pub program : UnfoldedProgram
  pub unfolds : Unfolds source program
  pub lawful : Lawful program
  pub events : List Event
  pub system : System
  pub run : Run options.errors options.quantum (start (meaning program) keyboard) events system
  pub few : length events ≤ limit
  pub is : (shown (names_of program.channels) events).trace ≡ trace

-- what was held may be shown, and behind it each such trace
abbrev pub MayTellText : (may : List Entry → Type 0) → Options → (source keyboard : List ℕ) → (limit : ℕ) → (held : List Entry) → Type 0
MayTellText may options source keyboard limit held = (trace : List Entry) → IsTextsTrace options source keyboard limit trace → may (held ++ trace)

-- What a board may show that begins with nothing: nothing yet, or such a trace. One that may show just these lists meets `MayTellText`.
abbrev pub IsShownOfText : Options → (source keyboard : List ℕ) → (limit : ℕ) → List Entry → Type 0
IsShownOfText options source keyboard limit list = (list ≡ []) ⊎ IsTextsTrace options source keyboard limit list

-- ---- private contracts alone cite what follows

-- an answer, whose run shows what the outcome's communications do
abbrev pub AnswersWith : Options → (source keyboard : List ℕ) → List Choice → Bool → Program → Outcome → Played → List ℕ → Type 0
AnswersWith options source keyboard list trace p o played bytes =
    (a : IsAnswer options source keyboard list trace played bytes)
    × (shown_by (names_of p.channels) o.trace ≡ shown (names_of a.of_text.program.channels) a.run.follows.events)

-- the same for every list of which the outcome is one
abbrev pub TellsAny : Options → (source keyboard : List ℕ) → Bool → Program → Outcome → Played → List ℕ → Type 0
TellsAny options source keyboard trace p o played bytes =
    (list : List Choice) → IsOutcome p keyboard list o → AnswersWith options source keyboard list trace p o played bytes

-- with the outcome's choices and ending
pub record TellsOutcome (options : Options) (source keyboard : List ℕ) (trace : Bool) (p : Program) (o : Outcome) (played : Played) (bytes : List ℕ) : Type 0 where
  pub answers : TellsAny options source keyboard trace p o played bytes
  pub choices : played.choices ≡ o.choices
  pub ending : played.ending ≡ o.ending

abbrev pub TellsSome : Options → (source keyboard : List ℕ) → Bool → Program → Outcome → List ℕ → Type 0
TellsSome options source keyboard trace p o bytes = (played : Played) × TellsOutcome options source keyboard trace p o played bytes

-- what is answered is such a play
abbrev pub WatchedPlay : {W N E : Type 0} → Result (Played × Publishing × N) E → (W → Option (List ℕ)) → Options → (source keyboard : List ℕ) → ℕ → Bool → Publishing → (old new : Counted W) → Type 0
WatchedPlay played contents options source keyboard limit trace publisher old new = IfOk played (PlaysWatched contents options source keyboard limit trace publisher old new)

-- what the outcome comes to was written; a fault is a failed write of it, or a refusal
abbrev pub ToldPlay : {W E : Type 0} → Result Played E → (W → Option (List ℕ)) → Options → (source keyboard : List ℕ) → Bool → Program → Outcome → (old new : Counted W) → Type 0
ToldPlay played contents options source keyboard trace p o old new = IfOk played (λ x. Wrote contents (TellsOutcome options source keyboard trace p o x) old new)

abbrev pub UntoldPlay : {X W : Type 0} → Result X PlayFault → (W → Option (List ℕ)) → Options → (source keyboard : List ℕ) → Bool → Program → Outcome → (old new : Counted W) → Type 0
UntoldPlay played contents options source keyboard trace p o old new =
    IfErr played (AfterFault contents (TellsSome options source keyboard trace p o) (Refuses options source) old new)
