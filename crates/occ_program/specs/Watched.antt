-- What playing a source came to.
-- Manual: nothing; this is (own).
use Rattle.std.specs.Prelude.{Bool, IfSome, List, Option, Result, Ok, Err, Vec, true, ℕ, ◌≡◌}
use Rattle.occ_board.specs.declared.shown.Edition.{Edition}
use Rattle.occ_board.specs.Editions.{edition}
use Rattle.occ_shown.specs.Answers.{names_of, trace_text}
use Rattle.occ_term.specs.Runs.{Entry, shown}
use Rattle.occ_play.specs.declared.playing.Options.{Options}
use Rattle.occ_play.specs.declared.playing.Played.{Played}
use Rattle.occ_play.specs.declared.fault.PlayFault.{PlayFault}
use Rattle.occ_play.specs.declared.fault.PlayFault.TheVariants as play
use Rattle.occ_play.specs.Working.{IsAnswerWithin, WorkersRefuse}

-- an answer was written; a write of one failed; or what was asked for was refused
abbrev pub CameTo : {X : Type 0} → (X → List ℕ → Type 0) → (PlayFault → Type 0) → Result X PlayFault → Type 0
CameTo Answers Refusal (Ok played) = (bytes : List ℕ) × Answers played bytes
CameTo {X} Answers Refusal (Err (play.Write written)) = (bytes : List ℕ) × ((played : X) × Answers played bytes)
CameTo Answers Refusal (Err fault) = Refusal fault

-- what it came to by so many workers, within the limit
abbrev pub CameByCrew : ℕ → Options → (source keyboard : List ℕ) → ℕ → Bool → Result Played PlayFault → Type 0
CameByCrew workers options source keyboard limit trace played =
    CameTo (IsAnswerWithin options source keyboard limit trace) (WorkersRefuse workers options source) played

-- an answer of workers within the limit, where this holds of the trace of the run that shows it
abbrev pub AnswersTelling : (Holds : List Entry → Type 0) → Options → (source keyboard : List ℕ) → ℕ → Bool → Played → List ℕ → Type 0
AnswersTelling Holds options source keyboard limit trace played bytes =
    (a : IsAnswerWithin options source keyboard limit trace played bytes) × Holds (shown (names_of a.answer.of_text.program.channels) a.answer.run.follows.events).trace

-- so it came, and where there are lines beside the answer they are those of all communications of its run
abbrev pub SeenByCrew : {A : Type 0} → ℕ → Options → (source keyboard : List ℕ) → ℕ → Bool → Result (Played × Option (Vec ℕ A)) PlayFault → Type 0
SeenByCrew workers options source keyboard limit trace seen =
    CameTo (λ x. AnswersTelling (λ entries. IfSome x.1 (λ lines. lines.items ≡ trace_text entries)) options source keyboard limit trace x.0) (WorkersRefuse workers options source) seen

-- ---- private contracts alone cite what follows

-- so it came, and the note beside the answer is of the last list, which has all communications of its run
abbrev pub ToldByCrew : ℕ → Options → (source keyboard : List ℕ) → ℕ → Bool → Result (Played × Edition) PlayFault → Type 0
ToldByCrew workers options source keyboard limit trace noted =
    CameTo (λ x. AnswersTelling (λ entries. x.1 ≡ edition entries true) options source keyboard limit trace x.0) (WorkersRefuse workers options source) noted
