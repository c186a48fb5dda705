-- The trace of a run as a text of its own.
-- Manual: nothing; this is (own).
use Rattle.std.specs.Prelude.{List, Vec, [], ℕ, ◌++◌, ◌≡◌, ◌∷◌}
use Rattle.occ_machine.specs.Compiled.{Program}
use Rattle.occ_shown.specs.Json.{ending_json, json_text, line_json}
use Rattle.occ_net_replay.specs.declared.choice.Choice.{Choice}
use Rattle.occ_term.specs.declared.communication.Communication.{Communication}
use Rattle.occ_term.specs.declared.ending.Ending.{Ending}
use Rattle.occ_term.specs.declared.names.Channel.{Channel}
use Rattle.occ_term.specs.Endings.{ending_text}
use Rattle.occ_net_tables.specs.declared.running.Outcome.{Outcome}
use Rattle.occ_play.specs.declared.playing.Options.{Options}
use Rattle.occ_play.specs.Playing.{Ran}
use Rattle.occ_shown.specs.Answers.{AddsText, entry_at, line_text, names_of, trace_text}
use Rattle.occ_term.specs.Runs.{Entry, entries}
use Rattle.occ_explaining.specs.declared.tracing.Form.{Form}
use Rattle.occ_explaining.specs.declared.tracing.Form.TheVariants.{Lines, Json}

-- a line for each communication and one for the ending, as an answer has them; or an object of JSON for each
abbrev pub form_text : Form → List Entry → Ending → List ℕ
form_text Lines es e = trace_text es ++ ending_text e ++ 10 ∷ []
form_text Json es e = json_text es e

-- one communication
abbrev pub form_line : Form → Entry → List ℕ
form_line Lines e = line_text e
form_line Json e = line_json e

-- that of one with this number and the names of these channels went behind these bytes
abbrev pub AddsForm : {A : Type 0} → Form → List Channel → (number : ℕ) → Communication → (old new : Vec ℕ A) → Type 0
AddsForm form cs number x old new = AddsText old new (form_line form (entry_at cs number x))

-- the ending
abbrev pub form_end : Form → Ending → List ℕ
form_end Lines e = ending_text e ++ 10 ∷ []
form_end Json e = ending_json e

-- what the code of a text's program comes to by these choices: its communications and its ending, in this form
pub record IsTraced (options : Options) (source keyboard : List ℕ) (list : List Choice) (form : Form) (bytes : List ℕ) : Type 0 where
  pub code : Program
  pub outcome : Outcome
  pub ran : Ran options source keyboard list code outcome
  pub is : bytes ≡ form_text form (entries (names_of code.channels) 1 outcome.trace) outcome.ending
