-- The text of a trace, piece by piece.
use Rattle.std.proofs.Common.{◌≡◌, ◌∙◌, ◌+◌, ◌++◌, ◌∷◌, ℕ, List, [], Bool, false, true, Option, ap, append-nil, append_assoc, refl, sym}
use Rattle.std.specs.Prelude.{Err, IfOk, Ok, OnOk, Result}
use Rattle.occ_explaining.specs.Studied.{AreStepsBy, IsTraceBy}
use Rattle.occ_explaining.specs.TraceLeft.{text_unless}
use Rattle.occ_explaining.specs.Traced.{form_end, form_line, form_text}
use Rattle.occ_explaining.specs.declared.studied.Studied.{Studied}
use Rattle.occ_explaining.specs.declared.tracing.Form.{Form}
use Rattle.occ_explaining.specs.declared.tracing.Form.TheVariants.{Lines, Json}
use Rattle.occ_files.specs.Leaving.{LeavesText, Written}
use Rattle.occ_net_replay.specs.declared.choice.Choice.{Choice}
use Rattle.occ_net_tables.specs.Outcomes.{IsOutcome}
use Rattle.occ_net_tables.specs.declared.running.Outcome.{Outcome}
use Rattle.occ_report.specs.Steps.{IsSteps}
use Rattle.occ_shown.specs.Answers.{entries_in, entry_at, line_text, names_of, trace_text}
use Rattle.occ_shown.specs.Json.{ending_json, line_json, trace_json}
use Rattle.occ_term.specs.Endings.{ending_text}
use Rattle.occ_term.specs.Runs.{Entry, entries}
use Rattle.occ_term.specs.declared.communication.Communication.{Communication}
use Rattle.occ_term.specs.declared.ending.Ending.{Ending}
use Rattle.occ_term.specs.declared.names.Channel.{Channel}

line_first : (form : Form) (e : Entry) (es : List Entry) (end : Ending) → form_line form e ++ form_text form es end ≡ form_text form (e ∷ es) end
line_first Lines e es end =
    sym (append_assoc (line_text e) (trace_text es ++ ending_text end) (10 ∷ [])) ∙ ap (λ l. l ++ 10 ∷ []) (sym (append_assoc (line_text e) (trace_text es) (ending_text end)))
line_first Json e es end = sym (append_assoc (line_json e) (trace_json es) (ending_json end))

-- the line of the next communication, and what is left behind it
pub line_written : (form : Form) (cs : List Channel) (number : ℕ) (old : List Communication) (x : Communication) (new : List Communication) (end : Ending) (rest : List ℕ) → old ≡ x ∷ new
    → rest ≡ form_text form (entries (names_of cs) (number + 1 + 1) new) end
    → form_line form (entry_at cs (number + 1) x) ++ rest ≡ form_text form (entries (names_of cs) (number + 1) old) end
line_written form cs number old x new end rest there left =
    ap (λ l. form_line form (entry_at cs (number + 1) x) ++ l) left
    ∙ line_first form (entry_at cs (number + 1) x) (entries (names_of cs) (number + 1 + 1) new) end
    ∙ ap (λ xs. form_text form (entries (names_of cs) (number + 1) xs) end) (sym there)

-- the ending, where no communication is left
pub end_written : (form : Form) (cs : List Channel) (number : ℕ) (old : List Communication) (end : Ending) → old ≡ [] → form_end form end ≡ form_text form (entries (names_of cs) number old) end
end_written form cs number old end none = by form ∙ ap (λ xs. form_text form (entries (names_of cs) number xs) end) (sym none)
  where
    by : (form : Form) → form_end form end ≡ form_text form [] end
    by Lines = refl
    by Json = refl

-- the same of what is left
pub line_left : (form : Form) (cs : List Channel) (number : ℕ) (ended : Bool) (old : List Communication) (x : Communication) (new : List Communication) (end : Ending) (rest : List ℕ) → ended ≡ false → old ≡ x ∷ new
    → rest ≡ text_unless ended form (entries (names_of cs) (number + 1 + 1) new) end
    → form_line form (entry_at cs (number + 1) x) ++ rest ≡ text_unless ended form (entries (names_of cs) (number + 1) old) end
line_left form cs number true old x new end rest going there left = cc
line_left form cs number false old x new end rest going there left = line_written form cs number old x new end rest there left

pub end_left : (form : Form) (cs : List Channel) (number : ℕ) (ended : Bool) (old : List Communication) (end : Ending) (rest : List ℕ) → ended ≡ false → old ≡ [] → rest ≡ []
    → form_end form end ++ rest ≡ text_unless ended form (entries (names_of cs) number old) end
end_left form cs number true old end rest going none left = cc
end_left form cs number false old end rest going none left =
    ap (λ l. form_end form end ++ l) left ∙ append-nil (form_end form end) ∙ end_written form cs number old end none

-- ---- whose trace it is

pub is_trace : (s : Studied) (keyboard : List ℕ) (list : List Choice) (form : Form) (o : Outcome) (cs : List Channel) (text : List ℕ) → IsOutcome s.code keyboard list o → cs ≡ s.code.channels
    → text ≡ form_text form (entries_in cs o.trace) o.ending → IsTraceBy s keyboard list form text
is_trace s keyboard list form o cs text ran are is = λ options source h. record {
  code = s.code;
  outcome = o;
  ran = record { code = h.known.code; is = ran };
  is = is ∙ ap (λ names. form_text form (entries_in names o.trace) o.ending) are;
}

-- a text that was written is one of others
pub written_as : {X E : Type 0} (r : Result X E) {Is Tells : List ℕ → Type 0} (old new : Option (List Written)) (path : List ℕ) → ((text : List ℕ) → Is text → Tells text)
    → OnOk r (LeavesText Is old new path) → OnOk r (LeavesText Tells old new path)
written_as (Ok x) old new path so h = record { text = h.text; is = so h.text h.is; left = h.left }
written_as (Err e) old new path so h = tt

pub ok_as : {X E : Type 0} (r : Result X E) {Is Tells : X → Type 0} → ((x : X) → Is x → Tells x) → IfOk r Is → IfOk r Tells
ok_as (Ok x) so h = so x h
ok_as (Err e) so h = tt

-- ---- whose turns they are

pub are_steps : (s : Studied) (keyboard : List ℕ) (list : List Choice) (text : List ℕ) → IsSteps s.places s.code keyboard list text → AreStepsBy s keyboard list text
are_steps s keyboard list text steps = λ options source h. record { program = s.code; known = s.places; unfolded = h.unfolded; are = h.known; steps = steps }
