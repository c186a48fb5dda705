-- What is left of the text of a trace, once a part of it is written; private contracts alone cite it.
-- Manual: nothing; this is (own).
use Rattle.std.specs.Prelude.{Bool, List, [], false, length, suc, true, ℕ, ◌+◌, ◌<◌, ◌^◌}
use Rattle.occ_explaining.specs.Traced.{form_text}
use Rattle.occ_explaining.specs.declared.trace_pieces.TracePieces.{TracePieces}
use Rattle.occ_explaining.specs.declared.tracing.Form.{Form}
use Rattle.occ_shown.specs.Answers.{names_of}
use Rattle.occ_term.specs.Runs.{Entry, entries}
use Rattle.occ_term.specs.declared.communication.Communication.{Communication}
use Rattle.occ_term.specs.declared.ending.Ending.{Ending}

-- nothing once the ending is written; else these communications and the ending
abbrev pub text_unless : (ended : Bool) → Form → List Entry → Ending → List ℕ
text_unless true form es e = []
text_unless false form es e = form_text form es e

abbrev pub trace_left : TracePieces → List ℕ
trace_left p = text_unless p.ended p.form (entries (names_of p.channels.now) (p.number + 1) p.entries) p.ending

-- the numbers of all that are left are numbers of the machine
abbrev pub CanCount : TracePieces → Type 0
CanCount p = p.number + length p.entries < 2 ^ 64

-- how many pieces these are
abbrev pub count_unless : (ended : Bool) → List Communication → ℕ
count_unless true xs = 0
count_unless false xs = suc (length xs)

abbrev pub left_count : TracePieces → ℕ
left_count p = count_unless p.ended p.entries
