-- What is told of a fault: its line of the source, and the variables that were read there.
-- Manual: nothing; this is (own).
use Rattle.std.specs.Prelude.{Bool, List, None, Option, Some, [], codes, if◌then◌else◌, slice_get, ℕ, ℤ, ◌+◌, ◌++◌, ◌||◌, ◌∷◌}
use Rattle.occ_term.specs.Frames.{Variables, at, place_among}
use Rattle.occ_term.specs.declared.names.Cell.{Cell}
use Rattle.occ_machine.specs.Machine.{Body}
use Rattle.occ_machine.specs.declared.instr.Instr.{Instr}
use Rattle.occ_machine.specs.declared.instr.Instr.TheVariants.{Load}
use Rattle.occ_machine.specs.declared.task.Task.{Task}
use Rattle.occ_machine.specs.declared.task.Wait.{Wait}
use Rattle.occ_machine.specs.declared.task.Wait.TheVariants.{Ready, Took, Offers, Awaits, Chooses, Joins, Halted, Done, Faulted}
use Rattle.occ_shown.specs.Answers.{value_text}
use Rattle.occ_text.specs.Words.{LogicalLine}
use Rattle.occ_report.specs.Calls.{fault_holders}
use Rattle.occ_report.specs.Components.{components_in}
use Rattle.occ_report.specs.Evaluating.{as_list, code_before, is_among, is_evaluating}
use Rattle.occ_report.specs.Naming.{told_within}
use Rattle.occ_report.specs.Written.{numbered_line, plain_text, unspaced}
use Rattle.occ_report.specs.declared.calls.Call.{Call}

-- ---- what was read for an evaluation

-- the place in the frame that an instruction reads
abbrev pub read_by : Instr ℕ → Option ℕ
read_by (Load place) = Some place
read_by instruction = None

-- Behind these instructions: what is read is kept up to the end of the evaluation.
abbrev pub with_read : Instr ℕ → List ℕ → List ℕ
with_read i read = (if is_evaluating i then read else []) ++ as_list (read_by i)

abbrev pub reads_in : List (Instr ℕ) → List ℕ → List ℕ
reads_in [] read = read
reads_in (i ∷ others) read = reads_in others (with_read i read)

-- ---- what is told of it

-- the value of a variable, by how its name is told; nothing of one that is left out
abbrev pub told_value : (told : List ℕ) → Cell → ℤ → List ℕ
told_value [] c v = []
told_value (b ∷ bs) c v = codes "    " ++ b ∷ bs ++ codes " = " ++ value_text c.primitive v ++ codes "\n"

abbrev pub value_line : (List ℕ → List ℕ) → Cell → ℤ → List ℕ
value_line told c v = told_value (told c.name) c v

-- whether a variable is at one of these places of what a process holds, or has one of these numbers
abbrev pub was_read : (held : List ℕ) → (read components : List ℕ) → ℕ → Bool
was_read held read components n = is_among (place_among held n) read || is_among n components

-- of the variables, the first of which has this number, those that were read
abbrev pub variables_text : (told : List ℕ → List ℕ) → (held : List ℕ) → Variables → (read components : List ℕ) → ℕ → List Cell → List ℕ
variables_text told held f read components n [] = []
variables_text told held f read components n (c ∷ others) =
    (if was_read held read components n then value_line told c (at f n) else []) ++ variables_text told held f read components (n + 1) others

-- how this line tells a variable, in a process of this body that goes through these calls
abbrev pub told_at : List LogicalLine → List Call → Body → (place line : ℕ) → (name : List ℕ) → List ℕ
told_at lines calls b p line name = told_within lines calls (fault_holders calls b p line) line name

-- those that were read up to the place where a process of this body stands
abbrev pub read_text : List LogicalLine → List Call → (line : ℕ) → Body → List Cell → Task → List ℕ
read_text lines calls line b cells t =
    variables_text (told_at lines calls b t.pc line) b.cells t.frame (reads_in (code_before b t.pc) []) (components_in t.frame [] (code_before b t.pc)) 0 cells

abbrev pub fault_line : (source : List ℕ) → ℕ → List ℕ
fault_line source line = codes "    " ++ plain_text (unspaced (numbered_line source line)) ++ codes "\n"

abbrev pub body_text : List LogicalLine → List Call → (line : ℕ) → Option Body → List Cell → Task → List ℕ
body_text lines calls line None cells t = []
body_text lines calls line (Some b) cells t = read_text lines calls line b cells t

-- the lines below that of the process of this number, where it met a fault
abbrev pub faulted_text : Wait → (source : List ℕ) → List LogicalLine → List Call → List Cell → Option Body → Task → List ℕ
faulted_text Ready source lines calls cells body t = []
faulted_text (Took arm indices m) source lines calls cells body t = []
faulted_text (Offers c m) source lines calls cells body t = []
faulted_text (Awaits c) source lines calls cells body t = []
faulted_text (Chooses pri arms) source lines calls cells body t = []
faulted_text (Joins ns) source lines calls cells body t = []
faulted_text Halted source lines calls cells body t = []
faulted_text Done source lines calls cells body t = []
faulted_text (Faulted e) source lines calls cells body t = fault_line source e.line ++ body_text lines calls e.line body cells t

abbrev pub fault_told : (source : List ℕ) → List LogicalLine → List Call → List Cell → List Body → ℕ → Task → List ℕ
fault_told source lines calls cells bodies n t = faulted_text t.wait source lines calls cells (slice_get bodies n) t
