-- What is read is told as the line has it.
use Rattle.std.proofs.Common.{◌≡◌, ◌∙◌, List, [], ap, length, ℕ}
use Rattle.occ_machine.specs.Machine.{Body}
use Rattle.occ_machine.specs.declared.instr.Instr.{Instr}
use Rattle.occ_machine.specs.declared.task.Task.{Task}
use Rattle.occ_term.specs.declared.names.Cell.{Cell}
use Rattle.occ_text.specs.Words.{LogicalLine}
use Rattle.occ_report.specs.Calls.{fault_holders, innermost_call, outwards}
use Rattle.occ_report.specs.Components.{components_in}
use Rattle.occ_report.specs.Evaluating.{code_before}
use Rattle.occ_report.specs.Faults.{read_text, reads_in, variables_text}
use Rattle.occ_report.specs.Naming.{told_in}
use Rattle.occ_report.specs.declared.calls.Call.{Call}

-- by the calls, those that may hold the line, those that led there, and what the code has read
pub read_as : (lines : List LogicalLine) (b : Body) (t : Task) (l : ℕ) (cells : List Cell) (calls known : List Call) (hs holders : List ℕ) (call : ℕ) (ns numbers held : List ℕ) (code : List (Instr ℕ)) (rs read fs found : List ℕ)
    → calls ≡ known → hs ≡ fault_holders calls b t.pc l → holders ≡ hs → call ≡ innermost_call calls holders → ns ≡ outwards (length calls) calls call → numbers ≡ ns → held ≡ b.cells
    → code ≡ code_before b t.pc → rs ≡ reads_in code [] → read ≡ rs → fs ≡ components_in t.frame [] code → found ≡ fs
    → variables_text (λ name. told_in lines calls holders numbers l name) held t.frame read found 0 cells ≡ read_text lines known l b cells t
read_as lines b t l cells calls known hs holders call ns numbers held code rs read fs found same met holds inner led there all done reads kept parts found_there =
    let holders' = fault_holders known b t.pc l in
    let numbers' = outwards (length known) known (innermost_call known holders') in
    let holding : holders ≡ holders' = holds ∙ met ∙ ap (λ c. fault_holders c b t.pc l) same in
    let called : call ≡ innermost_call known holders' = inner ∙ ap (λ c. innermost_call c holders) same ∙ ap (innermost_call known) holding in
    let numbered : numbers ≡ numbers' = there ∙ led ∙ ap (λ c. outwards (length c) c call) same ∙ ap (outwards (length known) known) called in
    let reading : read ≡ reads_in (code_before b t.pc) [] = kept ∙ reads ∙ ap (λ c. reads_in c []) done in
    let finding : found ≡ components_in t.frame [] (code_before b t.pc) = found_there ∙ parts ∙ ap (components_in t.frame []) done in
    let told = λ (name : List ℕ). told_in lines known holders' numbers' l name in
    let reading' = reads_in (code_before b t.pc) [] in
    ap (λ c. variables_text (λ name. told_in lines c holders numbers l name) held t.frame read found 0 cells) same
    ∙ ap (λ h. variables_text (λ name. told_in lines known h numbers l name) held t.frame read found 0 cells) holding
    ∙ ap (λ n. variables_text (λ name. told_in lines known holders' n l name) held t.frame read found 0 cells) numbered
    ∙ ap (λ h. variables_text told h t.frame read found 0 cells) all
    ∙ ap (λ r. variables_text told b.cells t.frame r found 0 cells) reading
    ∙ ap (λ p. variables_text told b.cells t.frame reading' p 0 cells) finding
