-- Which file or stream failed, and why, as it is told.
-- Manual: nothing; this is (own).
use Rattle.std.specs.Prelude.{List, None, Option, Some, [], codes, suc, zero, ℕ, ◌++◌, ◌∷◌}
use Rattle.std.specs.Borrow.{Bor}
use Rattle.std.specs.Fmt.{decimal}
use Rattle.occ_files.specs.Names.{printed_name}
use Rattle.occ_files.specs.Reasons.{reason_text}
use Rattle.occ_files.specs.declared.reason.Reason.{Reason}
use Rattle.occ_files.specs.declared.reason.Reason.TheVariants.{Missing}
use Rattle.occ_play_inputs.specs.declared.failure.Failure.{Failure}
use Rattle.occ_choices.specs.declared.fault.ChoiceFault.{ChoiceFault}
use Rattle.occ_choices.specs.declared.fault.ChoiceFault.TheVariants.{BadChoice, TooMany, Memory as OutOfMemory}
use Rattle.occ_play_inputs.specs.declared.failure.Failure.TheVariants.{Read, Write, Choices as WrongChoices}
use Rattle.occ_play_inputs.specs.declared.failure.Stream.{Stream}
use Rattle.occ_play_inputs.specs.declared.failure.Stream.TheVariants.{Source, More, Specification, Keyboard, Choices, Output, Record, Answer, Chart, Trace, Turns, Page, Graph, Typed}
use Rattle.occ_play_inputs.specs.declared.failure.Trouble.{Trouble}
use Rattle.occ_play_inputs.specs.declared.words.Words.{Words}
use Rattle.occ_program.specs.Pages.{answer_path}

-- the path that a word gives, and this where it gives none
abbrev pub path_or : List ℕ → Option (Bor (List ℕ)) → List ℕ
path_or other None = other
path_or other (Some path) = path.now

-- the path in a place, from 0
abbrev pub path_at : List (Bor (List ℕ)) → ℕ → List ℕ
path_at [] n = []
path_at (path ∷ paths) zero = path.now
path_at (path ∷ paths) (suc n) = path_at paths n

-- a file by the path that the words give, and a stream by its name
abbrev pub stream_name : Words → Stream → List ℕ
stream_name words Source = path_or (codes "standard input") words.file
stream_name words (More n) = path_at words.more.items n
stream_name words Specification = path_or [] words.within
stream_name words Keyboard = codes "standard input"
stream_name words Choices = path_or [] words.choices
stream_name words Output = codes "standard output"
stream_name words Record = path_or [] words.record
stream_name words (Answer number) = answer_path (path_or [] words.record) number
stream_name words Chart = path_or [] words.chart
stream_name words Trace = path_or [] words.trace_to
stream_name words Turns = path_or [] words.steps
stream_name words Page = path_or [] words.page
stream_name words Graph = path_or [] words.graph
stream_name words Typed = path_or [] words.typed

-- a source that is missing may be a word that was to be another one
abbrev pub advice_on : Stream → Reason → List ℕ
advice_on Source Missing = codes "  `occam FILE` runs the program in FILE, `occam --help` lists the options\n"
advice_on stream reason = []

abbrev pub advice : Trouble → List ℕ
advice t = advice_on t.stream t.reason

-- its name, the reason, and what may help
abbrev pub trouble_text : Words → Trouble → List ℕ
trouble_text words t = printed_name (stream_name words t.stream) ++ codes ": " ++ reason_text t.reason ++ 10 ∷ [] ++ advice t

-- what is wrong with a file of choices
abbrev pub wrong_choices : ChoiceFault → List ℕ
wrong_choices (BadChoice line) = codes ":" ++ decimal line ++ codes ": a line has two numbers with one space between, as `0 3`\n"
wrong_choices TooMany = codes ": it has more than 10,000,000 lines\n"
wrong_choices OutOfMemory = codes ": memory ran out\n"

-- its name, and that
abbrev pub choices_trouble : Words → ChoiceFault → List ℕ
choices_trouble words fault = printed_name (path_or [] words.choices) ++ wrong_choices fault

-- what is told where something could not be read or written, or holds no choices
abbrev pub trouble_told : Words → Failure → Option (List ℕ)
trouble_told words (Read t) = Some (trouble_text words t)
trouble_told words (Write t) = Some (trouble_text words t)
trouble_told words (WrongChoices fault) = Some (choices_trouble words fault)
trouble_told words failure = None
