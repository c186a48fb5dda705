-- Which files a run leaves.
-- Manual: nothing; this is (own).
use Rattle.std.specs.Prelude.{Bool, List, Some, None, Ok, Err, Option, Result, Vec, [], codes, false, if◌then◌else◌, length, nat_lt, suc, take, true, ℕ, ◌++◌, ◌-◌, ◌∷◌, ◌≡◌, ⊤}
use Rattle.std.specs.Fmt.{decimal}
use Rattle.std.specs.Borrow.{Bor}
use Rattle.std.specs.Option.{option_to_list}
use Rattle.occ_choices.specs.Lines.{choice_text}
use Rattle.occ_play.specs.declared.playing.Played.{Played}
use Rattle.occ_play.specs.declared.fault.PlayFault.{PlayFault}
use Rattle.occ_chart.specs.declared.part.Part.{Part}
use Rattle.occ_chart.specs.declared.part.Part.TheVariants.{First, Last}
use Rattle.occ_explaining.specs.Explaining.{IsNamedChart, StepsOf}
use Rattle.occ_explaining.specs.Shown.{IsShownRun, PageOf}
use Rattle.occ_explaining.specs.Studied.{IsStudied}
use Rattle.occ_explaining.specs.declared.studied.Studied.{Studied}
use Rattle.occ_shown.specs.declared.pages.RunTexts.{RunTexts}
use Rattle.occ_net_replay.specs.declared.choice.Choice.{Choice}
use Rattle.occ_machine.specs.Compiled.{Program}
use Rattle.occ_play.specs.Playing.{IsTextsCode}
use Rattle.occ_play.specs.declared.playing.Options.{Options}
use Rattle.occ_play_inputs.specs.GraphNames.{named_form}
use Rattle.occ_explore.specs.declared.exploration.Answer.{Answer}
use Rattle.occ_explore.specs.declared.exploration.Asked.{Asked}
use Rattle.occ_explore.specs.declared.exploration.Exploration.{Exploration}
use Rattle.occ_explore.specs.declared.exploration.Graph.{Graph}
use Rattle.occ_explore.specs.declared.exploration.Waiting.{Waiting}
use Rattle.occ_exploring.specs.GraphTexts.{graph_text}
use Rattle.occ_exploring.specs.Texts.{answer_line, left_text}
use Rattle.occ_exploring.specs.Within.{outside_of}
use Rattle.occ_exploring.specs.declared.within.Kept.{Kept}
use Rattle.occ_files.specs.Leaving.{LeavesOne, LeavesAll, LeavesNothing, LeavesText, Written}
use Rattle.occ_play_inputs.specs.declared.failure.Failure.{Failure}
use Rattle.occ_play_inputs.specs.declared.inputs.Inputs.{Inputs}
use Rattle.occ_play_inputs.specs.declared.words.Words.{Words}
use Rattle.occ_program.specs.Coming.{options_in}
use Rattle.occ_program.specs.declared.page.Page.{Page}
use Rattle.occ_explaining.specs.declared.tracing.Form.{Form}
use Rattle.occ_explaining.specs.declared.tracing.Form.TheVariants.{Lines, Json}
use Rattle.occ_explaining.specs.Traced.{IsTraced}

-- none where no word names one or no run answered; else this text, and nothing else, at the path that the word names
abbrev pub HasText : (List ℕ → Type 0) → Bor (List ℕ) → Option Page → Type 0
HasText Is path None = ⊥
HasText Is path (Some page) = (page.path.now ≡ path.now) × Is page.text.items

-- such a text at this path, if there is one
abbrev pub HasTextAt : (List ℕ → Type 0) → Option (Bor (List ℕ)) → Option Page → Type 0
HasTextAt Is None page = page ≡ None
HasTextAt Is (Some path) page = HasText Is path page

-- such a text of the run
abbrev pub HasPage : (Played → List ℕ → Type 0) → Option (Bor (List ℕ)) → Result Played PlayFault → Option Page → Type 0
HasPage Is None played page = page ≡ None
HasPage Is (Some path) (Err fault) page = page ≡ None
HasPage Is (Some path) (Ok played) page = HasText (Is played) path page

-- the choices that the run used, all of them
abbrev pub Records : Option (Bor (List ℕ)) → Result Played PlayFault → Option Page → Type 0
Records path played page = HasPage (λ p text. text ≡ choice_text p.choices.items) path played page

-- the keyboard's bytes of the run
abbrev pub TypedPage : Words → Inputs → Result Played PlayFault → Option Page → Type 0
TypedPage words inputs played page = HasPage (λ p text. text ≡ inputs.keyboard.items) words.typed played page

-- ---- what is told of a run by the choices that it used

-- which communications are drawn, as the words say
abbrev pub part_in : ℕ → Option ℕ → Part
part_in most None = First most
part_in most (Some n) = Last n

-- how a trace is written, as the words say
abbrev pub form_in : Bool → Form
form_in true = Json
form_in false = Lines

-- a page that shows the run by these choices, and no other one
abbrev pub ShowsRun : Options → (source keyboard : List ℕ) → List Choice → List ℕ → Type 0
ShowsRun options source keyboard list text = (r : RunTexts) × IsShownRun options source keyboard [] list r × PageOf options source (r ∷ []) text

-- a chart of the run
abbrev pub ChartsRun : Words → Inputs → Played → List ℕ → Type 0
ChartsRun words inputs p text =
    IsNamedChart (options_in words) inputs.source.items inputs.keyboard.items p.choices.items (part_in words.arrows words.last) words.only.items words.without.items text

-- its trace
abbrev pub TracesRun : Words → Inputs → Played → List ℕ → Type 0
TracesRun words inputs p text = IsTraced (options_in words) inputs.source.items inputs.keyboard.items p.choices.items (form_in words.json) text

-- its turns
abbrev pub StepsRun : Words → Inputs → Played → List ℕ → Type 0
StepsRun words inputs p text = StepsOf (options_in words) inputs.source.items inputs.keyboard.items p.choices.items text

-- a page that shows it
abbrev pub PagesRun : Words → Inputs → Played → List ℕ → Type 0
PagesRun words inputs p text = ShowsRun (options_in words) inputs.source.items inputs.keyboard.items p.choices.items text

-- ---- what is then in the folder

-- the file, whole and once, where there is one to write
abbrev pub LeavesPage : Option (List Written) → Option (List Written) → Option Page → Type 0
LeavesPage old new None = LeavesNothing old new
LeavesPage old new (Some page) = LeavesOne old new page.path.now page.text.items

-- what is to be written was, and nothing else
pub record WritesPage (Is : Option Page → Type 0) (old new : Option (List Written)) : Type 0 where
  pub page : Option Page
  pub is : Is page
  pub left : LeavesPage old new page

-- where that failed, nothing was
abbrev pub IsLeft : {F : Type 0} → (F → Option (List Written)) → (old new : F) → (Option Page → Type 0) → Result ⊤ Failure → Type 0
IsLeft left old new Is (Ok done) = WritesPage Is (left old) (left new)
IsLeft left old new Is (Err failure) = LeavesNothing (left old) (left new)

-- such a text was written at this path, if there is one, and nothing else
abbrev pub LeavesTextAt : (List ℕ → Type 0) → Option (Bor (List ℕ)) → (old new : Option (List Written)) → Type 0
LeavesTextAt Is None old new = LeavesNothing old new
LeavesTextAt Is (Some path) old new = LeavesText Is old new path.now

-- where that failed, nothing was
abbrev pub IsToldAt : {F : Type 0} → (F → Option (List Written)) → (old new : F) → (List ℕ → Type 0) → Option (Bor (List ℕ)) → Result ⊤ Failure → Type 0
IsToldAt left old new Is path (Ok done) = LeavesTextAt Is path (left old) (left new)
IsToldAt left old new Is path (Err failure) = LeavesNothing (left old) (left new)

-- of what is told of the run, at the path that the words name for it
abbrev pub ChartIsLeft : {F : Type 0} → (F → Option (List Written)) → (old new : F) → Words → Inputs → Played → Result ⊤ Failure → Type 0
ChartIsLeft left old new words inputs p result = IsToldAt left old new (ChartsRun words inputs p) words.chart result

abbrev pub TraceIsLeft : {F : Type 0} → (F → Option (List Written)) → (old new : F) → Words → Inputs → Played → Result ⊤ Failure → Type 0
TraceIsLeft left old new words inputs p result = IsToldAt left old new (TracesRun words inputs p) words.trace_to result

abbrev pub TurnsAreLeft : {F : Type 0} → (F → Option (List Written)) → (old new : F) → Words → Inputs → Played → Result ⊤ Failure → Type 0
TurnsAreLeft left old new words inputs p result = IsToldAt left old new (StepsRun words inputs p) words.steps result

abbrev pub PageIsLeft : {F : Type 0} → (F → Option (List Written)) → (old new : F) → Words → Inputs → Played → Result ⊤ Failure → Type 0
PageIsLeft left old new words inputs p result = IsToldAt left old new (PagesRun words inputs p) words.page result

-- ---- the files of a search

-- what is printed behind the first 100 answers, where there are more
abbrev pub more_text : List Answer → List ℕ
more_text answers = if nat_lt 100 (length answers) then left_text (length answers - 100) else []

-- of each answer, from this number on: the line that is printed of it, with this text, and its run
abbrev pub AreRunsOf : Words → Inputs → Asked → (more : List ℕ) → ℕ → List Answer → List RunTexts → Type 0
AreRunsOf words inputs asked more number [] rs = rs ≡ []
AreRunsOf words inputs asked more number (a ∷ others) [] = ⊥
AreRunsOf words inputs asked more number (a ∷ others) (r ∷ rs) =
    IsShownRun (options_in words) inputs.source.items inputs.keyboard.items (answer_line asked number a ++ more) a.choices.items r
    × AreRunsOf words inputs asked more (suc number) others rs

-- a page that shows the runs of the first 100 of these answers, and says how many more there are
abbrev pub ShowsAnswers : Words → Inputs → Asked → List Answer → List ℕ → Type 0
ShowsAnswers words inputs asked answers text =
    (rs : List RunTexts) × AreRunsOf words inputs asked (more_text answers) 1 (take 100 answers) rs × PageOf (options_in words) inputs.source.items rs text

-- at the path that the words name, if they do
abbrev pub AnswersPage : Words → Inputs → Asked → List Answer → Option Page → Type 0
AnswersPage words inputs asked answers page = HasTextAt (ShowsAnswers words inputs asked answers) words.page page

-- the path of the choices of the answer with this number
abbrev pub answer_path : List ℕ → ℕ → List ℕ
answer_path stem number = stem ++ codes "." ++ decimal number ++ codes ".choices"

-- the file of the choices of that answer
abbrev pub answer_file : List ℕ → ℕ → List Choice → Written
answer_file stem number choices = (answer_path stem number, choice_text choices)

-- of each answer its choices, all of them
abbrev pub answer_files : List ℕ → ℕ → List Answer → List Written
answer_files stem number [] = []
answer_files stem number (a ∷ others) = answer_file stem number a.choices.items ∷ answer_files stem (suc number) others

-- those of the answers that have a line, where the words name a file
abbrev pub search_files : Option (Bor (List ℕ)) → List Answer → List Written
search_files None answers = []
search_files (Some stem) answers = answer_files stem.now 1 (take 100 answers)

-- where that failed, the first of them, each whole
abbrev pub AreRecorded : Option (Bor (List ℕ)) → List Answer → Option (List Written) → Option (List Written) → Result ⊤ Failure → Type 0
AreRecorded stem answers old new (Ok done) = LeavesAll old new (search_files stem answers)
AreRecorded stem answers old new (Err failure) = (n : ℕ) × LeavesAll old new (take n (search_files stem answers))

-- the choices by which some come to wait for good, where there are some
abbrev pub waiting_file : List ℕ → Option Waiting → List Written
waiting_file stem None = []
waiting_file stem (Some w) = answer_file stem 0 w.choices.items ∷ []

abbrev pub waiting_files : Option (Bor (List ℕ)) → Option Waiting → List Written
waiting_files None waiting = []
waiting_files (Some stem) waiting = waiting_file stem.now waiting

-- that of the answer that is told to be none of the specification's
abbrev pub RecordsOutside : Words → Kept → Option (List Written) → Option (List Written) → Result ⊤ Failure → Type 0
RecordsOutside words kept old new result = AreRecorded words.record (option_to_list (outside_of kept)) old new result

-- the text of a graph of so many states, with the names of the channels of the source's code
pub record IsGraphText (words : Words) (inputs : Inputs) (path : List ℕ) (states : ℕ) (g : Graph) (text : List ℕ) : Type 0 where
  pub code : Program
  pub is : IsTextsCode (options_in words) inputs.source.items code
  pub written : text ≡ graph_text (named_form path) code.channels states g

-- at the path that the words name, where there is a graph
abbrev pub DrawnAt : Words → Inputs → Option (Bor (List ℕ)) → (states : ℕ) → Option Graph → Option Page → Type 0
DrawnAt words inputs None states graph page = page ≡ None
DrawnAt words inputs (Some path) states None page = page ≡ None
DrawnAt words inputs (Some path) states (Some g) page = HasText (IsGraphText words inputs path.now states g) path page

abbrev pub GraphPage : Words → Inputs → Exploration → Option Page → Type 0
GraphPage words inputs e page = DrawnAt words inputs words.graph e.states e.graph page

-- ---- private contracts alone cite what follows

-- of whatever source it is that was read
abbrev pub ShowsBy : {A : Type 0} → Studied → (source keyboard : List ℕ) → List Choice → Vec ℕ A → Type 0
ShowsBy s source keyboard list text = (options : Options) → IsStudied options source s → ShowsRun options source keyboard list text.items
