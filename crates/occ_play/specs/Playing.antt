-- What `play` promises: the answer of an accepted program is shown by a run of its source, with that run's ending.
-- Manual: nothing; this is (own).
use Rattle.std.specs.Prelude.{Bool, List, [], Option, length, take, ℕ, ⊤, ◌*◌, ◌<◌, ◌^◌, ◌≡◌}
use Rattle.std.specs.Io.KnownBytes.{Appends}
use Rattle.occ_text.specs.Words.{LogicalLine}
use Rattle.occ_text.specs.Lines.{LinesOf}
use Rattle.occ_text.specs.declared.fault.TextFault.{TextFault}
use Rattle.occ_text.specs.declared.fault.TextFault.TheVariants as text
use Rattle.occ_tree_grammar.specs.Processes.Trees.{Item}
use Rattle.occ_tree_grammar.specs.Processes.Shown.{show_program}
use Rattle.occ_tree_grammar.specs.Processes.Fits.{InBounds}
use Rattle.occ_tree_grammar.specs.declared.fault.ParseFault.{ParseFault}
use Rattle.occ_tree_grammar.specs.declared.fault.ParseFault.TheVariants as tree
use Rattle.occ_usage.specs.declared.checked.UsageFault.{UsageFault}
use Rattle.occ_usage.specs.declared.checked.UsageFault.TheVariants as usage
use Rattle.occ_term.specs.Sizes.{size_of}
use Rattle.occ_usage.specs.Refusals.{UsageRefuses}
use Rattle.occ_term.specs.UnfoldedProgram.{UnfoldedProgram, declared, meaning, IsWellFormed, Lawful}
use Rattle.occ_term.specs.System.{noted_in}
use Rattle.occ_term.specs.Runs.{shown, EndsBy}
use Rattle.occ_machine.specs.Compiled.{Program, most_instructions}
use Rattle.occ_code.specs.CodeOf.{IsCodeOf, IsQuantum}
use Rattle.occ_check_meaning.specs.ProgramUnfolding.{UnfoldsTo}
use Rattle.occ_check_lines.specs.declared.fault.CheckFault.{CheckFault}
use Rattle.occ_check.specs.CheckRefuses.{CheckRefuses}
use Rattle.occ_code.specs.declared.compiling.CodeFault.{CodeFault}
use Rattle.occ_code.specs.declared.compiling.CodeFault.TheVariants as code
use Rattle.occ_choices.specs.Plans.{choices_of}
use Rattle.occ_choices.specs.declared.plan.Plan.{Plan}
use Rattle.occ_net_replay.specs.declared.choice.Choice.{Choice}
use Rattle.occ_term.specs.declared.ending.Ending.TheVariants as E
use Rattle.occ_term.specs.declared.fault.Errors.TheVariants.{Halt}
use Rattle.occ_play.specs.declared.playing.Options.{Options}
use Rattle.occ_play.specs.declared.playing.Played.{Played}
use Rattle.occ_net_tables.specs.declared.running.Outcome.{Outcome}
use Rattle.occ_shown.specs.declared.counted.Counted.{Counted}
use Rattle.occ_play.specs.declared.fault.PlayFault.{PlayFault}
use Rattle.occ_play.specs.declared.fault.PlayFault.TheVariants as play
use Rattle.occ_shown.specs.Answers.{answer_text, names_of}
use Rattle.occ_shown.specs.Counting.{failures_of, writer_of}
use Rattle.occ_net_replay.specs.Following.{AllFit, AreBytes, or_limit}
use Rattle.occ_net_replay.specs.Moments.{IsOneRun}
use Rattle.occ_net_tables.specs.Outcomes.{Begins, IsOutcome}
use Rattle.occ_net_replay.specs.Replay.{Net, Replays, ending_of}

-- ---- what a text is

-- a tree within the bounds, whose written form the lines are
pub record IsTreeOf (lines : List LogicalLine) (items : List Item) : Type 0 where
  pub shown : show_program items ≡ lines
  pub bounded : InBounds items

-- the program of a text: its logical lines have a tree, and their unfolding is this one, typed, with its processes numbered
pub record Unfolds (source : List ℕ) (u : UnfoldedProgram) : Type 0 where
  pub lines : List LogicalLine
  pub read : LinesOf source lines
  pub items : List Item
  pub parsed : IsTreeOf lines items
  pub unfolds : UnfoldsTo items u
  pub well_formed : IsWellFormed u

-- turns that stop at each end of a loop's body, and faults that end the whole run
abbrev pub plain : Options
plain = record { quantum = 1; errors = Halt }

-- the code of a text's program, for turns of this quantum, which is from 1 to 65,536, and with faults that do this; the program
-- keeps the usage rules
pub record IsTextsCode (options : Options) (source : List ℕ) (p : Program) : Type 0 where
  pub quantum : IsQuantum options.quantum
  pub program : UnfoldedProgram
  pub unfolds : Unfolds source program
  pub lawful : Lawful program
  pub from : IsCodeOf program options.quantum p
  pub errors : p.errors ≡ options.errors

-- what the code of a text's program comes to by a list of choices
pub record Ran (options : Options) (source keyboard : List ℕ) (list : List Choice) (p : Program) (o : Outcome) : Type 0 where
  pub code : IsTextsCode options source p
  pub is : IsOutcome p keyboard list o

-- ---- the answer of an accepted program

-- A beginning of the list was used, and all of it where the run goes on.
pub record IsUsed (list : List Choice) (played : Played) : Type 0 where
  pub begins : Begins played.choices.items list
  pub whole : played.ending ≡ E.Limit → played.choices.items ≡ list

-- The text has code. A beginning of the list was used, and the code has a replay by it. One run of the source's system stands where that
-- replay stands at every moment, with one turn for each choice. The ending is that of the replay, and so of the run, and the bytes are
-- what the run shows.
pub record IsAnswer (options : Options) (source keyboard : List ℕ) (list : List Choice) (trace : Bool) (played : Played) (bytes : List ℕ) : Type 0 where
  pub code : Program
  pub of_text : IsTextsCode options source code
  pub used : IsUsed list played
  pub net : Net
  pub replays : Replays code keyboard played.choices.items net
  pub run : IsOneRun of_text.program code options.quantum keyboard played.choices.items net
  pub ending : played.ending ≡ or_limit (ending_of code.errors net)
  pub shows : bytes ≡ answer_text (shown (names_of of_text.program.channels) run.follows.events) played.ending trace

-- What follows of an answer: its run has its ending, and where it ends it has noted no fault; on each channel the messages output and
-- those input are, in order, those that the run shows, each of the channel's protocol.
pub record RunHas {options : Options} {source keyboard : List ℕ} {list : List Choice} {trace : Bool} {played : Played} {bytes : List ℕ} (a : IsAnswer options source keyboard list trace played bytes) : Type 0 where
  pub ends : EndsBy options.errors a.run.follows.system played.ending
  pub clean : played.ending ≡ E.Ended → noted_in a.run.follows.system ≡ []
  pub output : (c : ℕ) → a.net.output c ≡ (shown (names_of a.of_text.program.channels) a.run.follows.events).messages c
  pub input : (c : ℕ) → a.net.input c ≡ (shown (names_of a.of_text.program.channels) a.run.follows.events).messages c
  pub fits : (c : ℕ) → AllFit ((declared a.of_text.program).protocols c) ((shown (names_of a.of_text.program.channels) a.run.follows.events).messages c)

abbrev pub AnswersAreOfRuns : Type 0
AnswersAreOfRuns =
    (options : Options) (source keyboard : List ℕ) (list : List Choice) (trace : Bool) (played : Played) (bytes : List ℕ)
    → AreBytes keyboard → length played.choices.items < 2 ^ 64 → (a : IsAnswer options source keyboard list trace played bytes) → RunHas a

abbrev pub IsSomeAnswer : Options → (source keyboard : List ℕ) → List Choice → Bool → List ℕ → Type 0
IsSomeAnswer options source keyboard list trace bytes = (played : Played) × IsAnswer options source keyboard list trace played bytes

-- by the choices of a plan
abbrev pub IsAnswerBy : Options → (source keyboard : List ℕ) → Plan → Bool → Played → List ℕ → Type 0
IsAnswerBy options source keyboard plan trace played bytes = IsAnswer options source keyboard (choices_of plan) trace played bytes

-- ---- refusals

-- a text is refused only where the definitions refuse it; want of memory says nothing
abbrev pub TextRefuses : TextFault → List ℕ → Type 0
TextRefuses text.Memory source = ⊤
TextRefuses fault source = (lines : List LogicalLine) → LinesOf source lines → ⊥

abbrev pub ParseRefuses : ParseFault → List ℕ → Type 0
ParseRefuses tree.Memory source = ⊤
ParseRefuses fault source = (lines : List LogicalLine) (items : List Item) → LinesOf source lines → IsTreeOf lines items → ⊥

abbrev pub CheckRefusesText : CheckFault → List ℕ → Type 0
CheckRefusesText fault source = (lines : List LogicalLine) (items : List Item) → LinesOf source lines → IsTreeOf lines items → CheckRefuses fault items

abbrev pub UsageRefusesText : UsageFault → List ℕ → Type 0
UsageRefusesText usage.Memory source = ⊤
UsageRefusesText fault source = (u : UnfoldedProgram) × Unfolds source u × UsageRefuses fault u

-- the text has a program that keeps the usage rules
pub record IsLawfulText (source : List ℕ) : Type 0 where
  pub program : UnfoldedProgram
  pub unfolds : Unfolds source program
  pub lawful : Lawful program

-- What is wrong with the text comes first, and then a quantum that is not from 1 to 65,536; of a text that could be compiled, 32 instructions for
-- each node are more than a program may have, or a growth was refused.
abbrev pub CodeRefusesText : ℕ → CodeFault → List ℕ → Type 0
CodeRefusesText quantum code.Memory source = IsLawfulText source × IsQuantum quantum
CodeRefusesText quantum code.BadQuantum source = IsLawfulText source × (IsQuantum quantum → ⊥)
CodeRefusesText quantum code.TooLarge source =
    IsQuantum quantum × ((u : UnfoldedProgram) × Unfolds source u × Lawful u × (most_instructions < 32 * (size_of (meaning u)).nodes))

-- before there is code
abbrev pub RefusesText : List ℕ → PlayFault → Type 0
RefusesText source (play.Text fault) = TextRefuses fault source
RefusesText source (play.Parse fault) = ParseRefuses fault source
RefusesText source (play.Check fault) = CheckRefusesText fault source
RefusesText source (play.Usage fault) = UsageRefusesText fault source
RefusesText source (play.Code fault) = ⊥
RefusesText source (play.Write written) = ⊥
RefusesText source (play.Run fault) = ⊥
RefusesText source (play.Memory e) = ⊥

-- the text has code
abbrev pub HasCode : Options → List ℕ → Type 0
HasCode options source = (p : Program) × IsTextsCode options source p

-- there is no code of it for turns of these options
abbrev pub RefusesCode : Options → List ℕ → PlayFault → Type 0
RefusesCode options source (play.Code fault) = CodeRefusesText options.quantum fault source
RefusesCode options source fault = RefusesText source fault

-- For turns of these options. The want of memory of each layer is its own; another one comes only where the text has code.
abbrev pub Refuses : Options → List ℕ → PlayFault → Type 0
Refuses options source (play.Memory e) = HasCode options source
Refuses options source fault = RefusesCode options source fault

-- A failed write was met, and a beginning of an answer of length `written` was written and nothing else; any other fault refuses
-- what was asked for, and leaves the writer as it was.
abbrev pub AfterFault : {W : Type 0} → (W → Option (List ℕ)) → (List ℕ → Type 0) → (PlayFault → Type 0) → Counted W → Counted W → PlayFault → Type 0
AfterFault contents Answers Refusal old new (play.Write written) =
    (failures_of old < failures_of new)
    × ((bytes : List ℕ) × Answers bytes × (written < length bytes) × Appends (contents (writer_of old)) (contents (writer_of new)) (take written bytes))
AfterFault contents Answers Refusal old new fault = Refusal fault × (new ≡ old)

-- the answer was written, and nothing else
abbrev pub Wrote : {W : Type 0} → (W → Option (List ℕ)) → (List ℕ → Type 0) → Counted W → Counted W → Type 0
Wrote contents Answers old new = (bytes : List ℕ) × Answers bytes × Appends (contents (writer_of old)) (contents (writer_of new)) bytes

-- the answer by a plan was
abbrev pub Plays : {W : Type 0} → (W → Option (List ℕ)) → Options → (source keyboard : List ℕ) → Plan → Bool → (old new : Counted W) → Played → Type 0
Plays contents options source keyboard plan trace old new played = Wrote contents (IsAnswerBy options source keyboard plan trace played) old new

-- a fault of such a play: a failed write of its answer, or a refusal
abbrev pub Fails : {W : Type 0} → (W → Option (List ℕ)) → Options → (source keyboard : List ℕ) → Plan → Bool → (old new : Counted W) → PlayFault → Type 0
Fails contents options source keyboard plan trace old new fault =
    AfterFault contents (IsSomeAnswer options source keyboard (choices_of plan) trace) (Refuses options source) old new fault
