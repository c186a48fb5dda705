-- What is told behind the line of a refusal, and behind the ending of a run.
-- Manual: nothing; this is (own).
use Rattle.std.specs.Prelude.{List, None, Option, Some, Vec, [], length, min, option_map, ℕ, ◌≡◌, ◌≤◌}
use Rattle.std.specs.Borrow.{Bor}
use Rattle.std.specs.Str.Lines.{lines}
use Rattle.occ_machine.specs.Compiled.{Program}
use Rattle.occ_net_replay.specs.declared.choice.Choice.{Choice}
use Rattle.occ_play.specs.declared.fault.PlayFault.{PlayFault}
use Rattle.occ_play.specs.declared.fault.PlayFault.TheVariants as plays
use Rattle.occ_play.specs.declared.playing.Options.{Options}
use Rattle.occ_play.specs.Playing.{IsTextsCode, Unfolds}
use Rattle.occ_term.specs.UnfoldedProgram.{UnfoldedProgram, meaning}
use Rattle.occ_text.specs.Lines.{LinesOf}
use Rattle.occ_text.specs.Words.{LogicalLine}
use Rattle.occ_text.specs.declared.fault.TextFault.TheVariants as texts
use Rattle.occ_tree_grammar.specs.declared.fault.ParseFault.TheVariants as parses
use Rattle.occ_check_lines.specs.declared.fault.CheckFault.TheVariants as checks
use Rattle.occ_usage.specs.declared.checked.UsageFault.TheVariants as usages
use Rattle.occ_code.specs.declared.compiling.CodeFault.TheVariants as codings
use Rattle.occ_explain.specs.declared.refusal.Refusal.{Refusal}
use Rattle.occ_explain.specs.Causes.{TellsCause}
use Rattle.occ_explaining.specs.Files.{SourceFiles, place_told}
use Rattle.occ_explain.specs.Places.{IsNear, IsPlace, line_numbered}
use Rattle.occ_explain.specs.Explanations.{explained_text}
use Rattle.occ_chart.specs.declared.part.Part.{Part}
use Rattle.occ_explaining.specs.Charting.{IsRunChart}
use Rattle.occ_explaining.specs.ColumnNames.{column_names, left_out_of}
use Rattle.occ_report.specs.Places.{Fits, Known}
use Rattle.occ_report.specs.Steps.{IsSteps}
use Rattle.occ_report.specs.Reports.{IsCircleOf, IsReport}

-- the number and the line of a refusal of the text; 0 where it has no line
abbrev pub NumberAndLine : Type 0
NumberAndLine = ℕ × ℕ

abbrev pub number_and_line : ℕ → ℕ → NumberAndLine
number_and_line n line = (n, line)

abbrev pub numbered_of : Refusal → NumberAndLine
numbered_of r = number_and_line r.number r.line

abbrev pub refusal_in : PlayFault → Option NumberAndLine
refusal_in (plays.Text texts.TooLong) = Some (1, 0)
refusal_in (plays.Text (texts.BadByte n)) = Some (2, n)
refusal_in (plays.Text (texts.OddIndent n)) = Some (3, n)
refusal_in (plays.Text (texts.BadLiteral n)) = Some (4, n)
refusal_in (plays.Text (texts.BadEscape n)) = Some (5, n)
refusal_in (plays.Text (texts.OpenString n)) = Some (6, n)
refusal_in (plays.Text (texts.BadBreak n)) = Some (7, n)
refusal_in (plays.Text texts.Memory) = None
refusal_in (plays.Parse (parses.Unexpected n stop)) = Some (20, n)
refusal_in (plays.Parse (parses.Level n level)) = Some (21, n)
refusal_in (plays.Parse (parses.Missing n level)) = Some (22, n)
refusal_in (plays.Parse (parses.TooDeep n stop)) = Some (23, n)
refusal_in (plays.Parse parses.Memory) = None
refusal_in (plays.Check (checks.Unknown n name)) = Some (30, n)
refusal_in (plays.Check (checks.Twice n name)) = Some (31, n)
refusal_in (plays.Check (checks.WrongKind n)) = Some (32, n)
refusal_in (plays.Check (checks.WrongType n)) = Some (33, n)
refusal_in (plays.Check (checks.NotConstant n)) = Some (34, n)
refusal_in (plays.Check (checks.BadCount n)) = Some (35, n)
refusal_in (plays.Check (checks.Subscript n)) = Some (36, n)
refusal_in (plays.Check (checks.Protocol n)) = Some (37, n)
refusal_in (plays.Check (checks.Tag n)) = Some (38, n)
refusal_in (plays.Check (checks.Arguments n)) = Some (39, n)
refusal_in (plays.Check (checks.Overlap n)) = Some (40, n)
refusal_in (plays.Check (checks.ListTarget n)) = Some (41, n)
refusal_in (plays.Check checks.NoMain) = Some (42, 0)
refusal_in (plays.Check checks.TooLarge) = Some (43, 0)
refusal_in (plays.Check checks.Memory) = None
refusal_in (plays.Usage (usages.SharedVariable n name)) = Some (50, n)
refusal_in (plays.Usage (usages.TwoInputs n name)) = Some (51, n)
refusal_in (plays.Usage (usages.TwoOutputs n name)) = Some (52, n)
refusal_in (plays.Usage usages.Memory) = None
refusal_in (plays.Code codings.TooLarge) = Some (60, 0)
refusal_in (plays.Code codings.BadQuantum) = None
refusal_in (plays.Code codings.Memory) = None
refusal_in (plays.Write n) = None
refusal_in (plays.Run f) = None
refusal_in (plays.Memory e) = None

-- What is told of a refusal of this number, written in some way: a place of the text, not above the line that the refusal names, with
-- no logical line begun between; and some words, which are the cause where nothing is told closer.
pub record IsToldAs (written : (line column : ℕ) → (wrong hint : List ℕ) → List ℕ) (source : List ℕ) (number named : ℕ) (bytes : List ℕ) : Type 0 where
  pub line : ℕ
  pub column : ℕ
  pub wrong : List ℕ
  pub hint : List ℕ
  pub within : IsPlace source line column
  pub reached : named ≤ length (lines source) → named ≤ line
  pub near : 1 ≤ named → IsNear source named line
  pub cause : TellsCause number wrong
  pub some : 1 ≤ length wrong
  pub is : bytes ≡ written line column wrong hint

-- as an explanation, with the line that stands there, under the name of its file and the number that it has in it
abbrev pub IsExplained : (source : List ℕ) (files : SourceFiles) (number named : ℕ) (bytes : List ℕ) → Type 0
IsExplained source files number named bytes =
    IsToldAs (λ line column wrong hint. explained_text (place_told files line).0 (place_told files line).1 column (line_numbered source line) wrong hint) source number named bytes

-- What is told of a fault: an explanation of each refusal of a text, and nothing of all else.
abbrev pub TellsRefusal : (source : List ℕ) → SourceFiles → Option NumberAndLine → Option (List ℕ) → Type 0
TellsRefusal source files None told = told ≡ None
TellsRefusal source files (Some refusal) None = Some refusal ≡ None
TellsRefusal source files (Some refusal) (Some bytes) = IsExplained source files refusal.0 refusal.1 bytes

abbrev pub TellsFault : {A : Type 0} → (source : List ℕ) → SourceFiles → PlayFault → Option (Vec ℕ A) → Type 0
TellsFault source files fault told = TellsRefusal source files (refusal_in fault) (option_map (λ v. v.items) told)

-- What is known of a source: its code for turns of these options, a table that fits the code and the logical lines of the source, and the
-- program that it unfolds to.
pub record IsKnown (options : Options) (source : List ℕ) (program : Program) (known : List Known) (unfolded : UnfoldedProgram) : Type 0 where
  pub code : IsTextsCode options source program
  pub read : List LogicalLine
  pub reads : LinesOf source read
  pub fits : Fits program read known
  pub unfolds : Unfolds source unfolded

-- The report of the run of a source by these choices. What it tells of places is told by the table and the source, who is at the ends of
-- channels by what the program of the source uses, and which variables were read by its cells.
pub record ReportsOn (options : Options) (source keyboard : List ℕ) (list : List Choice) (bytes : List ℕ) : Type 0 where
  pub program : Program
  pub known : List Known
  pub unfolded : UnfoldedProgram
  pub are : IsKnown options source program known unfolded
  pub report : IsReport (meaning unfolded) program keyboard list known source unfolded.cells bytes

-- The chart of the run of a source by these choices, whose columns have the names of the table, but for what these words leave out, and at
-- whose foot stand processes that wait in a circle, where there are some.
pub record IsNamedChart (options : Options) (source keyboard : List ℕ) (list : List Choice) (part : Part) (only without : List (Bor (List ℕ))) (bytes : List ℕ) : Type 0 where
  pub program : Program
  pub known : List Known
  pub unfolded : UnfoldedProgram
  pub are : IsKnown options source program known unfolded
  pub circle : List ℕ
  pub waits : IsCircleOf (meaning unfolded) program keyboard list circle
  pub names : List (List ℕ)
  pub called : names ≡ column_names known (min (length program.bodies) 4294967295)
  pub chart : IsRunChart options source keyboard list (left_out_of only without names) part names circle bytes

-- The turns of the run of a source by these choices, with the lines of the table at which processes stand.
pub record StepsOf (options : Options) (source keyboard : List ℕ) (list : List Choice) (bytes : List ℕ) : Type 0 where
  pub program : Program
  pub known : List Known
  pub unfolded : UnfoldedProgram
  pub are : IsKnown options source program known unfolded
  pub steps : IsSteps known program keyboard list bytes
