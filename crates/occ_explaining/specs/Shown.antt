-- Pages that show runs.
-- Manual: nothing; this is (own).
use Rattle.std.specs.Prelude.{List, Vec, [], length, min, suc, zero, ℕ, ◌++◌, ◌∷◌, ◌≡◌}
use Rattle.occ_shown.specs.Pages.{page_text}
use Rattle.occ_shown.specs.declared.pages.RunTexts.{RunTexts}
use Rattle.occ_machine.specs.Compiled.{Program}
use Rattle.occ_net_replay.specs.declared.choice.Choice.{Choice}
use Rattle.occ_report.specs.Places.{Known, name_of}
use Rattle.occ_play.specs.declared.playing.Options.{Options}
use Rattle.occ_term.specs.UnfoldedProgram.{UnfoldedProgram}
use Rattle.occ_explaining.specs.Traced.{IsTraced}
use Rattle.occ_explaining.specs.declared.tracing.Form.TheVariants.{Json}
use Rattle.occ_explaining.specs.Explaining.{IsKnown, ReportsOn, StepsOf}

-- the names of the first so many processes, each on a line, which is empty where a name isn't known
abbrev pub name_lines : List Known → ℕ → List ℕ
name_lines known zero = []
name_lines known (suc n) = name_lines known n ++ name_of known n ++ 10 ∷ []

-- The names of all processes of a source, by the table.
pub record NamesOf (options : Options) (source bytes : List ℕ) : Type 0 where
  pub program : Program
  pub known : List Known
  pub unfolded : UnfoldedProgram
  pub are : IsKnown options source program known unfolded
  pub is : bytes ≡ name_lines known (min (length program.bodies) 4294967295)

-- What a page has of the run of a source by these choices: a line that is told of it, its trace as lines of JSON, the lines of its turns,
-- and the report on its end.
pub record IsShownRun (options : Options) (source keyboard head : List ℕ) (list : List Choice) (r : RunTexts) : Type 0 where
  pub told : r.head.items ≡ head
  pub traced : IsTraced options source keyboard list Json r.trace.items
  pub stepped : StepsOf options source keyboard list r.turns.items
  pub reported : ReportsOn options source keyboard list r.report.items

-- The page that shows these runs of a source: between the beginning and the end that each page has stand the source, the names of its
-- processes, and the texts of the runs.
pub record PageOf (options : Options) (source : List ℕ) (runs : List RunTexts) (bytes : List ℕ) : Type 0 where
  pub names : List ℕ
  pub named : NamesOf options source names
  pub is : bytes ≡ page_text source names runs

-- ---- private contracts alone cite what follows

abbrev pub HasNames : {A : Type 0} → List Known → ℕ → Vec ℕ A → Type 0
HasNames known n bytes = bytes.items ≡ name_lines known n
