-- What is told of a run by what is known of its source.
-- Manual: nothing; this is (own).
use Rattle.std.specs.Borrow.{Bor}
use Rattle.std.specs.Prelude.{List, OnOk, Option, Result, Vec, length, map, min, ℕ, ◌≡◌}
use Rattle.occ_chart.specs.declared.part.Part.{Part}
use Rattle.occ_ends.specs.Ends.{all_using, noted_for}
use Rattle.occ_files.specs.Leaving.{LeavesText, Written}
use Rattle.occ_shown.specs.declared.pages.RunTexts.{RunTexts}
use Rattle.occ_net_replay.specs.declared.choice.Choice.{Choice}
use Rattle.occ_play.specs.declared.playing.Options.{Options}
use Rattle.occ_term.specs.UnfoldedProgram.{UnfoldedProgram, meaning}
use Rattle.occ_explaining.specs.Explaining.{IsKnown, IsNamedChart, ReportsOn, StepsOf}
use Rattle.occ_explaining.specs.ColumnNames.{column_names, nameless}
use Rattle.occ_explaining.specs.Shown.{IsShownRun, NamesOf, PageOf}
use Rattle.occ_explaining.specs.Traced.{IsTraced}
use Rattle.occ_explaining.specs.Typing.{PastOf}
use Rattle.occ_explaining.specs.declared.studied.Studied.{Studied}
use Rattle.occ_explaining.specs.declared.tracing.Form.{Form}

-- it is that of this source, for turns of these options
pub record IsStudied (options : Options) (source : List ℕ) (s : Studied) : Type 0 where
  pub unfolded : UnfoldedProgram
  pub known : IsKnown options source s.code s.places unfolded
  pub uses : map noted_for s.uses.items ≡ all_using (meaning unfolded)
  pub text : s.source.items ≡ source
  pub unfolds : s.unfolded ≡ unfolded

-- of whatever source it is
abbrev pub ForSource : Studied → (Options → List ℕ → Type 0) → Type 0
ForSource s Tells = (options : Options) (source : List ℕ) → IsStudied options source s → Tells options source

-- bytes tell of the run of that source by these choices
abbrev pub ReportsBy : {A : Type 0} → Studied → (keyboard : List ℕ) → List Choice → Vec ℕ A → Type 0
ReportsBy s keyboard list bytes = ForSource s (λ options source. ReportsOn options source keyboard list bytes.items)

abbrev pub AreStepsBy : Studied → (keyboard : List ℕ) → List Choice → List ℕ → Type 0
AreStepsBy s keyboard list text = ForSource s (λ options source. StepsOf options source keyboard list text)

abbrev pub StepsBy : {A : Type 0} → Studied → (keyboard : List ℕ) → List Choice → Vec ℕ A → Type 0
StepsBy s keyboard list bytes = AreStepsBy s keyboard list bytes.items

abbrev pub IsTraceBy : Studied → (keyboard : List ℕ) → List Choice → Form → List ℕ → Type 0
IsTraceBy s keyboard list form text = ForSource s (λ options source. IsTraced options source keyboard list form text)

abbrev pub TracesBy : {A : Type 0} → Studied → (keyboard : List ℕ) → List Choice → Form → Vec ℕ A → Type 0
TracesBy s keyboard list form bytes = IsTraceBy s keyboard list form bytes.items

-- where that is done, such a text was written at this path, and nothing else
abbrev pub SavesTrace : {X E F : Type 0} → Result X E → (F → Option (List Written)) → (old new : F) → (path : List ℕ) → Studied → (keyboard : List ℕ) → List Choice → Form → Type 0
SavesTrace done left old new path s keyboard list form = OnOk done (LeavesText (IsTraceBy s keyboard list form) (left old) (left new) path)

abbrev pub SavesSteps : {X E F : Type 0} → Result X E → (F → Option (List Written)) → (old new : F) → (path : List ℕ) → Studied → (keyboard : List ℕ) → List Choice → Type 0
SavesSteps done left old new path s keyboard list = OnOk done (LeavesText (AreStepsBy s keyboard list) (left old) (left new) path)

abbrev pub ChartsBy : {A : Type 0} → Studied → (keyboard : List ℕ) → List Choice → Part → (only without : List (Bor (List ℕ))) → Vec ℕ A → Type 0
ChartsBy s keyboard list part only without bytes = ForSource s (λ options source. IsNamedChart options source keyboard list part only without bytes.items)

-- the first word, if any, that names none of its processes
abbrev pub NamesNone : Studied → List (Bor (List ℕ)) → Option (List ℕ) → Type 0
NamesNone s words word = word ≡ nameless (column_names s.places (min (length s.code.bodies) 4294967295)) words

abbrev pub NamesBy : {A : Type 0} → Studied → Vec ℕ A → Type 0
NamesBy s bytes = ForSource s (λ options source. NamesOf options source bytes.items)

abbrev pub RunsBy : Studied → (keyboard head : List ℕ) → List Choice → RunTexts → Type 0
RunsBy s keyboard head list r = ForSource s (λ options source. IsShownRun options source keyboard head list r)

-- the page has the source itself
abbrev pub PagesBy : {A : Type 0} → Studied → (source : List ℕ) → List RunTexts → Vec ℕ A → Type 0
PagesBy s source runs bytes = (options : Options) → IsStudied options source s → PageOf options source runs bytes.items

-- a turn is that of the first choice, if any, that names none of the processes that are ready then
abbrev pub PastBy : Studied → (keyboard : List ℕ) → List Choice → Option ℕ → Type 0
PastBy s keyboard list turn = ForSource s (λ options source. PastOf options source keyboard list turn)
