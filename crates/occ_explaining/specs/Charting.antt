-- The chart of the run of a source.
-- Manual: nothing; this is (own).
use Rattle.std.specs.Prelude.{Bool, List, None, Option, Some, [], length, min, slice_get, zero, suc, ℕ, ◌++◌, ◌<◌, ◌^◌, ◌≡◌, ◌∷◌, Vec, option_map}
use Rattle.occ_chart.specs.declared.part.Part.{Part}
use Rattle.occ_chart.specs.Charts.{IsChart}
use Rattle.occ_chart.specs.Columns.{Footing, footing}
use Rattle.occ_chart.specs.Labels.{foot_words, texts_of}
use Rattle.occ_choices.specs.Plans.{choices_of}
use Rattle.occ_choices.specs.declared.plan.Plan.{Plan}
use Rattle.occ_machine.specs.Compiled.{Program}
use Rattle.occ_machine.specs.declared.task.Task.{Task}
use Rattle.occ_net_replay.specs.declared.choice.Choice.{Choice}
use Rattle.occ_net_replay.specs.Following.{Followed, or_limit}
use Rattle.occ_net_replay.specs.Replay.{Net, Replays, Tasks, ending_of}
use Rattle.occ_net_tables.specs.Outcomes.{Begins}
use Rattle.occ_play.specs.declared.playing.Options.{Options}
use Rattle.occ_play.specs.Playing.{IsTextsCode}
use Rattle.occ_shown.specs.Answers.{names_of}
use Rattle.occ_term.specs.Runs.{Names, entries, shown}
use Rattle.occ_term.specs.declared.names.Channel.{Channel}
use Rattle.occ_net_tables.specs.declared.tables.Tables.{Tables}
use Rattle.occ_net_tables.specs.Holding.{HeldBy}

-- ---- who stands at the foot

abbrev pub foot_standing : ℕ → Option (List ℕ) → List Footing
foot_standing n None = []
foot_standing n (Some words) = footing n words ∷ []

-- a process that has not begun stands nowhere
abbrev pub foot_in : Names → ℕ → Option (Option Task) → List Footing
foot_in names n None = []
foot_in names n (Some None) = []
foot_in names n (Some (Some t)) = foot_standing n (foot_words names t.wait)

-- of the first so many processes, rising
abbrev pub feet_of : Names → Tasks → ℕ → List Footing
feet_of names tasks zero = []
feet_of names tasks (suc n) = feet_of names tasks n ++ foot_in names n (slice_get tasks n)

-- all but for one whose number would be 2 to the 32 less 1, of which a program has none
abbrev pub feet : Names → Tasks → List Footing
feet names tasks = feet_of names tasks (min (length tasks) 4294967295)

-- ---- the chart

-- The replay of the used choices, which are a beginning of the list, and the chart of its communications, with what each process
-- stands at then.
pub record IsReplayChart (p : Program) (keyboard : List ℕ) (list : List Choice) (left : List Bool) (part : Part) (names : List (List ℕ)) (circle bytes : List ℕ) : Type 0 where
  pub used : List Choice
  pub net : Net
  pub replays : Replays p keyboard used net
  pub few : length used < 2 ^ 64
  pub begins : Begins used list
  pub whole : ending_of p.errors net ≡ None → used ≡ list
  pub is : IsChart (entries (names_of p.channels) 1 net.trace) left part (or_limit (ending_of p.errors net)) names (feet (names_of p.channels) net.tasks) circle bytes

-- A run of the text's program, by its system: it takes a turn for each of the used choices, which are a beginning of the list, by the
-- process that the replay of the code says, and comes to the same communications and the same ending. The chart is of the
-- communications that the run shows, of its ending, and of what each process of the replay stands at then.
pub record IsRunChart (options : Options) (source keyboard : List ℕ) (list : List Choice) (left : List Bool) (part : Part) (names : List (List ℕ)) (circle bytes : List ℕ) : Type 0 where
  pub code : Program
  pub text : IsTextsCode options source code
  pub used : List Choice
  pub net : Net
  pub replays : Replays code keyboard used net
  pub begins : Begins used list
  pub whole : ending_of code.errors net ≡ None → used ≡ list
  pub run : Followed text.program keyboard options.quantum code.errors net
  pub is :
      IsChart (shown (names_of text.program.channels) run.events).trace left part (or_limit (ending_of code.errors net)) names
      (feet (names_of text.program.channels) net.tasks) circle bytes

-- ---- private contracts alone cite what follows

abbrev pub IsReplayChartOf : {A : Type 0} → Program → List ℕ → Plan → List Bool → Part → List (Vec ℕ A) → List ℕ → Vec ℕ A → Type 0
IsReplayChartOf p keyboard plan left part names circle bytes = IsReplayChart p keyboard (choices_of plan) left part (texts_of names) circle bytes.items

-- the words of a process, and of whatever network the tables hold
abbrev pub AddsFooting : {A B : Type 0} → ℕ → Option (Vec ℕ A) → (old new : Vec Footing B) → Type 0
AddsFooting n words old new = new.items ≡ old.items ++ foot_standing n (option_map (λ v. v.items) words)

abbrev pub AddsFoot : {A : Type 0} → Tables → List Channel → ℕ → (old new : Vec Footing A) → Type 0
AddsFoot tables cs n old new = HeldBy tables (λ net. new.items ≡ old.items ++ foot_in (names_of cs) n (slice_get net.tasks n))

abbrev pub AreFeet : {A : Type 0} → Tables → List Channel → ℕ → Vec Footing A → Type 0
AreFeet tables cs n feet = HeldBy tables (λ net. feet.items ≡ feet_of (names_of cs) net.tasks n)
