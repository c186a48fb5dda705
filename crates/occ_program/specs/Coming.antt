-- What an exit status says of the source, the keyboard and the choices that were played.
-- Manual: nothing; this is (own).
use Rattle.std.specs.Prelude.{Bool, IsTrue, false, is_some, true, unwrap_or, List, None, Option, Some, Result, ℕ, ◌≡◌, Ok, Err}
use Rattle.std.specs.Borrow.{Bor}
use Rattle.occ_net_replay.specs.declared.choice.Choice.{Choice}
use Rattle.occ_play_inputs.specs.declared.failure.Failure.{Failure}
use Rattle.occ_choices.specs.declared.plan.Plan.{Plan}
use Rattle.occ_play.specs.declared.playing.Options.{Options}
use Rattle.occ_play.specs.declared.playing.Played.{Played}
use Rattle.occ_play.specs.declared.fault.PlayFault.{PlayFault}
use Rattle.occ_play.specs.Playing.{HasCode, IsAnswer, Refuses, RefusesCode}
use Rattle.occ_play_inputs.specs.declared.inputs.Inputs.{Inputs}
use Rattle.occ_play_inputs.specs.declared.words.Words.{Words}
use Rattle.occ_play_inputs.specs.Asked.{IsAskedBy}
use Rattle.occ_play_inputs.specs.Failures.{failure_status}
use Rattle.occ_choices.specs.Plans.{choices_of}
use Rattle.occ_play.specs.Status.{fault_status, status}
use Rattle.occ_explore.specs.declared.exploration.Asked.{Asked}
use Rattle.occ_explore.specs.declared.exploration.Asked.TheVariants.{Answers}
use Rattle.occ_explore.specs.declared.exploration.Exploration.{Exploration}
use Rattle.occ_explore.specs.declared.exploration.Answer.{Answer}
use Rattle.occ_explore.specs.Exploring.{EndsAtFirst}
use Rattle.occ_exploring.specs.Alone.{IsOnlyFor, IsUntoldFor, only_status, turns_within}
use Rattle.occ_exploring.specs.Explored.{IsDrawnFor, IsExplored}
use Rattle.occ_exploring.specs.Within.{IsComparison, RefusesOne, SaysOfRuns, kept_status}
use Rattle.occ_exploring.specs.declared.within.KeepFault.{KeepFault}
use Rattle.occ_exploring.specs.declared.within.KeepFault.TheVariants.{Source, Specification}
use Rattle.occ_exploring.specs.declared.within.Kept.{Kept}
use Rattle.occ_exploring.specs.Statuses.{search_status}
use Rattle.occ_exploring.specs.Texts.{exploration_text}
use Rattle.occ_shown.specs.Counting.{AppendsTo}
use Rattle.occ_shown.specs.declared.counted.Counted.{Counted}
use Rattle.occ_program.specs.Watched.{CameByCrew, CameTo}
use Rattle.occ_program.specs.Trying.{IsTriedPlan, IsTriedPlanFor, IsTriedSeed}

-- so many workers take the turns, where the words say so and name no file of choices; one, where the words say no more than that the run
-- is watched
abbrev pub workers_asked : {Path : Type 0} → Bool → Option ℕ → Option Path → Option ℕ
workers_asked watch workers (Some path) = None
workers_asked true workers None = Some (unwrap_or workers 1)
workers_asked false workers None = workers

abbrev pub workers_in : Words → Option ℕ
workers_in words = workers_asked words.watch words.workers words.choices

-- the length of turns and what a fault does, as the words say
abbrev pub options_in : Words → Options
options_in words = record { quantum = words.quantum; errors = words.errors }

-- what playing a source came to: by these choices, or by workers within the limit
abbrev pub CameToBy : Option ℕ → Words → (source keyboard : List ℕ) → List Choice → Result Played PlayFault → Type 0
CameToBy None words source keyboard list played = CameTo (IsAnswer (options_in words) source keyboard list words.trace) (Refuses (options_in words) source) played
CameToBy (Some workers) words source keyboard list played = CameByCrew workers (options_in words) source keyboard words.limit words.trace played

-- what playing the inputs came to
abbrev pub PlayedTo : Option ℕ → Words → Inputs → Result Played PlayFault → Type 0
PlayedTo workers words inputs played = CameToBy workers words inputs.source.items inputs.keyboard.items (choices_of inputs.plan) played

-- the fault refuses their source
abbrev pub RefusesSource : Words → Inputs → PlayFault → Type 0
RefusesSource words inputs fault = Refuses (options_in words) inputs.source.items fault

-- where the words name a seed, the choices are those of the first one by which the source's run doesn't end, as far as they allow
abbrev pub IsTriedBy : Words → (source keyboard : List ℕ) → Plan → Type 0
IsTriedBy words source keyboard plan = IsTriedPlanFor (options_in words) source keyboard words.limit words.choices words.seed words.tries plan

abbrev pub TriesFrom : Words → (first : ℕ) → Inputs → Type 0
TriesFrom words first inputs = IsTriedPlan (options_in words) inputs.source.items inputs.keyboard.items words.limit first words.tries inputs.plan

-- of these seeds the one that was tried last
abbrev pub IsTriedFrom : Words → (first : ℕ) → Inputs → (seed : ℕ) → Type 0
IsTriedFrom words first inputs seed = IsTriedSeed (options_in words) inputs.source.items inputs.keyboard.items words.limit first words.tries seed

-- the words name the first of them
abbrev pub IsTriedIn : Words → Inputs → (seed : ℕ) → Type 0
IsTriedIn words inputs seed = (first : ℕ) × (words.seed ≡ Some first) × IsTriedFrom words first inputs seed

-- the status of what this source came to, by the choices or the workers and with the trace that the words ask for
pub record IsStatusOf (words : Words) (source keyboard : List ℕ) (s : ℕ) : Type 0 where
  pub plan : Plan
  pub asked : IsAskedBy words plan
  pub tried : IsTriedBy words source keyboard plan
  pub played : Result Played PlayFault
  pub came : CameToBy (workers_in words) words source keyboard (choices_of plan) played
  pub is : s ≡ status played

-- that of some source
abbrev pub IsStatusFor : Words → ℕ → Type 0
IsStatusFor words s = (source : List ℕ) × (keyboard : List ℕ) × IsStatusOf words source keyboard s

-- ---- a search of all lists of choices

-- what it came to, as the words ask
abbrev pub SearchedTo : Words → (source keyboard : List ℕ) → Asked → Result Exploration PlayFault → Type 0
SearchedTo words source keyboard asked (Ok e) =
    IsExplored (options_in words) source keyboard asked words.full words.states e × EndsAtFirst words.first e.answers.items e.verdict
    × (IsTrue words.full → IsDrawnFor (options_in words) source keyboard asked (is_some words.graph) e)
SearchedTo words source keyboard asked (Err fault) = Refuses (options_in words) source fault

-- what is printed of it
abbrev pub search_text : Words → Asked → Exploration → List ℕ
search_text words asked e = exploration_text asked words.states words.memory e

abbrev pub found_status : Result Exploration PlayFault → ℕ
found_status (Ok e) = search_status e
found_status (Err fault) = fault_status fault

-- whether one run tells it, as the words ask
abbrev pub OnlyTo : Words → (source keyboard : List ℕ) → Result (Option Answer) PlayFault → Type 0
OnlyTo words source keyboard (Ok None) = IsUntoldFor (options_in words) source keyboard (turns_within words.states words.memory)
OnlyTo words source keyboard (Ok (Some a)) = IsOnlyFor (options_in words) source keyboard a
OnlyTo words source keyboard (Err fault) = Refuses (options_in words) source fault

-- the status of a search of a source, or that of the one answer that a run tells
pub data IsSearchStatus (words : Words) (asked : Asked) (s : ℕ) : Type 0 where
  by_search : (source keyboard : List ℕ) (found : Result Exploration PlayFault) → SearchedTo words source keyboard asked found → s ≡ found_status found → IsSearchStatus words asked s
  by_one_run : (source keyboard : List ℕ) (a : Answer) → IsOnlyFor (options_in words) source keyboard a → s ≡ only_status a → IsSearchStatus words asked s
  by_refusal : (source : List ℕ) (fault : PlayFault) → Refuses (options_in words) source fault → s ≡ fault_status fault → IsSearchStatus words asked s

-- the text was written, where that is said
abbrev pub Prints : {W : Type 0} → (W → Option (List ℕ)) → List ℕ → (old new : Counted W) → Bool → Type 0
Prints contents text old new printed = IsTrue printed → AppendsTo contents old new text

-- ---- a source that is only looked at

-- it has code for turns of these options, or what is wrong with it
abbrev pub LookedAt : Words → (source : List ℕ) → Option PlayFault → Type 0
LookedAt words source None = HasCode (options_in words) source
LookedAt words source (Some fault) = RefusesCode (options_in words) source fault

abbrev pub look_status : Option PlayFault → ℕ
look_status None = 0
look_status (Some fault) = fault_status fault

-- the status of a look at a source
pub record IsLookStatus (words : Words) (s : ℕ) : Type 0 where
  pub source : List ℕ
  pub fault : Option PlayFault
  pub looked : LookedAt words source fault
  pub is : s ≡ look_status fault

-- ---- a source and its specification

-- what is compared: answers, where the words do not ask for endings
abbrev pub asked_in : Words → Asked
asked_in words = unwrap_or words.explore Answers

-- what was found, and so what is known of all runs of both; or that one of the two is refused
abbrev pub KeptTo : Words → (specification source keyboard : List ℕ) → Result Kept KeepFault → Type 0
KeptTo words specification source keyboard (Ok kept) =
    IsComparison (options_in words) specification source keyboard (asked_in words) words.states kept
    × SaysOfRuns words.errors (asked_in words) specification source keyboard kept
KeptTo words specification source keyboard (Err fault) = RefusesOne (options_in words) specification source fault

abbrev pub kept_or_refused_status : Result Kept KeepFault → ℕ
kept_or_refused_status (Ok kept) = kept_status kept
kept_or_refused_status (Err (Source fault)) = fault_status fault
kept_or_refused_status (Err (Specification fault)) = fault_status fault

-- the status of that
pub record IsKeepStatus (words : Words) (s : ℕ) : Type 0 where
  pub specification : List ℕ
  pub source : List ℕ
  pub keyboard : List ℕ
  pub found : Result Kept KeepFault
  pub came : KeptTo words specification source keyboard found
  pub is : s ≡ kept_or_refused_status found

-- ---- the program

-- What a status of the program says: that of what a source came to, played, searched, compared or looked at as the words ask, or that
-- of a failure, or 6 where help could not be printed.
pub data ProgramStatus : ℕ → Type 0 where
  of_play : (words : Words) {s : ℕ} → words.within ≡ None → words.explore ≡ None → words.check ≡ false → IsStatusFor words s → ProgramStatus s
  of_look : (words : Words) {s : ℕ} → words.within ≡ None → words.explore ≡ None → words.check ≡ true → IsLookStatus words s → ProgramStatus s
  of_search : (words : Words) (asked : Asked) {s : ℕ} → words.within ≡ None → words.explore ≡ Some asked → IsSearchStatus words asked s → ProgramStatus s
  of_comparing : (words : Words) (path : Bor (List ℕ)) {s : ℕ} → words.within ≡ Some path → IsKeepStatus words s → ProgramStatus s
  of_failure : (failure : Failure) → ProgramStatus (failure_status failure)
  of_help : (help : Failure) → failure_status help ≡ 0 → ProgramStatus 6
