-- Seeds that are tried one after the other.
-- Manual: nothing; this is (own).
use Rattle.std.specs.Prelude.{Bool, IfErr, IfOk, IsFalse, IsTrue, List, None, Ok, Option, Result, Some, codes, false, ℕ, ⊤, ◌+◌, ◌++◌, ◌<◌, ◌≡◌, ◌≢◌, ◌⊎◌}
use Rattle.std.specs.Fmt.{decimal}
use Rattle.occ_net_replay.specs.declared.choice.Choice.{Choice}
use Rattle.occ_choices.specs.Plans.{choices_of}
use Rattle.occ_choices.specs.declared.plan.Plan.{Plan}
use Rattle.occ_term.specs.declared.ending.Ending.TheVariants.{Ended}
use Rattle.occ_play.specs.declared.playing.Options.{Options}
use Rattle.occ_play.specs.declared.playing.Played.{Played}
use Rattle.occ_play.specs.declared.fault.PlayFault.{PlayFault}
use Rattle.occ_play.specs.Playing.{IsAnswer, Refuses}
use Rattle.occ_play.specs.Status.{fault_status}
use Rattle.occ_play_inputs.specs.Seeds.{seeded}

-- a run of the source by these choices ends
pub record RunEnds (options : Options) (source keyboard : List ℕ) (list : List Choice) : Type 0 where
  pub played : Played
  pub answer : List ℕ
  pub run : IsAnswer options source keyboard list false played answer
  pub ended : played.ending ≡ Ended

-- a run of the source by these choices has another ending
pub record RunEndsOtherwise (options : Options) (source keyboard : List ℕ) (list : List Choice) : Type 0 where
  pub played : Played
  pub answer : List ℕ
  pub run : IsAnswer options source keyboard list false played answer
  pub other : played.ending ≢ Ended

-- one of so many seeds from the first on: the run of each before it ends, and its own has another ending, or it is the last of them
pub record IsTriedSeed (options : Options) (source keyboard : List ℕ) (limit first tries seed : ℕ) : Type 0 where
  pub place : ℕ
  pub within : place < tries
  pub is : seed ≡ first + place
  pub before : (k : ℕ) → k < place → RunEnds options source keyboard (seeded (first + k) limit)
  pub own : RunEndsOtherwise options source keyboard (seeded (first + place) limit) ⊎ (place + 1 ≡ tries)

-- The choices are those of the seed that was tried last; of a source that the definitions refuse, for a fault that is told with
-- status 1, those of the first seed.
pub data IsTriedPlan (options : Options) (source keyboard : List ℕ) (limit first tries : ℕ) (plan : Plan) : Type 0 where
  by_seed : (seed : ℕ) → IsTriedSeed options source keyboard limit first tries seed → choices_of plan ≡ seeded seed limit → IsTriedPlan options source keyboard limit first tries plan
  by_first : (fault : PlayFault) → fault_status fault ≡ 1 → Refuses options source fault → choices_of plan ≡ seeded first limit → IsTriedPlan options source keyboard limit first tries plan

-- where the choices are those of a seed
abbrev pub IsTriedPlanFor : {Path : Type 0} → Options → (source keyboard : List ℕ) → (limit : ℕ) → Option Path → Option ℕ → (tries : ℕ) → Plan → Type 0
IsTriedPlanFor options source keyboard limit (Some path) seed tries plan = ⊤
IsTriedPlanFor options source keyboard limit None (Some first) tries plan = IsTriedPlan options source keyboard limit first tries plan
IsTriedPlanFor options source keyboard limit None None tries plan = ⊤

-- ---- what is told of them

-- that the run by this seed is the first one that does not end
abbrev pub seed_line : ℕ → List ℕ
seed_line seed = codes "seed " ++ decimal seed ++ codes ": the first one by which the run does not end\n"

-- that, of the seed that was tried last, where there were several and its run does not end
abbrev pub TellsSeed : (tries : ℕ) → Option ℕ → Result Played PlayFault → (text : List ℕ) → Type 0
TellsSeed tries (Some seed) (Ok played) text = (tries ≢ 1) × (played.ending ≢ Ended) × (text ≡ seed_line seed)
TellsSeed tries seed played text = ⊥

-- ---- private contracts alone cite what follows

-- whether the run by these choices ends
abbrev pub TellsEnd : {E : Type 0} → Result Bool E → Options → (source keyboard : List ℕ) → List Choice → Type 0
TellsEnd r options source keyboard list =
    IfOk r (λ ends. (IsTrue ends → RunEnds options source keyboard list) × (IsFalse ends → RunEndsOtherwise options source keyboard list))

-- a fault that is told with status 1 refuses the source
abbrev pub RefusesWith1 : {X : Type 0} → Result X PlayFault → Options → (source : List ℕ) → Type 0
RefusesWith1 r options source = IfErr r (λ fault. fault_status fault ≡ 1 → Refuses options source fault)
