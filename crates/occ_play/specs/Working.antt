-- What `play_workers` promises: the answer of `play` for the choices that it answers.
-- Manual: nothing; this is (own).
use Rattle.std.specs.Prelude.{Bool, IfErr, List, Option, Result, length, ℕ, ◌<◌, ◌≤◌, ◌≡◌, ◌⊎◌}
use Rattle.occ_term.specs.declared.ending.Ending.TheVariants as E
use Rattle.occ_run.specs.declared.fault.RunFault.TheVariants as run
use Rattle.occ_shown.specs.declared.counted.Counted.{Counted}
use Rattle.occ_play.specs.declared.fault.PlayFault.{PlayFault}
use Rattle.occ_play.specs.declared.fault.PlayFault.TheVariants as play
use Rattle.occ_choices.specs.Crews.{IsCrew, most_workers}
use Rattle.occ_play.specs.declared.playing.Options.{Options}
use Rattle.occ_play.specs.declared.playing.Played.{Played}
use Rattle.occ_play.specs.Playing.{AfterFault, HasCode, IsAnswer, Refuses, Wrote}

-- The answer that `play` gives for the choices that were used. There are at most `limit` of them, and just so many where the run could go
-- on.
pub record IsAnswerWithin (options : Options) (source keyboard : List ℕ) (limit : ℕ) (trace : Bool) (played : Played) (bytes : List ℕ) : Type 0 where
  pub answer : IsAnswer options source keyboard played.choices.items trace played bytes
  pub few : length played.choices.items ≤ limit
  pub whole : played.ending ≡ E.Limit → length played.choices.items ≡ limit

abbrev pub IsSomeAnswerWithin : Options → (source keyboard : List ℕ) → ℕ → Bool → List ℕ → Type 0
IsSomeAnswerWithin options source keyboard limit trace bytes = (played : Played) × IsAnswerWithin options source keyboard limit trace played bytes

-- an answer of so many workers, where their number is from 1 to 64
abbrev pub IsSomeCrewsAnswer : ℕ → Options → (source keyboard : List ℕ) → ℕ → Bool → List ℕ → Type 0
IsSomeCrewsAnswer workers options source keyboard limit trace bytes = IsCrew workers × IsSomeAnswerWithin options source keyboard limit trace bytes

-- What is wrong with the text or the quantum comes first. A text that has code is refused for a number of workers that is not from 1 to 64, and by that
-- alone; where it is from 1 to 64, for threads that gave no answer, or for want of memory.
abbrev pub WorkersRefuse : ℕ → Options → List ℕ → PlayFault → Type 0
WorkersRefuse workers options source (play.Run run.BadWorkers) = HasCode options source × ((workers ≡ 0) ⊎ (most_workers < workers))
WorkersRefuse workers options source (play.Run fault) = HasCode options source × IsCrew workers
WorkersRefuse workers options source (play.Memory e) = HasCode options source × IsCrew workers
WorkersRefuse workers options source fault = Refuses options source fault

-- the answer of a play within the limit was written, and nothing else
abbrev pub PlaysWithin : {W : Type 0} → (W → Option (List ℕ)) → Options → (source keyboard : List ℕ) → ℕ → Bool → (old new : Counted W) → Played → Type 0
PlaysWithin contents options source keyboard limit trace old new played = Wrote contents (IsAnswerWithin options source keyboard limit trace played) old new

-- a fault of a play by so many workers: a failed write of its answer, or a refusal
abbrev pub FailsBy : {W : Type 0} → (W → Option (List ℕ)) → ℕ → Options → (source keyboard : List ℕ) → ℕ → Bool → (old new : Counted W) → PlayFault → Type 0
FailsBy contents workers options source keyboard limit trace old new fault =
    AfterFault contents (IsSomeCrewsAnswer workers options source keyboard limit trace) (WorkersRefuse workers options source) old new fault

-- a fault of what is answered is such a one
abbrev pub FaultBy : {X W : Type 0} → Result X PlayFault → (W → Option (List ℕ)) → ℕ → Options → (source keyboard : List ℕ) → ℕ → Bool → (old new : Counted W) → Type 0
FaultBy played contents workers options source keyboard limit trace old new = IfErr played (FailsBy contents workers options source keyboard limit trace old new)
