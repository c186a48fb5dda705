-- Runs that get the keyboard's bytes while they go on.
-- Manual: nothing; this is (own).
use Rattle.std.specs.Prelude.{Bool, List, None, false, is_some, nat_eq, not, ℕ, ⊤, ◌&&◌, ◌≡◌, ◌||◌}
use Rattle.occ_choices.specs.Plans.{choices_of}
use Rattle.occ_files.specs.declared.reason.Reason.{Reason}
use Rattle.occ_live.specs.Playing.{IsLiveAnswer}
use Rattle.occ_live.specs.declared.fault.LiveFault.{LiveFault}
use Rattle.occ_live.specs.declared.fault.LiveFault.TheVariants as fails
use Rattle.occ_live.specs.declared.fault.LivePlayFault.{LivePlayFault}
use Rattle.occ_live.specs.declared.fault.LivePlayFault.TheVariants as fault
use Rattle.occ_live.specs.declared.playing.LivePlayed.{LivePlayed}
use Rattle.occ_play.specs.Playing.{Refuses}
use Rattle.occ_play_inputs.specs.Failures.{trouble}
use Rattle.occ_play_inputs.specs.declared.failure.Failure.{Failure}
use Rattle.occ_play_inputs.specs.declared.failure.Failure.TheVariants as fail
use Rattle.occ_play_inputs.specs.declared.failure.Stream.TheVariants.{Keyboard, Output}
use Rattle.occ_play_inputs.specs.declared.inputs.Inputs.{Inputs}
use Rattle.occ_play_inputs.specs.declared.words.Words.{Words}
use Rattle.occ_program.specs.Coming.{options_in}

-- no threads take the turns, none looks on, and one seed at most is tried
pub record RunsAlone (words : Words) : Type 0 where
  pub workers : words.workers ≡ None
  pub watch : words.watch ≡ false
  pub tries : words.tries ≡ 1

-- where the words ask for it, and where standard input is a terminal and the source has a file
abbrev pub runs_live : Words → (terminal : Bool) → Bool
runs_live words terminal =
    ((not (is_some words.workers) && not words.watch) && nat_eq words.tries 1) && (words.live || (is_some words.file && terminal))

-- what it came to over the bytes that were read; where the keyboard may have more, over these and any more
abbrev pub LivesTo : Words → Inputs → (read : List ℕ) → LivePlayed → Type 0
LivesTo words inputs read live =
    (bytes : List ℕ) × IsLiveAnswer (options_in words) inputs.source.items read (choices_of inputs.plan) words.trace live bytes

-- a refusal of the source; of a run that came to nothing the failure is told
abbrev pub RefusesLive : Words → Inputs → LivePlayFault → Type 0
RefusesLive words inputs (fault.Source why) = Refuses (options_in words) inputs.source.items why
RefusesLive words inputs (fault.Run why) = ⊤

-- what such a run is to the program, where the last failed write had this reason
abbrev pub live_failure : Reason → LiveFault → Failure
live_failure unwritten (fails.Read reason) = fail.Read (trouble Keyboard reason)
live_failure unwritten fails.Write = fail.Write (trouble Output unwritten)
live_failure unwritten fails.Memory = fail.Memory
