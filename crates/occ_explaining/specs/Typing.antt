-- When what is typed changes nothing, and choices that are past who is ready.
-- Manual: nothing; this is (own).
use Rattle.std.specs.Prelude.{List, Option, false, ℕ, ◌≡◌}
use Rattle.occ_machine.specs.Compiled.{Program}
use Rattle.occ_net_replay.specs.declared.choice.Choice.{Choice}
use Rattle.occ_play.specs.Playing.{IsTextsCode, Refuses, Unfolds}
use Rattle.occ_play.specs.Status.{fault_status}
use Rattle.occ_play.specs.declared.fault.PlayFault.{PlayFault}
use Rattle.occ_play.specs.declared.playing.Options.{Options}
use Rattle.occ_report.specs.Past.{IsFirstPast}
use Rattle.occ_term.specs.UnfoldedProgram.{UnfoldedProgram, meaning}
use Rattle.occ_term.specs.Uses.{uses_of}

-- the program of a text has no input and no guard on the keyboard, which is channel 0
pub record NeverInputs (source : List ℕ) : Type 0 where
  pub program : UnfoldedProgram
  pub unfolds : Unfolds source program
  pub never : (uses_of (meaning program)).ins 0 ≡ false

-- so, or the text is refused for turns of these options, which is told with status 1
pub data NeedsNoKeyboard (options : Options) (source : List ℕ) : Type 0 where
  by_program : NeverInputs source → NeedsNoKeyboard options source
  by_refusal : (fault : PlayFault) → Refuses options source fault → fault_status fault ≡ 1 → NeedsNoKeyboard options source

-- the first choice, if any, that names none of the processes that are ready then in the run of a source
pub record PastOf (options : Options) (source keyboard : List ℕ) (list : List Choice) (turn : Option ℕ) : Type 0 where
  pub program : Program
  pub code : IsTextsCode options source program
  pub past : IsFirstPast program keyboard list turn
