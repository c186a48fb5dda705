-- Each run by single steps has the communications of a run by turns.
-- Manual: combining processes (PAR: the steps of its branches in any order). Turns: (own).
use Rattle.std.specs.Prelude.{List, Some, length, suc, zero, ℕ, ◌<◌, ◌^◌, ◌≡◌, ◌≢◌}
use Rattle.occ_term.specs.declared.communication.Communication.{Communication}
use Rattle.occ_term.specs.declared.fault.Errors.{Errors}
use Rattle.occ_term.specs.Runs.{EndsBy, Event, Run, communications}
use Rattle.occ_term.specs.declared.ending.Ending.{Ending}
use Rattle.occ_term.specs.declared.ending.Ending.TheVariants.{Limit}
use Rattle.occ_term.specs.StepRuns.{StepRun, no_step, steps}
use Rattle.occ_term.specs.System.{System, start}
use Rattle.occ_term.specs.UnfoldedProgram.{UnfoldedProgram, IsWellFormed, Lawful, meaning}
use Rattle.occ_machine.specs.Compiled.{Program, IsCompiledFrom}
use Rattle.occ_net_replay.specs.declared.choice.Choice.{Choice}
use Rattle.occ_net_replay.specs.Following.{AreBytes}
use Rattle.occ_net_replay.specs.Replay.{Net, Replays, ending_of}

-- how many steps a run by steps has
abbrev pub steps_in : {errors : Errors} {a b : System} {xs : List Communication} → StepRun errors a xs b → ℕ
steps_in no_step = zero
steps_in (steps s r) = suc (steps_in r)

-- a run by turns with these communications, in this order, and choices whose replay has them
pub record IsByTurns (u : UnfoldedProgram) (p : Program) (quantum : ℕ) (keyboard : List ℕ) (xs : List Communication) : Type 0 where
  pub events : List Event
  pub system : System
  pub run : Run p.errors quantum (start (meaning u) keyboard) events system
  pub few : length events < 2 ^ 63
  pub said : communications events ≡ xs
  pub choices : List Choice
  pub net : Net
  pub replays : Replays p keyboard choices net
  pub trace : net.trace ≡ xs

-- In whatever order the steps of a lawful program are taken, one at a time, and whenever its processes communicate: some run by turns, of
-- whatever quantum, has the same communications in the same order, and so has the replay of some choices.
abbrev pub StepRunsAreRuns : Type 0
StepRunsAreRuns =
    (u : UnfoldedProgram) (p : Program) (quantum : ℕ) (keyboard : List ℕ) (xs : List Communication) (system : System)
    → IsWellFormed u → Lawful u → IsCompiledFrom u (suc quantum) p → AreBytes keyboard
    → (r : StepRun p.errors (start (meaning u) keyboard) xs system) → steps_in r < 2 ^ 62 → IsByTurns u p (suc quantum) keyboard xs

-- the same where that run has come to an ending: the run by turns comes to it too, and so does the replay
pub record IsEndedByTurns (u : UnfoldedProgram) (p : Program) (quantum : ℕ) (keyboard : List ℕ) (xs : List Communication) (ending : Ending) : Type 0 where
  pub events : List Event
  pub system : System
  pub run : Run p.errors quantum (start (meaning u) keyboard) events system
  pub few : length events < 2 ^ 63
  pub said : communications events ≡ xs
  pub ends : EndsBy p.errors system ending
  pub choices : List Choice
  pub net : Net
  pub replays : Replays p keyboard choices net
  pub trace : net.trace ≡ xs
  pub replay_ends : ending_of p.errors net ≡ Some ending

-- In whatever order the steps are taken: where the program has come to an ending, some run by turns and the replay of some choices have
-- come to it, with the same communications.
abbrev pub EndedStepRunsAreRuns : Type 0
EndedStepRunsAreRuns =
    (u : UnfoldedProgram) (p : Program) (quantum : ℕ) (keyboard : List ℕ) (xs : List Communication) (system : System) (ending : Ending)
    → IsWellFormed u → Lawful u → IsCompiledFrom u (suc quantum) p → AreBytes keyboard
    → (r : StepRun p.errors (start (meaning u) keyboard) xs system) → steps_in r < 2 ^ 62 → EndsBy p.errors system ending → ending ≢ Limit
    → IsEndedByTurns u p (suc quantum) keyboard xs ending
