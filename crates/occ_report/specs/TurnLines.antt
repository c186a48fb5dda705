-- The lines of the turns of a run that are left, once some are written.
-- Manual: nothing; this is (own).
use Rattle.std.specs.Prelude.{List, length, ℕ, ◌+◌, ◌++◌, ◌<◌, ◌^◌}
use Rattle.occ_machine.specs.Compiled.{Program}
use Rattle.occ_net_replay.specs.declared.choice.Choice.{Choice}
use Rattle.occ_report.specs.Places.{Known}
use Rattle.occ_report.specs.Steps.{IsSteps, Stepping}
use Rattle.occ_report.specs.declared.turn_lines.TurnLines.{TurnLines}

-- turns are taken by the first of these choices, and their lines are this text
abbrev pub AreTaken : TurnLines → List Choice → (text : List ℕ) → Type 0
AreTaken s list text = Stepping s.places.now s.code.now s.keyboard.now s.turns s.rest.now list s.tables text

-- some are, and the numbers of the others are numbers of the machine
pub record CanWriteTurn (s : TurnLines) : Type 0 where
  pub list : List Choice
  pub text : List ℕ
  pub taken : AreTaken s list text
  pub few : s.turns + length s.rest.now < 2 ^ 64

-- behind the lines so far, this text makes those of the whole run
abbrev pub IsRestOfSteps : TurnLines → List ℕ → Type 0
IsRestOfSteps s rest = (list : List Choice) (text : List ℕ) → AreTaken s list text → IsSteps s.places.now s.code.now s.keyboard.now list (text ++ rest)

-- no turn is taken: what is left is all lines of the run by these choices
abbrev pub IsBeforeSteps : List Known → Program → (keyboard : List ℕ) → List Choice → TurnLines → Type 0
IsBeforeSteps known p keyboard list s = (text : List ℕ) → IsRestOfSteps s text → IsSteps known p keyboard list text
