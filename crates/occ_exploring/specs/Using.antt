-- What the processes of a text use.
-- Manual: nothing; this is (own).
use Rattle.std.specs.Prelude.{List, map, ℕ, ◌≡◌}
use Rattle.occ_ends.specs.Ends.{all_using, noted_for}
use Rattle.occ_ends.specs.declared.uses.ProcessUses.{ProcessUses}
use Rattle.occ_play.specs.Playing.{RefusesText, Unfolds}
use Rattle.occ_play.specs.declared.fault.PlayFault.{PlayFault}
use Rattle.occ_play.specs.declared.fault.PlayFault.TheVariants as play
use Rattle.occ_term.specs.UnfoldedProgram.{UnfoldedProgram, meaning}

-- of the program that the text unfolds to
pub record HasUses (source : List ℕ) (uses : List ProcessUses) : Type 0 where
  pub program : UnfoldedProgram
  pub unfolds : Unfolds source program
  pub are : map noted_for uses ≡ all_using (meaning program)

-- the text has a program
abbrev pub HasProgram : List ℕ → Type 0
HasProgram source = (u : UnfoldedProgram) × Unfolds source u

-- The uses are not told: what is wrong with the text comes first, and a growth is refused only where it has a program.
abbrev pub RefusesUses : List ℕ → PlayFault → Type 0
RefusesUses source (play.Memory e) = HasProgram source
RefusesUses source fault = RefusesText source fault
