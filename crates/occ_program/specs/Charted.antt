-- The chart that the words ask for.
-- Manual: nothing; this is (own).
use Rattle.std.specs.Prelude.{List, Vec, ℕ}
use Rattle.occ_explaining.specs.Studied.{ChartsBy}
use Rattle.occ_explaining.specs.declared.studied.Studied.{Studied}
use Rattle.occ_net_replay.specs.declared.choice.Choice.{Choice}
use Rattle.occ_play_inputs.specs.declared.words.Words.{Words}
use Rattle.occ_program.specs.Pages.{part_in}

-- of the run by these choices: as many communications, and the columns, that the words choose
abbrev pub ChartsAsked : {A : Type 0} → Words → Studied → (keyboard : List ℕ) → List Choice → Vec ℕ A → Type 0
ChartsAsked words s keyboard list = ChartsBy s keyboard list (part_in words.arrows words.last) words.only.items words.without.items
