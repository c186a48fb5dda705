-- How far a trace has come.
-- Manual: nothing; this is (own).
use Rattle.std.specs.Prelude.{List, length, ℕ, ◌++◌, ◌≡◌}
use Rattle.occ_term.specs.declared.communication.Communication.{Communication}
use Rattle.occ_net_tables.specs.Flat.{lengths_in, shapes_in, words_in}

-- how many communications there are, and of their items how many shapes, lengths and values
pub record Place : Type 0 where
  pub heads : ℕ
  pub shapes : ℕ
  pub lengths : ℕ
  pub words : ℕ

-- behind these communications
abbrev pub place_behind : List Communication → Place
place_behind xs = record { heads = length xs; shapes = length (shapes_in xs); lengths = length (lengths_in xs); words = length (words_in xs) }

-- these are those of all that stand behind a place
abbrev pub StandBehind : (all : List Communication) → Place → (behind : List Communication) → Type 0
StandBehind all place behind = (before after : List Communication) → all ≡ before ++ after → place ≡ place_behind before → behind ≡ after
