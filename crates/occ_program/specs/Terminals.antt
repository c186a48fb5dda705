-- What a terminal is given.
-- Manual: nothing; this is (own).
use Rattle.std.specs.Prelude.{Bool, List, codes, drop, get_or, length, not, take, ℕ, ◌&&◌, ◌++◌, ◌<◌, ◌∷◌, ◌≡◌, ◌≢◌, ◌⊎◌, ◌||◌}

-- explanations are printed where the words ask for them, and on a terminal unless they decline
abbrev pub explains : (asked declined terminal : Bool) → Bool
explains asked declined terminal = asked || (terminal && not declined)

-- the first end of a line, or the end of the text where there is none
pub record EndsLine (text : List ℕ) (end : ℕ) : Type 0 where
  pub before : (k : ℕ) → k < end → get_or text k 0 ≢ 10
  pub at : (end ≡ length text) ⊎ (get_or text end 0 ≡ 10)

-- the first line stands between the two sequences that begin and end bold letters
pub record IsInBold (text shown : List ℕ) : Type 0 where
  pub end : ℕ
  pub ends : EndsLine text end
  pub is : shown ≡ 27 ∷ codes "[1m" ++ take end text ++ 27 ∷ codes "[0m" ++ drop end text
