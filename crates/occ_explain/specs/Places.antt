-- Places in a text: lines and columns from 1 on, in bytes. The lines are physical ones, without their ends.
-- Manual: nothing; this is (own).
use Rattle.std.specs.Prelude.{◌≤◌, ◌<◌, ◌-◌, ◌+◌, ◌⊎◌, ℕ, zero, suc, All, List, [], ◌∷◌, length}
use Rattle.std.specs.Str.Lines.{lines}
use Rattle.occ_text.specs.Lines.{LinesOf}
use Rattle.occ_text.specs.Words.{LogicalLine, logical_line}

-- the line behind so many others, and none where there are no more
abbrev pub line_behind : ℕ → List (List ℕ) → List ℕ
line_behind n [] = []
line_behind zero (l ∷ ls) = l
line_behind (suc n) (l ∷ ls) = line_behind n ls

-- the line of this number
abbrev pub line_numbered : List ℕ → ℕ → List ℕ
line_numbered text n = line_behind (n - 1) (lines text)

-- A line of the text, or the first one, and a byte of it or its end.
pub record IsPlace (text : List ℕ) (line column : ℕ) : Type 0 where
  pub from_one : 1 ≤ line
  pub in_text : 1 ≤ length text → line ≤ length (lines text)
  pub first_of_none : length text ≤ 0 → line ≤ 1
  pub column_from_one : 1 ≤ column
  pub in_line : column ≤ length (line_numbered text line) + 1

abbrev pub number_of_line : LogicalLine → ℕ
number_of_line (logical_line number level ws) = number

-- None of these logical lines begins behind the first of these physical lines, up to the second one.
abbrev pub NoneBegins : (from to : ℕ) → List LogicalLine → Type 0
NoneBegins from to all = All (λ l. (number_of_line l ≤ from) ⊎ (to < number_of_line l)) all

-- No logical line of the text does.
abbrev pub IsNear : (text : List ℕ) (from to : ℕ) → Type 0
IsNear text from to = (all : List LogicalLine) → LinesOf text all → NoneBegins from to all
