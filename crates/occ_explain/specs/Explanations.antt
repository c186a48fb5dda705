-- How an explanation is written.
-- Manual: nothing; this is (own).
use Rattle.std.specs.Prelude.{Bool, List, [], codes, if◌then◌else◌, length, map, nat_lt, replicate, ℕ, ◌++◌, ◌-◌, ◌==◌, ◌||◌, ◌∷◌}
use Rattle.std.specs.Fmt.{decimal}
use Rattle.occ_files.specs.Names.{printed_name}
use Rattle.occ_explain.specs.declared.explaining.Explanation.{Explanation}

-- a byte that would move a terminal, or is no ASCII
abbrev pub is_hidden : ℕ → Bool
is_hidden b = nat_lt b 32 || nat_lt 126 b

-- in its place a question mark is shown
abbrev pub shown_byte : ℕ → ℕ
shown_byte b = if is_hidden b then 63 else b

abbrev pub printable : List ℕ → List ℕ
printable bytes = map shown_byte bytes

-- FILE:LINE:COLUMN
abbrev pub place_text : (file : List ℕ) (line column : ℕ) → List ℕ
place_text file line column = printed_name file ++ 58 ∷ decimal line ++ 58 ∷ decimal column

-- the place, and what is wrong there
abbrev pub first_line : (file : List ℕ) (line column : ℕ) (wrong : List ℕ) → List ℕ
first_line file line column wrong = place_text file line column ++ codes ": " ++ printable wrong ++ 10 ∷ []

-- the line of the text, behind its number
abbrev pub source_line : (line : ℕ) (source : List ℕ) → List ℕ
source_line line source = decimal line ++ codes " | " ++ printable source ++ 10 ∷ []

-- a caret under the column
abbrev pub caret_line : (line column : ℕ) → List ℕ
caret_line line column = replicate (length (decimal line)) 32 ++ codes " | " ++ replicate (column - 1) 32 ++ 94 ∷ 10 ∷ []

-- the hint, where there is one
abbrev pub hint_line : List ℕ → List ℕ
hint_line hint = if length hint == 0 then [] else 32 ∷ 32 ∷ printable hint ++ 10 ∷ []

unfoldable pub explained_text : (file : List ℕ) (line column : ℕ) (source wrong hint : List ℕ) → List ℕ
explained_text file line column source wrong hint =
    first_line file line column wrong ++ source_line line source ++ caret_line line column ++ hint_line hint

-- an explanation, behind the file's name
abbrev pub explanation_text : (file : List ℕ) → Explanation → List ℕ
explanation_text file e = explained_text file e.line e.column e.source.now e.wrong.items e.hint.items
