-- What processes are called over a chart, and which of them have a column of their own.
-- Manual: nothing; this is (own).
use Rattle.std.specs.Borrow.{Bor}
use Rattle.std.specs.Fmt.{decimal}
use Rattle.std.specs.List.{list_any}
use Rattle.std.specs.Option.{option_copied}
use Rattle.std.specs.Prelude.{Bool, List, None, Option, Some, [], bytes_eq, codes, false, if◌then◌else◌, min, nat_lt, not, suc, zero, ℕ, ◌&&◌, ◌++◌, ◌+◌, ◌||◌, ◌∷◌}
use Rattle.occ_report.specs.Places.{Known, name_of, stops_of}
use Rattle.occ_report.specs.declared.stop.Stop.{Stop}

-- ---- what they are called

-- the lower of two lines, where there is a first one
abbrev pub lower : Option ℕ → ℕ → ℕ
lower None n = n
lower (Some m) n = min m n

-- the lowest line behind a line at which one of these stops stands
abbrev pub lowest_behind : (line : ℕ) → (found : Option ℕ) → List Stop → Option ℕ
lowest_behind line found [] = found
lowest_behind line found (s ∷ ss) = lowest_behind line (if nat_lt line s.line then Some (lower found s.line) else found) ss

abbrev pub line_of_first : List Stop → ℕ
line_of_first [] = 0
line_of_first (s ∷ ss) = s.line

abbrev pub named_by_line : ℕ → List ℕ
named_by_line n = codes "line " ++ decimal n

-- That line; where a process stops at none, that of its first stop, where it is known.
abbrev pub line_or : (name : List ℕ) → Option ℕ → List Stop → List ℕ
line_or name (Some n) ss = named_by_line n
line_or name None [] = name
line_or name None (s ∷ ss) = named_by_line s.line

-- a branch in the body of the main process by the lowest line at which it stops behind the first stop of that, which begins it
abbrev pub branch_name : List Known → ℕ → List ℕ
branch_name known n = line_or (name_of known n) (lowest_behind (line_of_first (stops_of known 0)) None (stops_of known n)) (stops_of known n)

-- by the PROC; a branch in the body of the main process, which has none of its own, by its line
abbrev pub column_name : List Known → ℕ → List ℕ
column_name known n = if nat_lt 0 n && bytes_eq (name_of known n) (name_of known 0) then branch_name known n else name_of known n

-- the first so many
abbrev pub column_names : List Known → ℕ → List (List ℕ)
column_names known zero = []
column_names known (suc n) = column_names known n ++ column_name known n ∷ []

-- ---- who is named by a word: as `worker`, `3` or `p3`

abbrev pub is_word_for : (name : List ℕ) → (n : ℕ) → (word : List ℕ) → Bool
is_word_for name n word = bytes_eq word name || bytes_eq word (decimal n) || bytes_eq word (112 ∷ decimal n)

abbrev pub is_named_among : List (Bor (List ℕ)) → (name : List ℕ) → (n : ℕ) → Bool
is_named_among words name n = list_any (λ word. is_word_for name n word.now) words

-- a word that names one of these at least, of which the first has this number
abbrev pub names_some : ℕ → List (List ℕ) → (word : List ℕ) → Bool
names_some n [] word = false
names_some n (name ∷ names) word = is_word_for name n word || names_some (n + 1) names word

-- the first word that names none
abbrev pub nameless : List (List ℕ) → List (Bor (List ℕ)) → Option (List ℕ)
nameless names [] = None
nameless names (word ∷ words) = if names_some 0 names word.now then nameless names words else Some word.now

-- ---- who is left out

-- where some are to have columns, the others; and those that are to have none
abbrev pub leaves_out : (only without : List (Bor (List ℕ))) → (name : List ℕ) → (n : ℕ) → Bool
leaves_out [] without name n = is_named_among without name n
leaves_out (word ∷ words) without name n = not (is_named_among (word ∷ words) name n) || is_named_among without name n

abbrev pub left_from : (only without : List (Bor (List ℕ))) → ℕ → List (List ℕ) → List Bool
left_from only without n [] = []
left_from only without n (name ∷ names) = leaves_out only without name n ∷ left_from only without (n + 1) names

abbrev pub left_out_of : (only without : List (Bor (List ℕ))) → List (List ℕ) → List Bool
left_out_of only without names = left_from only without 0 names
