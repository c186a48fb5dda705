-- A source of several files.
-- Manual: nothing; this is (own).
use Rattle.std.specs.Prelude.{Bool, List, [], if◌then◌else◌, nat_le, suc, take, true, ℕ, ◌++◌, ◌-◌, ◌==◌, ◌∷◌}

-- whether the last byte of a text is a line feed, or it has none
abbrev pub has_end : List ℕ → Bool
has_end [] = true
has_end (b ∷ []) = b == 10
has_end (b ∷ c ∷ bytes) = has_end (c ∷ bytes)

-- the last line has its end
abbrev pub ended : List ℕ → List ℕ
ended text = if has_end text then text else text ++ 10 ∷ []

-- The texts of several files behind what stands before them: each begins a line. Of all together there are so many bytes at most.
abbrev pub joined : (most : ℕ) → (before : List ℕ) → List (List ℕ) → List ℕ
joined most before [] = before
joined most before (text ∷ texts) = joined most (take most (ended before ++ text)) texts

-- how many line feeds a text has
abbrev pub line_feeds : List ℕ → ℕ
line_feeds [] = 0
line_feeds (b ∷ bytes) = if b == 10 then suc (line_feeds bytes) else line_feeds bytes

-- The file in which a line stands, from 0, and its number in it: the first file whose last line is not above it, or the last file.
abbrev pub place_in_files : (file before : ℕ) → (ends : List ℕ) → (line : ℕ) → ℕ × ℕ
place_in_files file before [] line = (file, line - before)
place_in_files file before (end ∷ ends) line = if nat_le line end then (file, line - before) else place_in_files (suc file) end ends line

-- of each text but the last the number of its last line among all
abbrev pub ends_of : (most : ℕ) → (before : List ℕ) → List (List ℕ) → List ℕ
ends_of most before [] = []
ends_of most before (text ∷ []) = []
ends_of most before (text ∷ other ∷ texts) =
    line_feeds (ended (take most (ended before ++ text))) ∷ ends_of most (take most (ended before ++ text)) (other ∷ texts)
