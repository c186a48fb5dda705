-- The lines of a source, and the names that stand in them.
-- Manual: the characters of a name.
use Rattle.std.specs.Prelude.{Bool, List, None, Option, Some, [], bytes_eq, codes, false, if◌then◌else◌, length, map, nat_eq, nat_lt, suc, zero, ℕ, ◌&&◌, ◌++◌, ◌-◌, ◌||◌, ◌∷◌}
use Rattle.std.specs.Str.Lines.{lines}
use Rattle.occ_term.specs.Runs.{Names}
use Rattle.occ_text.specs.Spelling.{is_name_part}
use Rattle.occ_report.specs.declared.stop.Stop.{Stop}

-- the line of this number, from 1, of those of a source; no byte where there is none
abbrev pub nth_line : List (List ℕ) → ℕ → List ℕ
nth_line [] n = []
nth_line (l ∷ ls) zero = l
nth_line (l ∷ ls) (suc n) = nth_line ls n

abbrev pub numbered_line : (source : List ℕ) → ℕ → List ℕ
numbered_line source n = nth_line (lines source) (n - 1)

-- without the spaces that it begins with
abbrev pub unspaced : List ℕ → List ℕ
unspaced [] = []
unspaced (b ∷ bs) = if nat_eq b 32 then unspaced bs else b ∷ bs

-- the name with which some bytes begin
abbrev pub name_in_front : List ℕ → List ℕ
name_in_front [] = []
name_in_front (b ∷ bs) = if is_name_part b then b ∷ name_in_front bs else []

-- the name with which the line of a stop begins, where that is known: for an output or an input that of its channel
abbrev pub written_at : (source : List ℕ) → Option Stop → List ℕ
written_at source None = []
written_at source (Some s) = name_in_front (unspaced (numbered_line source s.line))

-- whether a quote or a comment begins with a byte, before these
abbrev pub begins_with_dash : List ℕ → Bool
begins_with_dash [] = false
begins_with_dash (b ∷ bs) = nat_eq b 45

abbrev pub hides : ℕ → List ℕ → Bool
hides b bs = nat_eq b 34 || nat_eq b 39 || (nat_eq b 45 && begins_with_dash bs)

-- Of the line of an arm what stands behind the ampersand of its guard, or all of it where the question mark comes first; nothing where
-- a quote or a comment comes before both, or neither is there.
abbrev pub behind_guard : (all : List ℕ) → List ℕ → List ℕ
behind_guard all [] = []
behind_guard all (b ∷ bs) = if nat_eq b 38 then bs else (if nat_eq b 63 then all else (if hides b bs then [] else behind_guard all bs))

-- the name of the channel from which an arm inputs, as its line has it
abbrev pub written_in_arm : (source : List ℕ) → Option Stop → List ℕ
written_in_arm source None = []
written_in_arm source (Some s) = name_in_front (unspaced (behind_guard (numbered_line source s.line) (numbered_line source s.line)))

-- a channel's name; where another one is written, as that of a formal, that and what it stands for
abbrev pub is_its_own : (written name : List ℕ) → Bool
is_its_own written name = nat_eq (length written) 0 || bytes_eq written (name_in_front name)

abbrev pub called_text : (written name : List ℕ) → List ℕ
called_text written name = if is_its_own written name then name else written ++ codes " (" ++ name ++ codes ")"

abbrev pub channel_told : Names → (written : List ℕ) → ℕ → List ℕ
channel_told names written c = called_text written (names.channel_name c)

-- a question mark in the place of each byte that would move a terminal or is no ASCII
abbrev pub plain_byte : ℕ → ℕ
plain_byte b = if nat_lt b 32 || nat_lt 126 b then 63 else b

abbrev pub plain_text : List ℕ → List ℕ
plain_text bytes = map plain_byte bytes
