-- How a file's name is printed.
-- Manual: nothing; this is (own).
use Rattle.std.specs.Prelude.{Bool, List, [], if◌then◌else◌, nat_lt, ℕ, ◌%◌, ◌&&◌, ◌+◌, ◌++◌, ◌/◌, ◌==◌, ◌||◌, ◌∷◌}

-- the second byte of a character from U+0080 to U+009F, of which 194 is the first
abbrev pub ends_control : ℕ → Bool
ends_control b = nat_lt 127 b && nat_lt b 160

-- whether a byte would move a terminal, where it stands between these two: one below 32, 127, and each byte of such a character
abbrev pub moves : (before b after : ℕ) → Bool
moves before b after = nat_lt b 32 || b == 127 || (b == 194 && ends_control after) || (before == 194 && ends_control b)

-- a hexadecimal digit
abbrev pub digit : ℕ → ℕ
digit d = if nat_lt d 10 then 48 + d else 87 + d

-- in place of such a byte stand `\x` and its two digits
abbrev pub byte_text : (before b after : ℕ) → List ℕ
byte_text before b after = if moves before b after then 92 ∷ 120 ∷ digit (b / 16) ∷ digit (b % 16) ∷ [] else b ∷ []

-- the first byte, and 0 where there is none
abbrev pub first_byte : List ℕ → ℕ
first_byte [] = 0
first_byte (b ∷ bs) = b

-- the rest of a name, behind this byte
abbrev pub printed_behind : ℕ → List ℕ → List ℕ
printed_behind before [] = []
printed_behind before (b ∷ bs) = byte_text before b (first_byte bs) ++ printed_behind b bs

abbrev pub printed_name : List ℕ → List ℕ
printed_name bytes = printed_behind 0 bytes
