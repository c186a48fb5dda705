-- Bytes written as a string of the language.
-- Manual: nothing; this is (own).
use Rattle.std.specs.Prelude.{List, [], codes, if◌then◌else◌, length, nat_lt, take, ℕ, ◌&&◌, ◌++◌, ◌-◌, ◌+◌, ◌/◌, ◌%◌, ◌==◌, ◌∷◌}
use Rattle.std.specs.Fmt.{decimal}

-- a hexadecimal digit
abbrev pub capital_digit : ℕ → ℕ
capital_digit d = if nat_lt d 10 then 48 + d else 55 + d

-- a byte that is no printed ASCII, or that means something in a string, by its escape
abbrev pub as_character : ℕ → List ℕ
as_character b =
    if b == 9 then codes "*t" else
    if b == 10 then codes "*n" else
    if b == 13 then codes "*c" else
    if b == 34 then codes "*\"" else
    if b == 42 then codes "**" else
    if nat_lt 31 b && nat_lt b 127 then b ∷ [] else
    42 ∷ 35 ∷ capital_digit (b / 16) ∷ capital_digit (b % 16) ∷ []

abbrev pub as_characters : List ℕ → List ℕ
as_characters [] = []
as_characters (b ∷ bs) = as_character b ++ as_characters bs

-- between quotes
abbrev pub as_string : List ℕ → List ℕ
as_string bytes = 34 ∷ as_characters bytes ++ 34 ∷ []

-- how many bytes of a string are written
abbrev pub most_letters : ℕ
most_letters = 60

-- how many there were beyond these
abbrev pub more : ℕ → List ℕ
more n = codes " and " ++ decimal n ++ codes " more"

-- all bytes, or the first ones and how many more there were
abbrev pub string_text : List ℕ → List ℕ
string_text bytes =
    if nat_lt most_letters (length bytes) then as_string (take most_letters bytes) ++ more (length bytes - most_letters) else as_string bytes
