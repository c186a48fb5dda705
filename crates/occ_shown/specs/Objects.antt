-- An object of JSON on a line, for what is told of a source.
-- Manual: nothing; this is (own).
use Rattle.std.specs.Prelude.{List, [], codes, if◌then◌else◌, map, nat_lt, ℕ, ◌++◌, ◌+◌, ◌/◌, ◌%◌, ◌==◌, ◌∷◌, ◌≡◌}
use Rattle.std.specs.Fmt.{decimal}
use Rattle.occ_shown.specs.Json.{quoted}
use Rattle.occ_shown.specs.declared.object.Value.{Value}
use Rattle.occ_shown.specs.declared.object.Value.TheVariants.{Number, Text, Exact}
use Rattle.occ_shown.specs.declared.object.Member.{Member}

-- a hexadecimal digit
abbrev pub hex_digit : ℕ → ℕ
hex_digit n = if nat_lt n 10 then 48 + n else 87 + n

-- a quote and a backslash stand behind a backslash, and a byte below 32 is `\u` and four digits
abbrev pub exact_byte : ℕ → List ℕ
exact_byte b =
    if b == 34 then codes "\\\"" else
    if b == 92 then codes "\\\\" else
    if nat_lt b 32 then codes "\\u00" ++ hex_digit (b / 16) ∷ hex_digit (b % 16) ∷ [] else b ∷ []

-- each byte of a text
abbrev pub exact : List ℕ → List ℕ
exact [] = []
exact (b ∷ bs) = exact_byte b ++ exact bs

-- what a member says: a number, a text that may be no UTF-8, or one that is
pub data Said : Type 0 where
  number : ℕ → Said
  text : List ℕ → Said
  exactly : List ℕ → Said

-- a number, or a text between quotes
abbrev pub said_json : Said → List ℕ
said_json (number n) = decimal n
said_json (text bytes) = quoted bytes
said_json (exactly bytes) = 34 ∷ exact bytes ++ 34 ∷ []

-- a name and what it says, behind a comma
unfoldable pub member_json : List ℕ × Said → List ℕ
member_json m = codes ",\"" ++ m.0 ++ codes "\":" ++ said_json m.1

abbrev pub members_json : List (List ℕ × Said) → List ℕ
members_json [] = []
members_json (m ∷ ms) = member_json m ++ members_json ms

-- the kind, and the members
unfoldable pub object_json : (kind : List ℕ) → List (List ℕ × Said) → List ℕ
object_json kind ms = codes "{\"kind\":\"" ++ kind ++ codes "\"" ++ members_json ms ++ codes "}\n"

-- ---- as the code has them

abbrev pub value_said : Value → Said
value_said (Number n) = number n
value_said (Text bytes) = text bytes.now
value_said (Exact bytes) = exactly bytes.now

abbrev pub member_of : Member → List ℕ × Said
member_of m = (m.name.now, value_said m.value)

abbrev pub AddsMembers : (old new : List ℕ) → List Member → Type 0
AddsMembers old new members = new ≡ old ++ members_json (map member_of members)
