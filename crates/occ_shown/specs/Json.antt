-- The communications of a run as lines of JSON: an object for each, and one for the ending.
-- Manual: nothing; this is (own).
use Rattle.std.specs.Prelude.{List, None, Option, Some, [], codes, if◌then◌else◌, int_le, nat_lt, pos, ℕ, ℤ, ◌&&◌, ◌++◌, ◌==◌, ◌∷◌}
use Rattle.std.specs.Fmt.{decimal, signed_decimal}
use Rattle.occ_term.specs.declared.primitive.Primitive.{Primitive}
use Rattle.occ_term.specs.declared.primitive.Primitive.TheVariants.{Bool as Boolean, Byte, Int}
use Rattle.occ_term.specs.declared.message.Message.{Message}
use Rattle.occ_term.specs.declared.message.Part.{Part}
use Rattle.occ_term.specs.declared.message.Part.TheVariants.{One, Many, Counted}
use Rattle.occ_term.specs.Runs.{Entry, tag_shown}
use Rattle.occ_term.specs.declared.ending.Ending.{Ending}
use Rattle.occ_term.specs.declared.names.Channel.{Channel}
use Rattle.occ_term.specs.Endings.{ending_text}
use Rattle.occ_shown.specs.Answers.{end_text, names_of}

-- ---- names

-- a quote and a backslash stand behind a backslash, and what is no printed ASCII is a question mark
abbrev pub escaped_byte : ℕ → List ℕ
escaped_byte b =
    if b == 34 then codes "\\\"" else
    if b == 92 then codes "\\\\" else
    if nat_lt 31 b && nat_lt b 127 then b ∷ [] else 63 ∷ []

abbrev pub escaped : List ℕ → List ℕ
escaped [] = []
escaped (b ∷ bs) = escaped_byte b ++ escaped bs

-- between quotes
abbrev pub quoted : List ℕ → List ℕ
quoted bs = 34 ∷ escaped bs ++ 34 ∷ []

-- the name of a tag, where there is one
abbrev pub tag_json : Option (List ℕ) → List ℕ
tag_json None = codes "null"
tag_json (Some name) = quoted name

-- ---- messages

abbrev pub value_json : Primitive → ℤ → List ℕ
value_json Boolean v = if int_le (pos 1) v then codes "true" else codes "false"
value_json Byte v = signed_decimal v
value_json Int v = signed_decimal v

-- each behind a comma
abbrev pub more_values : Primitive → List ℤ → List ℕ
more_values type [] = []
more_values type (v ∷ vs) = 44 ∷ value_json type v ++ more_values type vs

abbrev pub values_json : Primitive → List ℤ → List ℕ
values_json type [] = []
values_json type (v ∷ vs) = value_json type v ++ more_values type vs

abbrev pub array_json : Primitive → List ℤ → List ℕ
array_json type vs = 91 ∷ values_json type vs ++ 93 ∷ []

-- a counted array is an array as any other
abbrev pub part_json : Part → List ℕ
part_json (One type v) = value_json type v
part_json (Many type vs) = array_json type vs
part_json (Counted type vs) = array_json type vs

abbrev pub more_parts : List Part → List ℕ
more_parts [] = []
more_parts (p ∷ ps) = 44 ∷ part_json p ++ more_parts ps

abbrev pub parts_json : List Part → List ℕ
parts_json [] = []
parts_json (p ∷ ps) = part_json p ++ more_parts ps

-- ---- lines

-- the communication's number, its channel's number and name
unfoldable pub head_json : (number channel : ℕ) → (name : List ℕ) → List ℕ
head_json number channel name = codes "{\"number\":" ++ decimal number ++ codes ",\"channel\":" ++ decimal channel ++ codes ",\"name\":" ++ quoted name

-- who sent it and who received it
unfoldable pub ends_json : (sender receiver : List ℕ) → List ℕ
ends_json sender receiver = codes ",\"sender\":" ++ quoted sender ++ codes ",\"receiver\":" ++ quoted receiver

-- the tag and the items
unfoldable pub message_json : Option (List ℕ) → List Part → List ℕ
message_json tag ps = codes ",\"tag\":" ++ tag_json tag ++ codes ",\"message\":[" ++ parts_json ps ++ codes "]}\n"

abbrev pub line_json : Entry → List ℕ
line_json e = head_json e.number e.channel e.name ++ ends_json (end_text e.sender) (end_text e.receiver) ++ message_json e.tag e.message.items

abbrev pub trace_json : List Entry → List ℕ
trace_json [] = []
trace_json (e ∷ es) = line_json e ++ trace_json es

abbrev pub ending_json : Ending → List ℕ
ending_json e = codes "{\"ending\":" ++ quoted (ending_text e) ++ codes "}\n"

-- the communications, and the ending
abbrev pub json_text : List Entry → Ending → List ℕ
json_text es e = trace_json es ++ ending_json e

-- ---- by the declared names; private contracts alone cite what follows

abbrev pub named_head : List Channel → (number c : ℕ) → List ℕ
named_head cs number c = head_json number c ((names_of cs).channel_name c)

abbrev pub message_named : List Channel → ℕ → Message → List ℕ
message_named cs c m = message_json (tag_shown (names_of cs) c m.tag) m.items
