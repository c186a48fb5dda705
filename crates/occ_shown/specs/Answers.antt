-- The bytes of an answer.
-- Manual: nothing; this is (own).
use Rattle.std.specs.Prelude.{Bool, IsTrue, List, None, Option, Some, [], codes, false, if◌then◌else◌, int_le, length, map, not, pos, slice_get, true, ℕ, ℤ, ⊤, ◌≡◌, ◌&&◌, ◌++◌, ◌-◌, ◌==◌, ◌∷◌, Vec, option_map}
use Rattle.std.specs.Option.{option_map_or}
use Rattle.std.specs.Fmt.{decimal, signed_decimal}
use Rattle.occ_term.specs.declared.primitive.Primitive.{Primitive}
use Rattle.occ_term.specs.declared.primitive.Primitive.TheVariants.{Bool as Boolean, Byte, Int}
use Rattle.occ_term.specs.Messages.{is_of, message}
use Rattle.occ_term.specs.declared.message.Message.{Message}
use Rattle.occ_term.specs.declared.message.Part.{Part}
use Rattle.occ_term.specs.declared.message.Part.TheVariants.{One, Many, Counted}
use Rattle.occ_term.specs.declared.protocol.Protocol.{Protocol}
use Rattle.occ_term.specs.declared.protocol.Protocol.TheVariants.{Simple, CountedArray, Sequential, Variant}
use Rattle.occ_term.specs.declared.names.Channel.{Channel}
use Rattle.occ_term.specs.declared.communication.End.{End}
use Rattle.occ_term.specs.declared.communication.End.TheVariants.{Process as OfProcess, Keyboard, Screen, Error}
use Rattle.occ_term.specs.Runs.{Names, Entry, AllShown, entries, bytes_of, entry_of, messages_on, sent_on, shown_by, tag_shown}
use Rattle.occ_term.specs.declared.ending.Ending.{Ending}
use Rattle.occ_term.specs.declared.ending.Ending.TheVariants.{Ended, Stopped, Fault, StoppedBy, Limit}
use Rattle.occ_term.specs.declared.communication.Communication.{Communication as Made}
use Rattle.occ_term.specs.Endings.{ending_text}

-- ---- messages

-- numbers in decimal
abbrev pub value_text : Primitive → ℤ → List ℕ
value_text Boolean v = if int_le (pos 1) v then codes "TRUE" else codes "FALSE"
value_text Byte v = signed_decimal v
value_text Int v = signed_decimal v

-- each after a space
abbrev pub spaced_text : Primitive → List ℤ → List ℕ
spaced_text type [] = []
spaced_text type (v ∷ vs) = 32 ∷ value_text type v ++ spaced_text type vs

abbrev pub values_text : Primitive → List ℤ → List ℕ
values_text type [] = []
values_text type (v ∷ vs) = value_text type v ++ spaced_text type vs

abbrev pub array_text : Primitive → List ℤ → List ℕ
array_text type vs = 91 ∷ values_text type vs ++ 93 ∷ []

abbrev pub part_text : Part → List ℕ
part_text (One type v) = value_text type v
part_text (Many type vs) = array_text type vs
part_text (Counted type vs) = decimal (length vs) ++ codes "::" ++ array_text type vs

-- each after a semicolon and a space
abbrev pub later_text : List Part → List ℕ
later_text [] = []
later_text (p ∷ ps) = codes "; " ++ part_text p ++ later_text ps

-- a tag's name is the first item
abbrev pub items_text : Option (List ℕ) → List Part → List ℕ
items_text None [] = []
items_text None (p ∷ ps) = part_text p ++ later_text ps
items_text (Some name) ps = name ++ later_text ps

-- ---- trace lines

abbrev pub end_text : End → List ℕ
end_text (OfProcess n) = 112 ∷ decimal n
end_text Keyboard = codes "keyboard"
end_text Screen = codes "screen"
end_text Error = codes "error"

-- the number, `c` and the channel's number, its name
abbrev pub head_text : ℕ → ℕ → List ℕ → List ℕ
head_text number channel name = decimal number ++ codes " c" ++ decimal channel ++ 32 ∷ name

-- the two ends, between spaces
abbrev pub ends_text : End → End → List ℕ
ends_text sender receiver = 32 ∷ end_text sender ++ 62 ∷ end_text receiver ++ 32 ∷ []

abbrev pub line_text : Entry → List ℕ
line_text e = head_text e.number e.channel e.name ++ ends_text e.sender e.receiver ++ items_text e.tag e.message.items ++ 10 ∷ []

abbrev pub trace_text : List Entry → List ℕ
trace_text [] = []
trace_text (e ∷ es) = line_text e ++ trace_text es

-- ---- the answer

-- every trace line and the ending's line, or without the trace the ending's line alone, unless the run ended
abbrev pub report_text : Bool → List Entry → Ending → List ℕ
report_text true es e = trace_text es ++ ending_text e ++ 10 ∷ []
report_text false es Ended = []
report_text false es Stopped = ending_text Stopped ++ 10 ∷ []
report_text false es (Fault f) = ending_text (Fault f) ++ 10 ∷ []
report_text false es (StoppedBy f) = ending_text (StoppedBy f) ++ 10 ∷ []
report_text false es Limit = ending_text Limit ++ 10 ∷ []

-- the bytes are some, and the last is no line feed
abbrev pub ends_inside : List ℕ → Bool
ends_inside bytes = option_map_or (λ last. not (last == 10)) (slice_get bytes (length bytes - 1)) false

-- the report stands on lines of its own
abbrev pub line_break : List ℕ → List ℕ → List ℕ
line_break bytes report = if not (length report == 0) && ends_inside bytes then 10 ∷ [] else []

-- the screen's bytes, the error channel's bytes, and the report
abbrev pub answer_text : AllShown → Ending → Bool → List ℕ
answer_text s e trace = ((s.screen ++ s.error) ++ line_break (s.screen ++ s.error) (report_text trace s.trace e)) ++ report_text trace s.trace e

-- ---- names

abbrev pub name_of_channel : Option Channel → List ℕ
name_of_channel None = []
name_of_channel (Some c) = c.name

-- the numbers of processes, each after a space
abbrev pub numbers_text : List ℕ → List ℕ
numbers_text [] = []
numbers_text (n ∷ ns) = codes " p" ++ decimal n ++ numbers_text ns

abbrev pub name_or_none : Option (List ℕ) → List ℕ
name_or_none None = []
name_or_none (Some n) = n

abbrev pub tag_name_in : Option Protocol → ℕ → List ℕ
tag_name_in None t = []
tag_name_in (Some (Simple sizes type)) t = []
tag_name_in (Some (CountedArray count type)) t = []
tag_name_in (Some (Sequential ts)) t = []
tag_name_in (Some (Variant tags)) t = name_or_none (slice_get (map (λ x. x.name) tags) t)

-- the declared names
abbrev pub names_of : List Channel → Names
names_of cs = record { channel_name = λ c. name_of_channel (slice_get cs c); tag_name = λ c t. tag_name_in (slice_get (map (λ x. x.protocol) cs) c) t }

-- ---- what the code writes; private contracts alone cite it

-- a message of one byte
pub record IsByteMessage (m : Message) : Type 0 where
  pub value : ℤ
  pub is : m ≡ message None (One Byte value ∷ [])
  pub typed : IsTrue (is_of Byte value)

-- all messages on this channel are of one byte
abbrev pub AreByteMessages : ℕ → List Made → Type 0
AreByteMessages c [] = ⊤
AreByteMessages c (x ∷ xs) = (x.chan ≡ c → IsByteMessage x.message) × AreByteMessages c xs

-- a report whose trace is given, or none
abbrev pub report_of : List Channel → Option (List Made) → Ending → List ℕ
report_of cs None Ended = []
report_of cs None Stopped = ending_text Stopped ++ 10 ∷ []
report_of cs None (Fault f) = ending_text (Fault f) ++ 10 ∷ []
report_of cs None (StoppedBy f) = ending_text (StoppedBy f) ++ 10 ∷ []
report_of cs None Limit = ending_text Limit ++ 10 ∷ []
report_of cs (Some xs) e = trace_text (entries (names_of cs) 1 xs) ++ ending_text e ++ 10 ∷ []

-- ---- what is written, and of what

-- behind the bytes that stood there stands this text
abbrev pub AddsText : {A : Type 0} → (old new : Vec ℕ A) → List ℕ → Type 0
AddsText old new text = new.items ≡ old.items ++ text

abbrev pub HasBytes : {A : Type 0} → List ℕ → Vec ℕ A → Type 0
HasBytes text bytes = bytes.items ≡ text

-- these words, if any
abbrev pub HasWords : {A : Type 0} → Option (List ℕ) → Option (Vec ℕ A) → Type 0
HasWords words found = option_map (λ v. v.items) found ≡ words

-- the items of a message on a channel, by the declared names
abbrev pub items_on : List Channel → ℕ → Message → List ℕ
items_on cs c m = items_text (tag_shown (names_of cs) c m.tag) m.items

-- a communication by its channel's name and its items
abbrev pub communication_text : List Channel → Made → List ℕ
communication_text cs x = (names_of cs).channel_name x.chan ++ 32 ∷ items_on cs x.chan x.message

abbrev pub channel_head : List Channel → (number c : ℕ) → List ℕ
channel_head cs number c = head_text number c (name_of_channel (slice_get cs c))

abbrev pub entry_head : Entry → List ℕ
entry_head e = head_text e.number e.channel e.name

-- communications as they are shown: one, with its number, and all, numbered from 1 on
abbrev pub entry_at : List Channel → ℕ → Made → Entry
entry_at cs number x = entry_of (names_of cs) number x

abbrev pub entries_in : List Channel → List Made → List Entry
entries_in cs xs = entries (names_of cs) 1 xs

abbrev pub all_shown : List Channel → List Made → AllShown
all_shown cs xs = shown_by (names_of cs) xs

-- the bytes that one of them put on a channel, and all
abbrev pub bytes_sent : ℕ → Made → List ℕ
bytes_sent c x = bytes_of (sent_on c x)

abbrev pub channel_bytes : ℕ → List Made → List ℕ
channel_bytes c xs = bytes_of (messages_on c xs)

-- a report behind them, on lines of its own
abbrev pub with_report : (bytes report : List ℕ) → List ℕ
with_report bytes report = (bytes ++ line_break bytes report) ++ report
