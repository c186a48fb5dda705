-- The words of a chart.
-- Manual: nothing; this is (own).
use Rattle.std.specs.Prelude.{Bool, List, None, Option, Some, [], codes, if◌then◌else◌, int_le, length, nat_abs, pos, slice_get, ℕ, ℤ, ◌&&◌, ◌++◌, ◌∷◌, Vec, map}
use Rattle.std.specs.Fmt.{decimal, signed_decimal}
use Rattle.occ_term.specs.declared.primitive.Primitive.TheVariants.{Bool as Boolean, Byte, Int}
use Rattle.occ_term.specs.declared.message.Part.{Part}
use Rattle.occ_term.specs.declared.message.Part.TheVariants.{One, Many, Counted}
use Rattle.occ_term.specs.declared.communication.End.{End}
use Rattle.occ_term.specs.declared.communication.End.TheVariants.{Process as OfProcess, Keyboard, Screen, Error}
use Rattle.occ_term.specs.Runs.{Entry, Names, tag_shown}
use Rattle.occ_machine.specs.declared.task.Wait.{Wait}
use Rattle.occ_machine.specs.declared.task.Wait.TheVariants.{Ready, Took, Offers, Awaits, Chooses, Joins, Halted, Done, Faulted}
use Rattle.occ_term.specs.declared.ending.Ending.TheVariants.{Fault}
use Rattle.occ_term.specs.Endings.{ending_text}
use Rattle.occ_shown.specs.Answers.{array_text, name_or_none, value_text, names_of}
use Rattle.occ_term.specs.declared.names.Channel.{Channel}
use Rattle.occ_term.specs.declared.message.Message.{Message}

-- ---- messages: as in a line of the trace, but for single bytes

abbrev pub is_printed : ℤ → Bool
is_printed v = int_le (pos 32) v && int_le v (pos 126)

-- the character behind the number, where it is printed ASCII
abbrev pub byte_shown : ℤ → List ℕ
byte_shown v = signed_decimal v ++ (if is_printed v then 32 ∷ 39 ∷ nat_abs v ∷ 39 ∷ [] else [])

abbrev pub item_text : Part → List ℕ
item_text (One Byte v) = byte_shown v
item_text (One Boolean v) = value_text Boolean v
item_text (One Int v) = value_text Int v
item_text (Many type vs) = array_text type vs
item_text (Counted type vs) = decimal (length vs) ++ codes "::" ++ array_text type vs

-- each after a semicolon and a space
abbrev pub others_text : List Part → List ℕ
others_text [] = []
others_text (p ∷ ps) = codes "; " ++ item_text p ++ others_text ps

-- a tag's name is the first item
abbrev pub message_text : Option (List ℕ) → List Part → List ℕ
message_text None [] = []
message_text None (p ∷ ps) = item_text p ++ others_text ps
message_text (Some name) ps = name ++ others_text ps

-- over an arrow: the channel's name and the message
abbrev pub arrow_words : Entry → List ℕ
arrow_words e = e.name ++ 32 ∷ message_text e.tag e.message.items

-- and before them its number in the trace
abbrev pub numbered_words : Entry → List ℕ
numbered_words e = decimal e.number ++ codes ": " ++ arrow_words e

-- ---- heads

-- the name that a process has
abbrev pub end_name : List (List ℕ) → End → List ℕ
end_name names (OfProcess n) = name_or_none (slice_get names n)
end_name names Keyboard = []
end_name names Screen = []
end_name names Error = []

-- ---- who stands at the foot

-- what a process waits for, or why it never goes on; none for one that can go on, that waits for its branches, or is done
abbrev pub foot_words : Names → Wait → Option (List ℕ)
foot_words names Ready = None
foot_words names (Took arm indices m) = None
foot_words names (Offers c m) = Some (names.channel_name c ++ codes " ! " ++ message_text (tag_shown names c m.tag) m.items ++ codes " waits")
foot_words names (Awaits c) = Some (names.channel_name c ++ codes " ? waits")
foot_words names (Chooses pri arms) = Some (codes "ALT waits")
foot_words names (Joins ns) = None
foot_words names Halted = Some (codes "halted")
foot_words names Done = None
foot_words names (Faulted e) = Some (ending_text (Fault e))

-- ---- of what code has

abbrev pub texts_of : {A : Type 0} → List (Vec ℕ A) → List (List ℕ)
texts_of vs = map (λ v. v.items) vs

-- a message on a channel, by the declared names
abbrev pub message_on : List Channel → ℕ → Message → List ℕ
message_on cs c m = message_text (tag_shown (names_of cs) c m.tag) m.items

abbrev pub offer_words : List Channel → ℕ → Message → List ℕ
offer_words cs c m = (names_of cs).channel_name c ++ codes " ! " ++ message_text (tag_shown (names_of cs) c m.tag) m.items ++ codes " waits"

abbrev pub await_words : List Channel → ℕ → List ℕ
await_words cs c = (names_of cs).channel_name c ++ codes " ? waits"
