-- Files of choices: a line for each choice.
-- Manual: nothing; the format is (own).
use Rattle.std.specs.Prelude.{List, [], if◌then◌else◌, length, nat_eq, ℕ, ⊤, ◌+◌, ◌++◌, ◌<◌, ◌≤◌, ◌^◌, ◌∷◌, ◌≡◌}
use Rattle.std.specs.Fmt.{decimal}
use Rattle.std.specs.Str.Parse.{IsNumeral, digits_value}
use Rattle.occ_net_replay.specs.declared.choice.Choice.{Choice}
use Rattle.occ_choices.specs.declared.fault.ChoiceFault.{ChoiceFault}
use Rattle.occ_choices.specs.declared.fault.ChoiceFault.TheVariants.{BadChoice, TooMany, Memory}

-- one to ten decimal digits that stand for a number of 32 bits
pub record SpellsNumber (digits : List ℕ) (n : ℕ) : Type 0 where
  pub numeral : IsNumeral 10 digits
  pub short : length digits ≤ 10
  pub value : digits_value 10 digits ≡ n
  pub word : n < 2 ^ 32

-- A line feed ends a line, with a carriage return before it or without. The last line may have no end.
pub data IsEnd : List ℕ → Type 0 where
  no_end : IsEnd []
  line_feed : IsEnd (10 ∷ [])
  return_and_line_feed : IsEnd (13 ∷ 10 ∷ [])

-- two numbers with one space between them
pub record IsLine (text : List ℕ) (c : Choice) : Type 0 where
  pub which : List ℕ
  pub pick : List ℕ
  pub end : List ℕ
  pub is : text ≡ which ++ 32 ∷ (pick ++ end)
  pub first : SpellsNumber which c.which
  pub second : SpellsNumber pick c.pick
  pub ends : IsEnd end

-- a text, cut behind each line feed
abbrev pub before_all : ℕ → List (List ℕ) → List (List ℕ)
before_all b [] = (b ∷ []) ∷ []
before_all b (line ∷ lines) = (b ∷ line) ∷ lines

abbrev pub lines_of : List ℕ → List (List ℕ)
lines_of [] = []
lines_of (b ∷ bs) = if nat_eq b 10 then (b ∷ []) ∷ lines_of bs else before_all b (lines_of bs)

abbrev pub AreLines : List (List ℕ) → List Choice → Type 0
AreLines [] [] = ⊤
AreLines [] (c ∷ cs) = ⊥
AreLines (line ∷ lines) [] = ⊥
AreLines (line ∷ lines) (c ∷ cs) = IsLine line c × AreLines lines cs

-- the choices of a text, line by line
abbrev pub ChoiceLines : List ℕ → List Choice → Type 0
ChoiceLines text cs = AreLines (lines_of text) cs

-- how many choices a file may have
abbrev pub most_choices : ℕ
most_choices = 10000000

abbrev pub Limit : Type 0
Limit = most_choices ≡ 10000000

-- the line with that number, from 1, is none, and each before it is a choice
pub record IsBad (text : List ℕ) (number : ℕ) : Type 0 where
  pub before : List (List ℕ)
  pub line : List ℕ
  pub behind : List (List ℕ)
  pub choices : List Choice
  pub cut : lines_of text ≡ before ++ line ∷ behind
  pub counted : number ≡ length before + 1
  pub read : AreLines before choices
  pub none : (c : Choice) → IsLine line c → ⊥

abbrev pub RefusesLines : List ℕ → ChoiceFault → Type 0
RefusesLines text (BadChoice number) = IsBad text number
RefusesLines text TooMany = most_choices < length (lines_of text)
RefusesLines text Memory = ⊤

-- ---- what is written

abbrev pub choice_line : Choice → List ℕ
choice_line c = decimal c.which ++ 32 ∷ (decimal c.pick ++ 10 ∷ [])

abbrev pub choice_text : List Choice → List ℕ
choice_text [] = []
choice_text (c ∷ cs) = choice_line c ++ choice_text cs

-- numbers of 32 bits
abbrev pub AreWords : List Choice → Type 0
AreWords [] = ⊤
AreWords (c ∷ cs) = (c.which < 2 ^ 32) × (c.pick < 2 ^ 32) × AreWords cs

-- What is written is read again, and a text has one list of choices at most.
abbrev pub WrittenIsRead : Type 0
WrittenIsRead = (cs : List Choice) → AreWords cs → ChoiceLines (choice_text cs) cs

abbrev pub OneReading : Type 0
OneReading = (text : List ℕ) (cs ds : List Choice) → ChoiceLines text cs → ChoiceLines text ds → cs ≡ ds
