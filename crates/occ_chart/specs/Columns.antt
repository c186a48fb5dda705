-- Which columns a chart has: one for each that takes part.
-- Manual: nothing; this is (own).
use Rattle.std.specs.Prelude.{Bool, List, [], false, if◌then◌else◌, nat_eq, nat_lt, slice_get, true, ℕ, ⊤, ◌&&◌, ◌+◌, ◌||◌, ◌∷◌, ◌≡◌, ◌⊎◌, ◌↔◌, Vec}
use Rattle.std.specs.Option.{option_map_or}
use Rattle.occ_term.specs.declared.communication.End.{End}
use Rattle.occ_term.specs.declared.communication.End.TheVariants.{Process as OfProcess, Keyboard, Screen, Error}
use Rattle.occ_term.specs.Runs.{Entry}

-- a process that stands where a run has come to, and in which words
pub record Footing : Type 0 where
  pub process : ℕ
  pub words : List ℕ

abbrev pub footing : ℕ → List ℕ → Footing
footing n words = record { process = n; words = words }

-- ---- who takes part

-- who stands there takes part
abbrev pub HasFooting : List Footing → End → Type 0
HasFooting [] x = ⊥
HasFooting (s ∷ ss) x = (OfProcess s.process ≡ x) ⊎ HasFooting ss x

-- and who sends or receives
abbrev pub HasColumn : List Entry → List Footing → End → Type 0
HasColumn [] ss x = HasFooting ss x
HasColumn (e ∷ es) ss x = (e.sender ≡ x) ⊎ (e.receiver ≡ x) ⊎ HasColumn es ss x

-- ---- in which order

-- first the keyboard, then the processes, then the screen, then the error channel
abbrev pub group : End → ℕ
group Keyboard = 0
group (OfProcess n) = 1
group Screen = 2
group Error = 3

-- the number of a process
abbrev pub number : End → ℕ
number Keyboard = 0
number (OfProcess n) = n
number Screen = 0
number Error = 0

abbrev pub is_end : End → End → Bool
is_end x y = nat_eq (group x) (group y) && nat_eq (number x) (number y)

abbrev pub is_before : End → End → Bool
is_before x y = nat_lt (group x) (group y) || (nat_eq (group x) (group y) && nat_lt (number x) (number y))

abbrev pub IsBeforeAll : End → List End → Type 0
IsBeforeAll x [] = ⊤
IsBeforeAll x (y ∷ ys) = (is_before x y ≡ true) × IsBeforeAll x ys

abbrev pub AreInOrder : List End → Type 0
AreInOrder [] = ⊤
AreInOrder (x ∷ xs) = IsBeforeAll x xs × AreInOrder xs

abbrev pub IsListedIn : End → List End → Type 0
IsListedIn x [] = ⊥
IsListedIn x (y ∷ ys) = (y ≡ x) ⊎ IsListedIn x ys

-- just those that take part, each once, in order
pub record AreColumns (es : List Entry) (ss : List Footing) (columns : List End) : Type 0 where
  pub ordered : AreInOrder columns
  pub all : (x : End) → IsListedIn x columns ↔ HasColumn es ss x

-- the place of the first that is it; where none is, their number
abbrev pub column_of : End → List End → ℕ
column_of x [] = 0
column_of x (y ∷ ys) = if is_end x y then 0 else column_of x ys + 1

-- ---- what the code does; private contracts alone cite it

-- before how many it does not stand
abbrev pub place_for : End → List End → ℕ
place_for x [] = 0
place_for x (y ∷ ys) = if is_before y x then place_for x ys + 1 else 0

-- it stands at this place
abbrev pub is_column : End → List End → ℕ → Bool
is_column x ys n = option_map_or (λ y. is_end y x) (slice_get ys n) false

-- among them, in its place
abbrev pub with_end : End → List End → List End
with_end x [] = x ∷ []
with_end x (y ∷ ys) = if is_before y x then y ∷ with_end x ys else if is_end y x then y ∷ ys else x ∷ y ∷ ys

abbrev pub with_ends : List End → List Entry → List End
with_ends xs [] = xs
with_ends xs (e ∷ es) = with_ends (with_end e.receiver (with_end e.sender xs)) es

abbrev pub with_standing : List End → List Footing → List End
with_standing xs [] = xs
with_standing xs (s ∷ ss) = with_standing (with_end (OfProcess s.process) xs) ss

abbrev pub AddsEnd : {A : Type 0} → (old new : Vec End A) → End → Type 0
AddsEnd old new x = new.items ≡ with_end x old.items

abbrev pub AddsEnds : {A : Type 0} → (old new : Vec End A) → List Entry → Type 0
AddsEnds old new es = new.items ≡ with_ends old.items es

abbrev pub AddsFootings : {A : Type 0} → (old new : Vec End A) → List Footing → Type 0
AddsFootings old new ss = new.items ≡ with_standing old.items ss
