-- Which paths of the words may be one.
-- Manual: nothing; this is (own).
use Rattle.std.specs.Prelude.{Bool, IsTrue, List, None, Option, Some, codes, ℕ, ◌≡◌, ◌≢◌, ◌⊎◌}
use Rattle.std.specs.Borrow.{Bor}

-- they do not both name one path
abbrev pub Differ : Option (Bor (List ℕ)) → Option (Bor (List ℕ)) → Type 0
Differ one other = (a b : Bor (List ℕ)) → one ≡ Some a → other ≡ Some b → a.now ≡ b.now → ⊥

-- what is written is not what is read, and each has a file of its own: the choices, the chart and the trace
abbrev pub AreTextsApart : (file choices written drawn traced : Option (Bor (List ℕ))) → Type 0
AreTextsApart file choices written drawn traced =
    Differ written file × Differ written choices × Differ drawn file × Differ drawn choices × Differ drawn written
    × Differ traced file × Differ traced choices × Differ traced written × Differ traced drawn

-- the turns
abbrev pub IsNoneOf : (turns file choices written drawn traced : Option (Bor (List ℕ))) → Type 0
IsNoneOf turns file choices written drawn traced =
    Differ turns file × Differ turns choices × Differ turns written × Differ turns drawn × Differ turns traced

-- and all four
abbrev pub AreApart : (file choices written drawn traced turns : Option (Bor (List ℕ))) → Type 0
AreApart file choices written drawn traced turns = AreTextsApart file choices written drawn traced × IsNoneOf turns file choices written drawn traced

-- a further file of the source is none of those that are written
abbrev pub IsUnwritten : (written drawn traced turns : Option (Bor (List ℕ))) → Bor (List ℕ) → Type 0
IsUnwritten written drawn traced turns path =
    Differ written (Some path) × Differ drawn (Some path) × Differ traced (Some path) × Differ turns (Some path)

-- nor is what was typed what is read
abbrev pub IsUnread : (typed file choices : Option (Bor (List ℕ))) → Type 0
IsUnread typed file choices = Differ typed file × Differ typed choices

-- and it has a file of its own
abbrev pub HasOwnFile : (typed written drawn traced turns : Option (Bor (List ℕ))) → Type 0
HasOwnFile typed written drawn traced turns = Differ typed written × Differ typed drawn × Differ typed traced × Differ typed turns

-- the page goes into no file that is read, and has one of its own
abbrev pub IsPageApart : (page file choices written drawn traced turns typed : Option (Bor (List ℕ))) → Type 0
IsPageApart page file choices written drawn traced turns typed =
    IsUnread page file choices × HasOwnFile page written drawn traced turns × Differ page typed

abbrev pub TellsPageApart : Bool → (page file choices written drawn traced turns typed : Option (Bor (List ℕ))) → Type 0
TellsPageApart told page file choices written drawn traced turns typed = IsTrue told → IsPageApart page file choices written drawn traced turns typed

-- a further file of the source is not that of what was typed, or of the page
abbrev pub IsUntyped : (typed : Option (Bor (List ℕ))) → Bor (List ℕ) → Type 0
IsUntyped typed path = Differ typed (Some path)

-- the path of the source is the one that was given, and none for a hyphen
abbrev pub IsSourcePath : Option (List ℕ) → Option (List ℕ) → Type 0
IsSourcePath given None = (given ≡ None) ⊎ (given ≡ Some (codes "-"))
IsSourcePath given (Some path) = (given ≡ Some path) × (given ≢ Some (codes "-"))
