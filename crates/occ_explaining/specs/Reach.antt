-- Which PROCs of a source the last one never reaches by calls. PROCs of one name count as one.
-- Manual: procedures; scope. That what is never called is not looked at: (own).
use Rattle.std.specs.Prelude.{Bool, List, None, Option, Some, [], bytes_eq, if◌then◌else◌, map, true, ℕ, ⊤, ◌++◌, ◌==◌, ◌∷◌, ◌≡◌}
use Rattle.std.specs.Borrow.{Bor}
use Rattle.std.specs.List.{list_any}
use Rattle.occ_text.specs.Reading.{or_else}
use Rattle.occ_text.specs.Words.{LogicalLine, logical_line}
use Rattle.occ_explaining.specs.Calls.{Called, calls_in, named, proc_begun}
use Rattle.occ_explaining.specs.declared.unchecked.Unchecked.{Unchecked}

-- the last PROC at the left margin
abbrev pub top_of : LogicalLine → Option Called
top_of (logical_line n level ws) = if level == 0 then proc_begun ws else None

abbrev pub last_proc : List LogicalLine → Option Called
last_proc [] = None
last_proc (l ∷ ls) = or_else (last_proc ls) (top_of l)

-- a set has the main PROC, where there is one
abbrev pub HasMain : Option Called → (Called → Bool) → Type 0
HasMain main set = (f : Called) → main ≡ Some f → set f ≡ true

-- with a PROC it has those that it calls
abbrev pub KeepsCalls : (Called → Bool) → List (Called × Called) → Type 0
KeepsCalls set [] = ⊤
KeepsCalls set (call ∷ calls) = (set call.0 ≡ true → set call.1 ≡ true) × KeepsCalls set calls

-- The PROCs that calls reach: the least set that has the main PROC and with a PROC those that it calls.
pub record IsReach (main : Option Called) (calls : List (Called × Called)) (set : Called → Bool) : Type 0 where
  pub begins : HasMain main set
  pub closed : KeepsCalls set calls
  pub least : (other : Called → Bool) → HasMain main other → KeepsCalls other calls → (f : Called) → set f ≡ true → other f ≡ true

-- the first line of a PROC: its number, its level and the name
pub record FirstLine : Type 0 where
  pub line : ℕ
  pub level : ℕ
  pub name : Called

-- where the name is not in a set
abbrev pub first_beyond : (Called → Bool) → (n l : ℕ) → Option Called → List FirstLine
first_beyond set n l None = []
first_beyond set n l (Some f) = if set f then [] else record { line = n; level = l; name = f } ∷ []

abbrev pub head_beyond : (Called → Bool) → LogicalLine → List FirstLine
head_beyond set (logical_line n l ws) = first_beyond set n l (proc_begun ws)

abbrev pub heads_beyond : (Called → Bool) → List LogicalLine → List FirstLine
heads_beyond set [] = []
heads_beyond set (l ∷ ls) = head_beyond set l ++ heads_beyond set ls

-- those of the PROCs that are not reached
pub record AreUnreached (lines : List LogicalLine) (heads : List FirstLine) : Type 0 where
  pub reached : Called → Bool
  pub reach : IsReach (last_proc lines) (calls_in lines) reached
  pub are : heads ≡ heads_beyond reached lines

-- ---- as the code has them

abbrev pub top_or : LogicalLine → Option (Bor Called) → Option Called
top_or l other = or_else (top_of l) (named other)

abbrev pub unchecked_head : Unchecked → FirstLine
unchecked_head u = record { line = u.line; level = u.level; name = u.name.now }

-- whether a name is one of these
abbrev pub among : List Called → Called → Bool
among names f = list_any (bytes_eq f) names

-- the first lines of these PROCs are found, behind others
abbrev pub FindsBehind : (names : List Called) → List LogicalLine → (old new : List Unchecked) → Type 0
FindsBehind names lines old new = map unchecked_head new ≡ map unchecked_head old ++ heads_beyond (among names) lines
