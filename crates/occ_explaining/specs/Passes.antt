-- Passes through calls; private contracts alone cite this.
-- Manual: nothing; this is (own).
use Rattle.std.specs.Prelude.{Bool, List, Option, length, map, true, ◌≡◌, ◌≤◌, ◌⊎◌}
use Rattle.std.specs.Borrow.{Bor}
use Rattle.occ_explaining.specs.Calls.{Called, named, call_pair}
use Rattle.occ_explaining.specs.Reach.{HasMain, IsReach, KeepsCalls, among}
use Rattle.occ_explaining.specs.declared.calls.Call.{Call}

-- each of these names is in a set
abbrev pub AreWithin : List Called → (Called → Bool) → Type 0
AreWithin names set = (f : Called) → among names f ≡ true → set f ≡ true

abbrev pub AreClosed : (Called → Bool) → List Call → Type 0
AreClosed set calls = KeepsCalls set (map call_pair calls)

-- one name more
abbrev pub AddsName : (old new : List Called) → Called → Type 0
AddsName old new name =
    (among new name ≡ true)
    × ((f : Called) → among old f ≡ true → among new f ≡ true)
    × ((f : Called) → among new f ≡ true → (among old f ≡ true) ⊎ (f ≡ name))

-- the names that calls reach
abbrev pub Reaches : Option (Bor Called) → List Call → List Called → Type 0
Reaches main calls names = IsReach (named main) (map call_pair calls) (among names)

-- the main PROC alone
pub record Begins (main : Option Called) (names : List Called) : Type 0 where
  pub has : HasMain main (among names)
  pub only : (set : Called → Bool) → HasMain main set → AreWithin names set

-- What a pass makes of the names that are reached, and the calls that it leaves: a set of those names that is closed under the
-- calls that are left is closed under all; and where as many are left, the names are closed under them.
pub record IsPass (calls : List Call) (old new : List Called) (others : List Call) : Type 0 where
  pub grows : (f : Called) → among old f ≡ true → among new f ≡ true
  pub closes : (set : Called → Bool) → AreWithin new set → AreClosed set others → AreClosed set calls
  pub least : (set : Called → Bool) → AreWithin old set → AreClosed set calls → AreWithin new set
  pub part : (set : Called → Bool) → AreClosed set calls → AreClosed set others
  pub few : length others ≤ length calls
  pub same : length others ≡ length calls → AreClosed (among new) others
