-- Choices by the places that they select.
-- Manual: nothing; this is (own).
use Rattle.std.specs.Prelude.{List, None, [], length, ℕ, ◌%◌, ◌++◌, ◌∷◌, ◌≡◌}
use Rattle.occ_machine.specs.Compiled.{Program}
use Rattle.occ_net_replay.specs.declared.choice.Choice.{Choice}
use Rattle.occ_net_replay.specs.Replay.{Net, OneTurn, Replays, ending_of, first_net, ready_from}
use Rattle.occ_net_tables.specs.declared.running.Keep.{Keep}
use Rattle.occ_net_tables.specs.declared.running.Keep.TheVariants.{Given, Places}

-- the choice of the same process by its place among these ready ones
abbrev pub placed_among : List ℕ → Choice → Choice
placed_among ready c = record c { which = c.which % length ready }

-- a replay by choices, with the places among the ready processes that they select
pub data Placed (p : Program) (keyboard : List ℕ) : List Choice → List Choice → Net → Type 0 where
  none_placed : Placed p keyboard [] [] (first_net p keyboard)
  one_placed : {cs ds : List Choice} {c : Choice} {a b : Net}
      → Placed p keyboard cs ds a → ending_of p.errors a ≡ None → OneTurn p c a b → Placed p keyboard (cs ++ c ∷ []) (ds ++ placed_among (ready_from 0 a.tasks) c ∷ []) b

-- For each replay there are such places. A replay by any such places comes to the same state.
abbrev pub PlacesForNumbers : Type 0
PlacesForNumbers =
    (p : Program) (keyboard : List ℕ) (cs : List Choice) (net : Net)
    → (Replays p keyboard cs net → (ds : List Choice) × Placed p keyboard cs ds net)
    × ((ds : List Choice) → Placed p keyboard cs ds net → Replays p keyboard ds net)

-- what is kept of a choice among these ready processes
abbrev pub kept_by : Keep → List ℕ → Choice → Choice
kept_by Given ready c = c
kept_by Places ready c = placed_among ready c

-- what is kept of the choices that were given, where these are their places
abbrev pub all_kept : Keep → List Choice → List Choice → List Choice
all_kept Given given places = given
all_kept Places given places = places

-- where the first is the place of the given choice among some ready processes, the second is what is kept of it
abbrev pub IsKeptBy : Keep → Choice → (placed kept : Choice) → Type 0
IsKeptBy keep choice placed kept = (ready : List ℕ) → placed ≡ placed_among ready choice → kept ≡ kept_by keep ready choice
