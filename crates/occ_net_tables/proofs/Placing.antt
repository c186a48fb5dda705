-- A replay by choices, and by the places that they select.
use Rattle.std.proofs.Common.{◌≡◌, ◌∙◌, refl, sym, ap, subst, ℕ, List, [], ◌∷◌, ◌++◌, length, arith, length-append}
use Rattle.std.specs.Prelude.{slice_get}
use Rattle.std.proofs.Math.Nat.{mod-mod}
use Rattle.occ_machine.specs.Compiled.{Program}
use Rattle.occ_net_replay.specs.declared.choice.Choice.{Choice}
use Rattle.occ_net_replay.specs.Replay.{Net, OneTurn, Replays, begins, goes_on, ready_from}
use Rattle.occ_net_tables.specs.declared.tables.Tables.{Tables}
use Rattle.occ_net_tables.specs.Settling.{TurnsTo}
use Rattle.occ_net_tables.specs.Places.{Placed, none_placed, one_placed, placed_among, PlacesForNumbers}

-- a place selects itself
pub placed_again : (ready : List ℕ) (c : Choice) → placed_among ready (placed_among ready c) ≡ placed_among ready c
placed_again ready c = ap (λ (k : ℕ). record c { which = k }) (mod-mod c.which (length ready))

turn_by_place : (p : Program) (c : Choice) (a b : Net) → OneTurn p c a b → OneTurn p (placed_among (ready_from 0 a.tasks) c) a b
turn_by_place p c a b o =
    record {
      number = o.number;
      body = o.body;
      before = o.before;
      after = o.after;
      selects = ap (slice_get (ready_from 0 a.tasks)) (mod-mod c.which (length (ready_from 0 a.tasks))) ∙ o.selects;
      has_body = o.has_body;
      has_task = o.has_task;
      stops = o.stops;
      settles = o.settles;
    }

turn_by_number : (p : Program) (c : Choice) (a b : Net) → OneTurn p (placed_among (ready_from 0 a.tasks) c) a b → OneTurn p c a b
turn_by_number p c a b o =
    record {
      number = o.number;
      body = o.body;
      before = o.before;
      after = o.after;
      selects = ap (slice_get (ready_from 0 a.tasks)) (sym (mod-mod c.which (length (ready_from 0 a.tasks)))) ∙ o.selects;
      has_body = o.has_body;
      has_task = o.has_task;
      stops = o.stops;
      settles = o.settles;
    }

pub turns_by_number : (p : Program) (kb : List ℕ) (c placed : Choice) (net : Net) (new : Tables) → placed ≡ placed_among (ready_from 0 net.tasks) c → TurnsTo p kb placed net new → TurnsTo p kb c net new
turns_by_number p kb c placed net new e x = record { next = x.next; turn = turn_by_number p c net x.next (subst (λ d. OneTurn p d net x.next) e x.turn); holds = x.holds }

module _ (p : Program) (kb : List ℕ) where
  pub placed_replays : {cs ds : List Choice} {net : Net} → Placed p kb cs ds net → Replays p kb cs net
  placed_replays none_placed = begins
  placed_replays (one_placed h e o) = goes_on (placed_replays h) e o

  pub places_replay : {cs ds : List Choice} {net : Net} → Placed p kb cs ds net → Replays p kb ds net
  places_replay none_placed = begins
  places_replay (one_placed {c = c} {a = a} {b = b} h e o) = goes_on (places_replay h) e (turn_by_place p c a b o)

  pub places_placed : {cs ds : List Choice} {net : Net} → Placed p kb cs ds net → Placed p kb ds ds net
  places_placed none_placed = none_placed
  places_placed (one_placed {ds = ds} {c = c} {a = a} {b = b} h e o) =
      let own : Choice = placed_among (ready_from 0 a.tasks) c in
      subst (λ (d : Choice). Placed p kb (ds ++ own ∷ []) (ds ++ d ∷ []) b) (placed_again (ready_from 0 a.tasks) c) (one_placed (places_placed h) e (turn_by_place p c a b o))

  pub has_places : {cs : List Choice} {net : Net} → Replays p kb cs net → (ds : List Choice) × Placed p kb cs ds net
  has_places begins = ([], none_placed)
  has_places (goes_on {c = c} {a = a} r e o) = let h = has_places r in (h.0 ++ placed_among (ready_from 0 a.tasks) c ∷ [], one_placed h.1 e o)

  pub placed_length : {cs ds : List Choice} {net : Net} → Placed p kb cs ds net → length cs ≡ length ds
  placed_length none_placed = refl
  placed_length (one_placed {cs = cs} {ds = ds} {c = c} {a = a} h e o) =
      let less = placed_length h in
      omega (arith, less, length-append cs (c ∷ []), length-append ds (placed_among (ready_from 0 a.tasks) c ∷ []))

pub places_for_numbers : PlacesForNumbers
places_for_numbers p kb cs net = (λ r. has_places p kb r, λ ds h. places_replay p kb h)
