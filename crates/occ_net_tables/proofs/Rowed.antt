-- Turns in a row of the process at a place, over tables of which its task alone is another one.
use Rattle.std.proofs.Common.{◌≡◌, ◌∙◌, refl, sym, ap, subst, IsTrue, ℕ, zero, suc, ◌+◌, ◌%◌, ◌<◌, ◌≤◌, ◌^◌, List, [], ◌∷◌, ◌++◌, Some, None, get_or, length, take, arith, length-append}
use Rattle.std.specs.Prelude.{slice_get, slice_set}
use Rattle.std.proofs.Math.Nat.{mod-eq_of_lt, mod-one}
use Rattle.std.proofs.lemmas.Option.{get_or_from_slice_get, slice_get_within}
use Rattle.occ_machine.specs.Compiled.{IsCompiled, Program}
use Rattle.occ_machine.specs.Machine.{Body, Stopping}
use Rattle.occ_machine.specs.SameStop.{ready_with}
use Rattle.occ_machine.specs.declared.task.Task.{Task}
use Rattle.occ_machine.specs.declared.task.Wait.{Wait}
use Rattle.occ_machine.specs.declared.task.Wait.TheVariants as W
use Rattle.occ_term.specs.declared.message.Part.{Part}
use Rattle.occ_proc.specs.Stretches.{CanTake, InRow, MayFollow}
use Rattle.occ_proc.specs.Turns.{IsLeftReady, standing_at}
use Rattle.occ_proc.specs.declared.turn_end.TurnEnd.{TurnEnd}
use Rattle.occ_net_replay.specs.declared.choice.Choice.{Choice}
use Rattle.occ_net_replay.specs.Following.{AreBytes}
use Rattle.occ_net_replay.specs.Replay.{HasTask, Net, Tasks, ending_of, goes_on, is_done, made_ready, may_go, ready_from}
use Rattle.occ_net_replay.proofs.Tables.{set_same, task_once}
use Rattle.occ_net_tables.specs.declared.running.Keep.{Keep}
use Rattle.occ_net_tables.specs.declared.tables.Tables.{Tables}
use Rattle.occ_net_tables.specs.Endings.{GoesOn}
use Rattle.occ_net_tables.specs.Holding.{Holds}
use Rattle.occ_net_tables.specs.Places.{Placed, all_kept, kept_by, one_placed, placed_among}
use Rattle.occ_net_tables.specs.Room.{AreSame}
use Rattle.occ_net_tables.specs.Rows.{CanRunRow, HasTakenTurn, RowTurnsTo, SettlesEnd, StandsAlone, TurnsFrom, kept_more}
use Rattle.occ_net_tables.specs.Running.{HasRun}
use Rattle.occ_net_tables.specs.Settling.{IsTurnAt, Mid, SettlesTo, Standing, TurnsTo, tables_with}
use Rattle.occ_net_tables.specs.Tasks.{Advanced}
use Rattle.occ_net_tables.proofs.Between as between
use Rattle.occ_net_tables.proofs.OneChange.{get_some, set_twice}
use Rattle.occ_net_tables.proofs.Placing.{placed_replays, turns_by_number}
use Rattle.occ_net_tables.proofs.Rerun.{one_more_kept, taken_more, taken_short}
use Rattle.occ_net_tables.proofs.Roomy.{holds_as, set_own}
use Rattle.occ_net_tables.proofs.Turned.{chosen, has_turn, mid_for, still_open, turns_to}

-- ---- one turn of them

-- tables with the same contents stand at the same place
pub standing_as : (p : Program) (kb : List ℕ) (old new : Tables) → AreSame old new → Standing p kb old → Standing p kb new
standing_as p kb old new same s = record { choices = s.choices; few = s.few; net = s.net; replays = s.replays; open_end = s.open_end; holds = holds_as old new same p kb s.net s.holds }

pub turn_as : (p : Program) (old new : Tables) (place number : ℕ) (after : Task) → AreSame old new → IsTurnAt p old place number after → IsTurnAt p new place number after
turn_as p old new place number after same t =
    record {
      body = t.body;
      before = t.before;
      at = ap (λ (l : List ℕ). slice_get l place) same.ready ∙ t.at;
      has_body = t.has_body;
      there = ap (λ (l : Tasks). slice_get l number) same.tasks ∙ t.there;
      stops = t.stops;
    }

-- a task that is left as ready is its own
pub ready_is : (t : Task) → t.wait ≡ W.Ready → made_ready t ≡ t
ready_is t e = ap (λ (w : Wait). record t { wait = w }) (sym e)

-- it stands behind any turn of which its tables have another task
module _ (p : Program) (kb : List ℕ) (compiled : IsCompiled p) (bytes : AreBytes kb) (n : Tables) (place number : ℕ) (after last : Task) (s : Standing p kb (tables_with n number last)) (t : IsTurnAt p (tables_with n number last) place number after) (now : Tables) (tasks : now.tasks.items ≡ slice_set n.tasks.items number (Some (made_ready after))) where
  abbrev start : Tables
  start = tables_with n number last

  may : IsTrue (may_go t.before.wait)
  may = let x = chosen p kb start s place number t.at in subst (λ (z : Task). IsTrue (may_go z.wait)) (task_once start.tasks.items number x.there t.there) x.may

  adv : Advanced t.body start.tasks.items number t.before after.wait now.tasks.items
  adv = record { after = after; stops = t.stops; waits = refl; is = tasks ∙ sym (set_twice n.tasks.items number (Some last) (Some (made_ready after))) }

  module _ (net : Net) (h : Holds p kb start net) (e1 : now.ready ≡ n.ready) (e2 : now.offering ≡ n.offering) (e3 : now.awaiting ≡ n.awaiting) (e4 : now.parents ≡ n.parents) (e5 : now.unfinished ≡ n.unfinished) (e6 : now.fault ≡ n.fault) (e7 : now.used ≡ n.used) (e8 : now.trace ≡ n.trace) where
    pub mid_behind : Mid p kb now number place after net
    unfolding adv
    mid_behind = mid_for p kb start s compiled bytes place number t.body t.at t.has_body t.before t.there may after.wait now adv net h e1 e2 e3 e4 e5 e6 e7 e8

  pub turns_behind : (net : Net) → Holds p kb start net → (choice : Choice) → place ≡ choice.which % length n.ready.items → (new : Tables) → SettlesTo p kb choice.pick number after net new → TurnsTo p kb choice net new
  unfolding adv
  turns_behind net h choice own new x = turns_to p kb start s compiled bytes place number t.body t.at t.has_body t.before t.there may after.wait now adv choice net new h own x

-- where it was left as ready, its tables are those behind the turn
pub tasks_left : (n : Tables) (number : ℕ) (left : Task) → HasTask n.tasks.items number left → left.wait ≡ W.Ready → (w : Wait) → n.tasks.items ≡ slice_set n.tasks.items number (Some (made_ready (ready_with left w)))
tasks_left n number left there ready w = sym (ap (λ (z : Task). slice_set n.tasks.items number (Some z)) (ready_is left ready) ∙ set_own n.tasks.items number (Some left) there)

pub stays_open : (p : Program) (kb : List ℕ) (n : Tables) (place number : ℕ) (left : Task) → HasTask n.tasks.items number left → left.wait ≡ W.Ready → (last : Task) → Standing p kb (tables_with n number last) → GoesOn p n
stays_open p kb n place number left there ready last s =
    let tasks : n.tasks.items ≡ slice_set (tables_with n number last).tasks.items number (Some left) = sym (set_twice n.tasks.items number (Some last) (Some left) ∙ set_own n.tasks.items number (Some left) there) in
    still_open p kb (tables_with n number last) s n number left tasks (ap is_done ready) refl refl

-- a place selects itself
pub own_place : (n : Tables) (place number which : ℕ) → slice_get n.ready.items place ≡ Some number → place ≡ which → place ≡ which % length n.ready.items
own_place n place number which at e = sym (mod-eq_of_lt (slice_get_within n.ready.items place number at)) ∙ ap (λ (i : ℕ). i % length n.ready.items) e

-- the only place is selected whatever the choice is
pub only_place : (n : Tables) (place number which : ℕ) → slice_get n.ready.items place ≡ Some number → length n.ready.items ≡ 1 → place ≡ which % length n.ready.items
only_place n place number which at alone =
    let within = slice_get_within n.ready.items place number at in
    let none : place ≡ 0 = omega (arith, within, alone) in
    none ∙ sym (ap (λ (k : ℕ). which % k) alone ∙ mod-one which)

-- ---- turns that leave it ready

module _ (p : Program) (kb : List ℕ) (compiled : IsCompiled p) (bytes : AreBytes kb) (n : Tables) (place number : ℕ) (at : slice_get n.ready.items place ≡ Some number) (body : Body) (has : slice_get p.bodies number ≡ Some body) (first : Task) (there : HasTask n.tasks.items number first) where
  pub task_in : (t : Task) → HasTask (tables_with n number t).tasks.items number t
  task_in t = set_same n.tasks.items number (Some first) (Some t) there

  -- it stands with this task behind so many turns more
  pub record Along (before more : ℕ) (t : Task) : Type 0 where
    pub standing : Standing p kb (tables_with n number t)
    pub long : length standing.choices ≡ before + more

  module _ (t : Task) (s : Standing p kb (tables_with n number t)) where
    pub can_take : CanTake body t
    can_take =
        let x = has_turn p kb (tables_with n number t) s compiled bytes place number body at has in
        subst (CanTake body) (task_once (tables_with n number t).tasks.items number x.there (task_in t)) (record { counts = x.counts; stops = x.stops })

    module _ (u : Task) (stops : Stopping body t u) where
      pub turn_of : IsTurnAt p (tables_with n number t) place number u
      turn_of = record { body = body; before = t; at = at; has_body = has; there = task_in t; stops = stops }

      module _ (is : u.wait ≡ W.Ready) where
        tasks_ready : (tables_with n number u).tasks.items ≡ slice_set n.tasks.items number (Some (made_ready u))
        tasks_ready = ap (λ (z : Task). slice_set n.tasks.items number (Some z)) (sym (ready_is u is))

        pub ready_turn : (net : Net) (choice : Choice) → Holds p kb (tables_with n number t) net → place ≡ choice.which % length n.ready.items → TurnsTo p kb choice net (tables_with n number u)
        ready_turn net choice h own =
            let mid = mid_behind p kb compiled bytes n place number u t s turn_of (tables_with n number u) tasks_ready net h refl refl refl refl refl refl refl refl in
            turns_behind p kb compiled bytes n place number u t s turn_of (tables_with n number u) tasks_ready net h choice own (tables_with n number u)
            (between.goes_on p kb (tables_with n number u) number place u net mid (tables_with n number u) choice.pick is refl refl refl mid.sound mid.sized)

        pub ready_open : GoesOn p (tables_with n number u)
        ready_open = still_open p kb (tables_with n number t) s (tables_with n number u) number u (sym (set_twice n.tasks.items number (Some t) (Some u))) (ap is_done is) refl refl

        abbrev own_choice : Choice
        own_choice = record { which = place; pick = 0 }

        pub next_standing : 2 + length s.choices < 2 ^ 64 → Along (length s.choices) 1 u
        next_standing few =
            let x = ready_turn s.net own_choice s.holds (own_place n place number place at refl) in
            let longer = length-append s.choices (own_choice ∷ []) in
            record {
              standing = record {
                choices = s.choices ++ own_choice ∷ [];
                few = omega (arith, few, longer);
                net = x.next;
                replays = goes_on s.replays s.open_end x.turn;
                open_end = ready_open kb x.next x.holds;
                holds = x.holds;
              };
              long = omega (arith, longer);
            }

  module _ (s : Standing p kb n) (most : ℕ) (few : length s.choices + most < 2 ^ 64) where
    same_first : AreSame n (tables_with n number first)
    same_first = record { tasks = set_own n.tasks.items number (Some first) there; ready = refl; offering = refl; awaiting = refl; parents = refl; unfinished = refl; fault = refl; used = refl; trace = refl }

    pub along : (m : ℕ) (t : Task) → m < most → InRow body first m t → MayFollow m t → Along (length s.choices) m t
    along zero t less row follows =
        subst (Along (length s.choices) 0) row (record {
          standing = record { choices = s.choices; few = s.few; net = s.net; replays = s.replays; open_end = s.open_end; holds = holds_as n (tables_with n number first) same_first p kb s.net s.holds };
          long = omega arith;
        })
    along (suc m) u less row follows =
        let a = along m row.before (omega (arith, less)) row.row row.follows in
        let shorter : 2 + length a.standing.choices < 2 ^ 64 = (let l = a.long in omega (arith, l, less, few)) in
        let x = next_standing row.before a.standing u row.stops follows shorter in
        record { standing = x.standing; long = (let l = a.long in let e = x.long in omega (arith, l, e)) }

    pub can_take_row : (m : ℕ) (t : Task) → m < most → InRow body first m t → MayFollow m t → CanTake body t
    can_take_row m t less row follows = can_take t (along m t less row follows).standing

    -- the state behind them, by the choices of a list
    module _ (going : GoesOn p n) (alone : length n.ready.items ≡ 1) (list : List Choice) (from : ℕ) (within : from + most ≤ length list) (net : Net) (held : Holds p kb n net) where
      pub record Leads (m : ℕ) (t : Task) : Type 0 where
        pub next : Net
        pub turns : TurnsFrom p n.ready.items list from net m next
        pub holds : Holds p kb (tables_with n number t) next
        pub open_end : ending_of p.errors next ≡ None

      pub ready_held : (m : ℕ) (t : Task) (l : Leads m t) → ready_from 0 l.next.tasks ≡ n.ready.items
      ready_held m t l = ap (ready_from 0) l.holds.tasks ∙ sym l.holds.sound.ready_is

      pub leads : (m : ℕ) (t : Task) → m < most → InRow body first m t → MayFollow m t → Leads m t
      leads zero t less row follows =
          subst (Leads 0) row (record { next = net; turns = refl; holds = holds_as n (tables_with n number first) same_first p kb net held; open_end = going kb net held })
      leads (suc m) u less row follows =
          let a = along m row.before (omega (arith, less)) row.row row.follows in
          let l = leads m row.before (omega (arith, less)) row.row row.follows in
          let c = get_some list (from + m) (omega (arith, less, within)) in
          let x = ready_turn row.before a.standing u row.stops follows l.next c.0 l.holds (only_place n place number c.0.which at alone) in
          record {
            next = x.next;
            turns = record { before = l.next; row = l.turns; going = l.open_end; same = ready_held m row.before l; choice = c.0; is = c.1; turn = x.turn };
            holds = x.holds;
            open_end = ready_open row.before a.standing u row.stops follows kb x.next x.holds;
          }

      -- and the last of them
      pub row_turns : (count m : ℕ) → count ≡ m + 1 → (t : Task) (l : Leads m t) (choice : Choice) → slice_get list (from + m) ≡ Some choice → (new : Tables) → TurnsTo p kb choice l.next new → RowTurnsTo p kb n.ready.items list from net count new
      row_turns count m is t l choice at_list new x =
          let one : suc m ≡ count = omega (arith, is) in
          subst (λ (k : ℕ). RowTurnsTo p kb n.ready.items list from net k new) one
          (record { next = x.next; turns = record { before = l.next; row = l.turns; going = l.open_end; same = ready_held m t l; choice = choice; is = at_list; turn = x.turn }; holds = x.holds })

    -- the last of so many turns
    pub record Last (count : ℕ) (after : Task) : Type 0 where
      pub turns : ℕ
      pub is : count ≡ turns + 1
      pub less : turns < most
      pub before : Task
      pub row : InRow body first turns before
      pub follows : MayFollow turns before
      pub stops : Stopping body before after
      pub standing : Standing p kb (tables_with n number before)

    pub last_of : (count : ℕ) (after : Task) → 0 < count → count ≤ most → InRow body first count after → Last count after
    last_of zero after some few row = absurd (omega (arith, some))
    last_of (suc m) after some few x =
        let less : m < most = omega (arith, few) in
        record { turns = m; is = omega arith; less = less; before = x.before; row = x.row; follows = x.follows; stops = x.stops; standing = (along m x.before less x.row x.follows).standing }

-- ---- the last turn

module _ (p : Program) (kb : List ℕ) (n : Tables) (place number : ℕ) (first : Task) (there : HasTask n.tasks.items number first) (mid : Tables) (left : Task) (tasks : mid.tasks.items ≡ slice_set n.tasks.items number (Some left)) (e1 : mid.ready ≡ n.ready) (e2 : mid.offering ≡ n.offering) (e3 : mid.awaiting ≡ n.awaiting) (e4 : mid.parents ≡ n.parents) (e5 : mid.unfinished ≡ n.unfinished) (e6 : mid.fault ≡ n.fault) (e7 : mid.used ≡ n.used) (e8 : mid.trace ≡ n.trace) where
  pub left_there : HasTask mid.tasks.items number left
  left_there = ap (λ (l : Tasks). slice_get l number) tasks ∙ set_same n.tasks.items number (Some first) (Some left) there

  pub same_behind : (t : Task) → AreSame (tables_with n number t) (tables_with mid number t)
  same_behind t =
      record {
        tasks = ap (λ (l : Tasks). slice_set l number (Some t)) tasks ∙ set_twice n.tasks.items number (Some left) (Some t);
        ready = ap (λ z. z.items) e1;
        offering = ap (λ z. z.items) e2;
        awaiting = ap (λ z. z.items) e3;
        parents = ap (λ z. z.items) e4;
        unfinished = ap (λ z. z.items) e5;
        fault = e6;
        used = e7;
        trace = e8;
      }

  module _ (end : TurnEnd) (items : List Part) (last : Task) (s : Standing p kb (tables_with n number last)) (t : IsTurnAt p (tables_with n number last) place number (ready_with left (standing_at end items left.wait))) where
    standing_last : Standing p kb (tables_with mid number last)
    standing_last = standing_as p kb (tables_with n number last) (tables_with mid number last) (same_behind last) s

    turn_last : IsTurnAt p (tables_with mid number last) place number (ready_with left (standing_at end items left.wait))
    turn_last = turn_as p (tables_with n number last) (tables_with mid number last) place number (ready_with left (standing_at end items left.wait)) (same_behind last) t

    pub has_ended : IsLeftReady end left.wait → HasTakenTurn p kb mid place number end items
    has_ended ready = record { left = left; there = left_there; ready = ready; behind = record { first = left; there = left_there; last = last; standing = standing_last; turn = turn_last } }

    -- by any choice that selects its place
    pub turns_last : (pick : ℕ) (new : Tables) → SettlesEnd p kb place number end items pick mid new → (net : Net) → Holds p kb (tables_with n number last) net → (choice : Choice) → place ≡ choice.which % length n.ready.items → pick ≡ choice.pick → TurnsTo p kb choice net new
    turns_last pick new settles net h choice own same =
        let placed : Choice = record { which = place; pick = choice.pick } in
        let ready : n.ready.items ≡ ready_from 0 net.tasks = h.sound.ready_is ∙ ap (ready_from 0) (sym h.tasks) in
        let selects : placed ≡ placed_among (ready_from 0 net.tasks) choice = ap (λ (k : ℕ). record choice { which = k }) (own ∙ ap (λ (l : List ℕ). choice.which % length l) ready) in
        turns_by_number p kb choice placed net new selects
        (settles left left_there last net placed standing_last turn_last (holds_as (tables_with n number last) (tables_with mid number last) (same_behind last) p kb net h) refl same)

-- ---- what is kept of them

pub kept_length : (keep : Keep) (ready : List ℕ) (list kept : List Choice) (from count : ℕ) → length (kept_more keep ready list from kept count) ≡ length kept + count
kept_length keep ready list kept from zero = omega arith
kept_length keep ready list kept from (suc n) =
    let less = kept_length keep ready list kept from n in
    let c : Choice = kept_by keep ready (get_or list (from + n) (record { which = 0; pick = 0 })) in
    omega (arith, less, length-append (kept_more keep ready list from kept n) (c ∷ []))

module _ (p : Program) (kb : List ℕ) (keep : Keep) (list kept : List Choice) (ready : List ℕ) (first : Net) (places : List Choice) (placed : Placed p kb (take (length kept) list) places first) (kept_is : kept ≡ all_kept keep (take (length kept) list) places) where
  pub record Kept (count : ℕ) (net : Net) : Type 0 where
    pub places_on : List Choice
    pub placed_on : Placed p kb (take (length kept + count) list) places_on net
    pub kept_on : kept_more keep ready list (length kept) kept count ≡ all_kept keep (take (length kept + count) list) places_on

  pub keeps : (count : ℕ) (net : Net) → TurnsFrom p ready list (length kept) first count net → Kept count net
  keeps zero net turns =
      let none : length kept ≡ length kept + 0 = omega arith in
      record {
        places_on = places;
        placed_on = subst (λ (k : ℕ). Placed p kb (take k list) places net) none (subst (Placed p kb (take (length kept) list) places) turns placed);
        kept_on = kept_is ∙ ap (λ (k : ℕ). all_kept keep (take k list) places) none;
      }
  keeps (suc n) net x =
      let k = keeps n x.before x.row in
      let at : ℕ = length kept + n in
      let given : take at list ++ x.choice ∷ [] ≡ take (length kept + suc n) list = taken_more list at x.choice x.is ∙ ap (λ (i : ℕ). take i list) (omega arith) in
      let one : get_or list at (record { which = 0; pick = 0 }) ≡ x.choice = get_or_from_slice_get list at x.choice (record { which = 0; pick = 0 }) x.is in
      let more : List Choice = k.places_on ++ placed_among ready x.choice ∷ [] in
      record {
        places_on = more;
        placed_on =
            subst (λ (cs : List Choice). Placed p kb cs more net) given
            (subst (λ (r : List ℕ). Placed p kb (take at list ++ x.choice ∷ []) (k.places_on ++ placed_among r x.choice ∷ []) net) x.same (one_placed k.placed_on x.going x.turn));
        kept_on =
            ap (λ (c : Choice). kept_more keep ready list (length kept) kept n ++ kept_by keep ready c ∷ []) one
            ∙ one_more_kept keep (take at list) k.places_on (kept_more keep ready list (length kept) kept n) ready x.choice k.kept_on
            ∙ ap (λ (cs : List Choice). all_kept keep cs more) given;
      }

-- the run goes on so
pub row_run : (p : Program) (kb : List ℕ) (keep : Keep) (list kept : List Choice) (ready : List ℕ) (old new : Tables) (h : HasRun p kb keep (take (length kept) list) kept old) (count : ℕ) → RowTurnsTo p kb ready list (length kept) h.net count new
    → (after : List Choice) → after ≡ kept_more keep ready list (length kept) kept count → HasRun p kb keep (take (length after) list) after new
row_run p kb keep list kept ready old new h count x after is =
    let k = keeps p kb keep list kept ready h.net h.places h.placed h.kept_is count x.next x.turns in
    let long : length kept + count ≡ length after = sym (ap length is ∙ kept_length keep ready list kept (length kept) count) in
    record {
      net = x.next;
      places = k.places_on;
      placed = subst (λ (i : ℕ). Placed p kb (take i list) k.places_on x.next) long k.placed_on;
      kept_is = is ∙ k.kept_on ∙ ap (λ (i : ℕ). all_kept keep (take i list) k.places_on) long;
      holds = x.holds;
    }

-- one more is kept
pub next_kept : (keep : Keep) (ready : List ℕ) (list kept now : List Choice) (k : ℕ) (choice one : Choice) → now ≡ kept_more keep ready list (length kept) kept k → slice_get list (length kept + k) ≡ Some choice → one ≡ kept_by keep ready choice → (after : List Choice) → after ≡ now ++ one ∷ [] → after ≡ kept_more keep ready list (length kept) kept (k + 1)
next_kept keep ready list kept now k choice one is at own after grown =
    let suc_is : suc k ≡ k + 1 = omega arith in
    let found : get_or list (length kept + k) (record { which = 0; pick = 0 }) ≡ choice = get_or_from_slice_get list (length kept + k) choice (record { which = 0; pick = 0 }) at in
    grown ∙ ap (λ (l : List Choice). l ++ one ∷ []) is ∙ ap (λ (c : Choice). kept_more keep ready list (length kept) kept k ++ c ∷ []) (own ∙ ap (kept_by keep ready) (sym found))
    ∙ ap (kept_more keep ready list (length kept) kept) suc_is

pub only_placed : (ready : List ℕ) (choice : Choice) → length ready ≡ 1 → record { which = 0; pick = choice.pick } ≡ placed_among ready choice
only_placed ready choice one = ap (λ (k : ℕ). record choice { which = k }) (sym (ap (λ (k : ℕ). choice.which % k) one ∙ mod-one choice.which))

-- where a run can go on so
pub stands_alone : (p : Program) (kb : List ℕ) (keep : Keep) (list kept : List Choice) (n : Tables) → CanRunRow p kb keep list kept n → length kept < length list → length list < 2 ^ 64 → StandsAlone p kb n (length kept)
stands_alone p kb keep list kept n r more few =
    let long = taken_short list (length kept) in
    record {
      standing = record { choices = take (length kept) list; few = omega (arith, long, more, few); net = r.run.net; replays = placed_replays p kb r.run.placed; open_end = r.going kb r.run.net r.run.holds; holds = r.run.holds };
      few = long;
      going = r.going;
      alone = r.alone;
    }
