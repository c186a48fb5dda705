-- Where turns in a row lead.
use Rattle.std.proofs.Common.{◌≡◌, ◌∙◌, refl, sym, ap, subst, Bool, false, IsTrue, ℕ, zero, suc, ◌+◌, ◌<◌, ◌^◌, inl, inr, List, [], ◌∷◌, Some, None, length, arith, length-append}
use Rattle.std.specs.Arc.{arc_value}
use Rattle.std.specs.Prelude.{slice_get, slice_set}
use Rattle.std.proofs.lemmas.Bool.{cases_lt}
use Rattle.occ_machine.specs.Compiled.{IsCompiled}
use Rattle.occ_machine.specs.Machine.{Body, Stopping}
use Rattle.occ_machine.specs.declared.task.Task.{Task}
use Rattle.occ_machine.specs.declared.task.Wait.TheVariants as W
use Rattle.occ_proc.specs.Stretches.{CanTake, InRow, MayFollow}
use Rattle.occ_net_replay.specs.declared.choice.Choice.{Choice}
use Rattle.occ_net_replay.specs.Replay.{HasTask, Net, Tasks, ending_of, may_go, ready_from}
use Rattle.occ_net_replay.proofs.Tables.{task_once}
use Rattle.occ_net_tables.specs.declared.tables.Tables.{Tables}
use Rattle.occ_net_tables.specs.Holding.{Holds}
use Rattle.occ_net_tables.specs.Settling.{IsTurnAt, Standing, StandsBehind, TurnsBehind, tables_with}
use Rattle.occ_net_tables.proofs.OneChange.{set_twice}
use Rattle.occ_net_tables.proofs.Placing.{placed_replays}
use Rattle.occ_net_tables.proofs.Roomy.{holds_as, same_with}
use Rattle.occ_net_tables.proofs.Rowed as rowed
use Rattle.occ_net_tables.proofs.Rowed.{own_place, ready_open, ready_turn, task_in, turn_of}
use Rattle.occ_net.specs.Keeping.{KeepsReplay}
use Rattle.occ_net.specs.Networks.{IsState, Past, leased, ready_in}
use Rattle.occ_net.specs.Settling.{IsAmong}
use Rattle.occ_net.specs.Stretches.{CanGoOn, SettlesAll, TakesAll, after_turns, choices_from, in_after}
use Rattle.occ_net.specs.declared.leasing.Lease.{Lease}
use Rattle.occ_net.proofs.Leased.{IsGoing, leased_there, may_turn}
use Rattle.occ_net.proofs.Ready.{among_ready, turn_may}
use Rattle.occ_net.proofs.States.{kept_turn, one_state, stands, with_turn}

-- ---- choices and marks

pub choices_length : (place pick : ℕ) (cs : List Choice) (k : ℕ) → length (choices_from place pick cs k) ≡ length cs + k
choices_length place pick cs zero = omega arith
choices_length place pick cs (suc k) =
    let less = choices_length place pick cs k in
    omega (arith, less, length-append (choices_from place pick cs k) (record { which = place; pick = pick + k } ∷ []))

pub in_next : (out : List Bool) (number k : ℕ) → slice_set (in_after out number k) number false ≡ in_after out number (suc k)
in_next out number zero = refl
in_next out number (suc k) = set_twice out number false false

pub in_again : (out : List Bool) (number k : ℕ) → 0 < k → in_after out number k ≡ slice_set out number false
in_again out number zero l = absurd (omega (arith, l))
in_again out number (suc k) l = refl

pub one_turn_on : (n : Past) (place pick number k : ℕ) → with_turn (after_turns n place pick number k) place (pick + k) number ≡ after_turns n place pick number (suc k)
one_turn_on n place pick number k = ap (λ (out : List Bool). record n { choices = choices_from place pick n.choices (suc k); out = out }) (in_next n.out number k)

-- ---- along the turns

module _ (n : Past) (tables : Tables) (k : KeepsReplay n tables) (compiled : IsCompiled n.program) (few : length n.choices + 2 ^ 32 + 1 < 2 ^ 64) (going : ending_of n.program.errors k.net ≡ None) (place number pick : ℕ) (at : slice_get (ready_from 0 k.net.tasks) place ≡ Some number) (body : Body) (has : slice_get n.program.bodies number ≡ Some body) (first : Task) (there : HasTask k.net.tasks number first) where
  abbrev past : ℕ → Past
  past m = after_turns n place pick number m

  abbrev between : Task → Tables
  between t = tables_with tables number t

  few_still : (m : ℕ) → m < 2 ^ 32 → 1 + length (past m).choices < 2 ^ 64
  few_still m l = let long = choices_length place pick n.choices m in omega (arith, l, few, long)

  pub record Along (m : ℕ) (t : Task) : Type 0 where
    pub kept : KeepsReplay (past m) (between t)
    pub still : ending_of n.program.errors kept.net ≡ None
    pub here : slice_get (ready_from 0 kept.net.tasks) place ≡ Some number
    pub task : HasTask kept.net.tasks number t
    pub may : IsTrue (may_go t.wait)

  held : Holds n.program n.keyboard tables k.net
  held = k.holds k.net (placed_replays n.program n.keyboard k.places)

  first_there : HasTask tables.tasks.items number first
  first_there = ap (λ (l : Tasks). slice_get l number) (sym held.tasks) ∙ there

  start : Along 0 first
  start =
      let x = may_turn k.net number (record { place = place; at = at }) in
      record {
        kept = record { net = k.net; places = k.places; holds = λ now s. holds_as tables (between first) (same_with tables number first first_there) n.program n.keyboard now (k.holds now s); bytes = k.bytes; marked = k.marked };
        still = going;
        here = at;
        task = there;
        may = subst (λ (t : Task). IsTrue (may_go t.wait)) (task_once k.net.tasks number x.there there) x.may;
      }

  module _ (m : ℕ) (small : m < 2 ^ 32) (t : Task) (a : Along m t) where
    abbrev net : Net
    net = a.kept.net

    holding : Holds n.program n.keyboard (between t) net
    holding = a.kept.holds net (placed_replays n.program n.keyboard a.kept.places)

    pub standing : Standing n.program n.keyboard (between t)
    standing = stands (past m) (between t) a.kept (few_still m small) a.still

    pub at_place : slice_get tables.ready.items place ≡ Some number
    at_place = ap (λ (l : List ℕ). slice_get l place) (holding.sound.ready_is ∙ ap (ready_from 0) (sym holding.tasks)) ∙ a.here

    pub can_take : CanTake body t
    can_take = rowed.can_take n.program n.keyboard compiled a.kept.bytes tables place number at_place body has first first_there t standing

    module _ (u : Task) (stops : Stopping body t u) where
      pub turn : IsTurnAt n.program (between t) place number u
      turn = turn_of n.program n.keyboard compiled a.kept.bytes tables place number at_place body has first first_there t standing u stops

      pub behind : StandsBehind n.program n.keyboard tables place number u
      behind = record { first = first; there = first_there; last = t; standing = standing; turn = turn }

      -- what the network keeps after the last of these turns
      pub kept_last : (new : Tables) → TurnsBehind n.program n.keyboard tables place number u (pick + m) new → KeepsReplay (past (suc m)) new
      kept_last new turns =
          subst (λ (q : Past). KeepsReplay q new) (one_turn_on n place pick number m)
          (kept_turn (past m) (between t) new a.kept compiled (few_still m small) a.still place (pick + m) number a.here (λ now choice h e f. turns t now choice standing turn h e f))

      module _ (is : u.wait ≡ W.Ready) where
        next_kept : KeepsReplay (past (suc m)) (between u)
        next_kept =
            subst (λ (q : Past). KeepsReplay q (between u)) (one_turn_on n place pick number m)
            (kept_turn (past m) (between t) (between u) a.kept compiled (few_still m small) a.still place (pick + m) number a.here (λ now choice h e f. ready_turn n.program n.keyboard compiled a.kept.bytes tables place number at_place body has first first_there t standing u stops is now choice h (own_place tables place number choice.which at_place e)))

        next_held : Holds n.program n.keyboard (between u) next_kept.net
        next_held = next_kept.holds next_kept.net (placed_replays n.program n.keyboard next_kept.places)

        pub next : Along (suc m) u
        next =
            record {
              kept = next_kept;
              still = ready_open n.program n.keyboard compiled a.kept.bytes tables place number at_place body has first first_there t standing u stops is n.keyboard next_kept.net next_held;
              here = ap (λ (l : List ℕ). slice_get l place) (ap (ready_from 0) next_held.tasks ∙ sym next_held.sound.ready_is) ∙ at_place;
              task = ap (λ (l : Tasks). slice_get l number) next_held.tasks ∙ task_in n.program n.keyboard compiled a.kept.bytes tables place number at_place body has first first_there u;
              may = ap may_go is;
            }

  pub along : (m : ℕ) (t : Task) → m < 2 ^ 32 → InRow body first m t → MayFollow m t → Along m t
  along zero t l r f = subst (Along 0) r start
  along (suc m) u l r f = next m (omega (arith, l)) r.before (along m r.before (omega (arith, l)) r.row r.follows) u r.stops f

  -- the process is at its place before each of its turns
  pub at_each : (m : ℕ) (t : Task) → m < 2 ^ 32 → InRow body first m t → (i : ℕ) → i < m → (now : Net) → IsState (past i) now → slice_get (ready_in now) place ≡ Some number
  at_each zero t l r i within now state = absurd (omega (arith, within))
  at_each (suc m) u l r i within now state = elim (cases_lt i m) [ inl h ↦ at_each m r.before (omega (arith, l)) r.row i h now state | inr h ↦ last (omega (arith, h, within)) ]
    where
      a : Along m r.before
      a = along m r.before (omega (arith, l)) r.row r.follows

      last : i ≡ m → slice_get (ready_in now) place ≡ Some number
      last e =
          let long = few_still m (omega (arith, l)) in
          let here : IsState (past m) now = subst (λ (q : ℕ). IsState (past q) now) e state in
          subst (λ (q : Net). slice_get (ready_in q) place ≡ Some number) (one_state (past m) compiled a.kept.bytes (omega (arith, long)) a.kept.net now (placed_replays n.program n.keyboard a.kept.places) here) a.here

-- ---- all the turns of one call

-- the first of them could be taken
first_may : (body : Body) (first : Task) (m : ℕ) (u : Task) → InRow body first m u → 0 < m → IsTrue (may_go first.wait)
first_may body first zero u r l = absurd (omega (arith, l))
first_may body first (suc zero) u r l = subst (λ (t : Task). IsTrue (may_go t.wait)) (sym r.row) (turn_may body r.before u r.stops)
first_may body first (suc (suc m)) u r l = first_may body first (suc m) r.before r.row (omega arith)

module _ (n : Past) (tables : Tables) (k : KeepsReplay n tables) (number count : ℕ) (after : Task) (takes : TakesAll n k.net number count after) where
  pub among_own : IsAmong (ready_from 0 k.net.tasks) number
  among_own = among_ready k.net.tasks number takes.own.before takes.own.has_task (first_may takes.own.body takes.own.before count after takes.own.turns takes.own.some)

  module _ (compiled : IsCompiled n.program) (few : length n.choices + 2 ^ 32 + 1 < 2 ^ 64) (small : count < 2 ^ 32) (place pick : ℕ) (at : slice_get (ready_from 0 k.net.tasks) place ≡ Some number) where
    pub behind_all : StandsBehind n.program n.keyboard tables place number after
    behind_all = by count after takes.own.turns takes.own.some small
      where
        by : (m : ℕ) (u : Task) → InRow takes.own.body takes.own.before m u → 0 < m → m < 2 ^ 32 → StandsBehind n.program n.keyboard tables place number u
        by zero u r l s = absurd (omega (arith, l))
        by (suc m) u r l s =
            let less : m < 2 ^ 32 = omega (arith, s) in
            let a = along n tables k compiled few takes.going place number pick at takes.own.body takes.own.has_body takes.own.before takes.own.has_task m r.before less r.row r.follows in
            behind n tables k compiled few takes.going place number pick at takes.own.body takes.own.has_body takes.own.before takes.own.has_task m less r.before a u r.stops

    pub kept_all : (last : ℕ) → last + 1 ≡ pick + count → (new : Tables) → TurnsBehind n.program n.keyboard tables place number after last new → KeepsReplay (after_turns n place pick number count) new
    kept_all last is new turns = by count after takes.own.turns takes.own.some small is turns
      where
        by : (m : ℕ) (u : Task) → InRow takes.own.body takes.own.before m u → 0 < m → m < 2 ^ 32 → last + 1 ≡ pick + m → TurnsBehind n.program n.keyboard tables place number u last new → KeepsReplay (after_turns n place pick number m) new
        by zero u r l s e h = absurd (omega (arith, l))
        by (suc m) u r l s e h =
            let less : m < 2 ^ 32 = omega (arith, s) in
            let same : last ≡ pick + m = omega (arith, e) in
            let a = along n tables k compiled few takes.going place number pick at takes.own.body takes.own.has_body takes.own.before takes.own.has_task m r.before less r.row r.follows in
            kept_last n tables k compiled few takes.going place number pick at takes.own.body takes.own.has_body takes.own.before takes.own.has_task m less r.before a u r.stops new
            (subst (λ (i : ℕ). TurnsBehind n.program n.keyboard tables place number u i new) same h)

    pub settles_all : (new : Past) → new ≡ after_turns n place pick number count → SettlesAll n number count pick new
    settles_all new is =
        record {
          place = place;
          at = at_each n tables k compiled few takes.going place number pick at takes.own.body takes.own.has_body takes.own.before takes.own.has_task count after small takes.own.turns;
          is = is;
        }

-- what is leased can go on
pub goes_on_leased : (n : Past) (tables : Tables) (k : KeepsReplay n tables) → IsCompiled n.program → length n.choices + 2 ^ 32 + 1 < 2 ^ 64 → ending_of n.program.errors k.net ≡ None → (place number : ℕ) → slice_get (ready_from 0 k.net.tasks) place ≡ Some number
    → (body : Body) → slice_get n.program.bodies number ≡ Some body → (task : Task) → HasTask k.net.tasks number task → (l : Lease) → arc_value l.body ≡ body → l.task ≡ task → CanGoOn l
goes_on_leased n tables k compiled few going place number at body has task there l same_body same_task m t small r g =
    let row : InRow body task m t = subst (λ (b : Body). InRow b task m t) same_body (subst (λ (u : Task). InRow (arc_value l.body) u m t) same_task r) in
    let a = along n tables k compiled few going place number 0 at body has task there m t small row g in
    subst (λ (b : Body). CanTake b t) (sym same_body) (can_take n tables k compiled few going place number 0 at body has task there m small t a)

pub takes_now : (n now : Past) (tables : Tables) (k : KeepsReplay n tables) → n ≡ now → (number count : ℕ) (after : Task) → ((net : Net) → IsState now net → TakesAll now net number count after) → TakesAll n k.net number count after
takes_now n now tables k same number count after h =
    let state : IsState n k.net = placed_replays n.program n.keyboard k.places in
    subst (λ (m : Past). TakesAll m k.net number count after) (sym same) (h k.net (subst (λ (m : Past). IsState m k.net) same state))

pub going_leased : (n now : Past) (tables : Tables) (k : KeepsReplay n tables) → n ≡ now → (i : ℕ) → ((net : Net) → IsState now net → leased now net ≡ Some i) → IsGoing (ending_of n.program.errors k.net) (ready_in k.net) i
going_leased n now tables k same i h =
    let state : IsState n k.net = placed_replays n.program n.keyboard k.places in
    let is : leased n k.net ≡ Some i = subst (λ (m : Past). leased m k.net ≡ Some i) (sym same) (h k.net (subst (λ (m : Past). IsState m k.net) same state)) in
    leased_there (ending_of n.program.errors k.net) n.out (ready_in k.net) i is
