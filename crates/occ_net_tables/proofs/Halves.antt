-- A turn that has come to its stop, and whether it looks past the keyboard's bytes.
use Rattle.std.proofs.Common.{◌≡◌, ◌∙◌, ◌↔◌, refl, sym, ap, subst, Bool, true, false, IsFalse, IsTrue, ℕ, ◌<◌, ◌≤◌, ◌%◌, List, [], ◌∷◌, Option, Some, None, length}
use Rattle.std.specs.Prelude.{nat_eq, not, slice_get, slice_set, ◌||◌}
use mathlib.Core.Bool.{true≢false}
use Rattle.occ_machine.specs.Compiled.{Program}
use Rattle.occ_machine.specs.Machine.{Body, Stopping}
use Rattle.occ_machine.specs.SameStop.{ready_with}
use Rattle.occ_machine.specs.declared.task.Arm.{Arm}
use Rattle.occ_machine.specs.declared.task.Task.{Task}
use Rattle.occ_machine.specs.declared.task.Wait.{Wait}
use Rattle.occ_machine.specs.declared.task.Wait.TheVariants as W
use Rattle.occ_term.specs.declared.message.Part.{Part}
use Rattle.occ_proc.specs.Turns.{standing_at}
use Rattle.occ_proc.specs.declared.turn_end.TurnEnd.{TurnEnd}
use Rattle.occ_proc.specs.declared.turn_end.TurnEnd.TheVariants as T
use Rattle.occ_live_laws.specs.Live.{IsDeaf, StaysWithin, or_keyboard}
use Rattle.occ_net_replay.specs.declared.choice.Choice.{Choice}
use Rattle.occ_net_replay.specs.Replay.{HasTask, Net, OneTurn, Tasks, arm_chosen, may_go, offers_among, offers_on, ready_from}
use Rattle.occ_net_replay.proofs.OneStop.{stopping_once}
use Rattle.occ_net_replay.proofs.Tables.{offers_found, offers_there, set_same, task_once}
use Rattle.occ_net_tables.specs.declared.tables.Tables.{Tables}
use Rattle.occ_net_tables.specs.declared.turning.Begun.{Begun}
use Rattle.occ_net_tables.specs.Halves.{BeganTurn, HasOwnTask, LooksPastBytes, StaysWithinBytes, with_used}
use Rattle.occ_net_tables.specs.Choosing.{arm_at, is_entry, offered_arm, offered_by}
use Rattle.occ_net_tables.specs.Holding.{Holds, IsTable}
use Rattle.occ_net_tables.specs.Keys.{entry_in}
use Rattle.occ_net_tables.specs.Room.{AreSame}
use Rattle.occ_net_tables.specs.Rows.{HasTakenTurn, SettlesEnd}
use Rattle.occ_net_tables.specs.Settling.{IsTurnAt, Standing, TurnsTo, tables_with}
use Rattle.occ_net_tables.proofs.Arms.{chosen_same, past, there as there_left}
use Rattle.occ_net_tables.proofs.Between.{entry_there, no_entry}
use Rattle.occ_net_tables.proofs.OneChange.{set_twice, table_kept}
use Rattle.occ_net_tables.proofs.Roomy.{holds_as, same_with, set_own}
use Rattle.occ_net_tables.proofs.Rowed.{has_ended, standing_as, turn_as, turns_last}
use Rattle.occ_net_tables.proofs.Turned.{going_offers}

-- ---- what follows of a turn that has begun

module _ (p : Program) (kb : List ℕ) (choice : Choice) (old : Tables) (begun : Begun) (items : List Part) (new : Tables) (b : BeganTurn p choice old begun items new) (s : Standing p kb old) where
  abbrev after : Task
  after = ready_with b.left (standing_at begun.end items b.left.wait)

  abbrev start : Tables
  start = tables_with old begun.number b.first

  stands : Standing p kb start
  stands = standing_as p kb old start (same_with old begun.number b.first b.there) s

  turn : IsTurnAt p start begun.place begun.number after
  turn = turn_as p old start begun.place begun.number after (same_with old begun.number b.first b.there) b.turn

  pub has_taken : HasTakenTurn p kb new begun.place begun.number begun.end items
  has_taken =
      has_ended p kb old begun.place begun.number b.first b.there new b.left b.tasks (ap (λ n. n.ready) b.others) (ap (λ n. n.offering) b.others) (ap (λ n. n.awaiting) b.others) (ap (λ n. n.parents) b.others) (ap (λ n. n.unfinished) b.others)
      (ap (λ n. n.fault) b.others) (ap (λ n. n.used) b.others) (ap (λ n. n.trace) b.others) begun.end items b.first stands turn b.ready

  pub has_turned : (last : Tables) → SettlesEnd p kb begun.place begun.number begun.end items choice.pick new last → (net : Net) → Holds p kb old net → TurnsTo p kb choice net last
  has_turned last settles net h =
      turns_last p kb old begun.place begun.number b.first b.there new b.left b.tasks (ap (λ n. n.ready) b.others) (ap (λ n. n.offering) b.others) (ap (λ n. n.awaiting) b.others) (ap (λ n. n.parents) b.others) (ap (λ n. n.unfinished) b.others)
      (ap (λ n. n.fault) b.others) (ap (λ n. n.used) b.others) (ap (λ n. n.trace) b.others) begun.end items b.first stands turn choice.pick last settles net
      (holds_as old start (same_with old begun.number b.first b.there) p kb net h) choice b.selects refl

-- ---- the network before a turn that has begun

module _ (p : Program) (kb : List ℕ) (choice : Choice) (old : Tables) (begun : Begun) (items : List Part) (new : Tables) (b : BeganTurn p choice old begun items new) where
  same_before : AreSame old (tables_with new begun.number b.first)
  same_before =
      record {
        tasks = ap (λ (l : Tasks). slice_set l begun.number (Some b.first)) b.tasks ∙ set_twice old.tasks.items begun.number (Some b.left) (Some b.first) ∙ set_own old.tasks.items begun.number (Some b.first) b.there;
        ready = ap (λ n. n.ready.items) b.others;
        offering = ap (λ n. n.offering.items) b.others;
        awaiting = ap (λ n. n.awaiting.items) b.others;
        parents = ap (λ n. n.parents.items) b.others;
        unfinished = ap (λ n. n.unfinished.items) b.others;
        fault = ap (λ n. n.fault) b.others;
        used = ap (λ n. n.used) b.others;
        trace = ap (λ n. n.trace) b.others;
      }

  pub held_before : (net : Net) → Holds p kb old net → Holds p kb (tables_with new begun.number b.first) net
  held_before net h = holds_as old (tables_with new begun.number b.first) same_before p kb net h

  pub left_here : HasTask new.tasks.items begun.number b.left
  left_here = ap (λ (l : Tasks). slice_get l begun.number) b.tasks ∙ set_same old.tasks.items begun.number (Some b.first) (Some b.left) b.there

  pub stands_at : HasOwnTask new begun.number
  stands_at = record { task = b.left; there = left_here }

  -- other bytes are taken
  pub began_with : (known : ℕ) → BeganTurn p choice (with_used old known) begun items (with_used new known)
  began_with known =
      record {
        selects = b.selects;
        first = b.first;
        there = b.there;
        may = b.may;
        left = b.left;
        tasks = b.tasks;
        others = ap (λ n. with_used n known) b.others;
        ready = b.ready;
        turn = record { body = b.turn.body; before = b.turn.before; at = b.turn.at; has_body = b.turn.has_body; there = b.turn.there; stops = b.turn.stops };
      }

  -- it is the one turn that the choice selects
  module _ (net : Net) (h : Holds p kb old net) (next : Net) (o : OneTurn p choice net next) where
    one_number : {x y : ℕ} → Some x ≡ Some y → x ≡ y
    one_number e = cc

    one_body : {x y : Body} → Some x ≡ Some y → x ≡ y
    one_body e = cc

    same_number : o.number ≡ begun.number
    same_number =
        let ready : old.ready.items ≡ ready_from 0 net.tasks = h.sound.ready_is ∙ ap (ready_from 0) (sym h.tasks) in
        one_number (sym o.selects ∙ sym (ap (λ (l : List ℕ). slice_get l (choice.which % length l)) ready) ∙ ap (slice_get old.ready.items) (sym b.selects) ∙ b.turn.at)

    same_task : o.before ≡ b.turn.before
    same_task = task_once old.tasks.items begun.number (subst (λ i. HasTask old.tasks.items i o.before) same_number (ap (λ l. slice_get l o.number) (sym h.tasks) ∙ o.has_task)) b.turn.there

    same_body : o.body ≡ b.turn.body
    same_body = one_body (sym o.has_body ∙ ap (slice_get p.bodies) same_number ∙ b.turn.has_body)

    same_after : o.after ≡ ready_with b.left (standing_at begun.end items b.left.wait)
    same_after = stopping_once b.turn.body b.turn.before o.after _ (subst (λ z. Stopping z b.turn.before o.after) same_body (subst (λ z. Stopping o.body z o.after) same_task o.stops)) b.turn.stops

    pub stays_as_turn : StaysWithinBytes kb new begun choice.pick → StaysWithin choice.pick net o.number o.after
    stays_as_turn stays =
        let there : StaysWithin choice.pick net begun.number (ready_with b.left (standing_at begun.end items b.left.wait)) = stays p b.first b.left items net (held_before net h) b.may left_here in
        subst (λ i. StaysWithin choice.pick net i o.after) (sym same_number) (subst (λ t. StaysWithin choice.pick net begun.number t) (sym same_after) there)

-- ---- who is deaf

pub deaf_as : (pick : ℕ) (f g : ℕ → Bool) → ((c : ℕ) → f c ≡ g c) → (w : Wait) → IsDeaf pick f w → IsDeaf pick g w
deaf_as pick f g h W.Ready d = tt
deaf_as pick f g h (W.Took arm is m) d = tt
deaf_as pick f g h (W.Offers c m) d = tt
deaf_as pick f g h (W.Awaits c) d = d
deaf_as pick f g h (W.Chooses pri arms) d =
    sym (chosen_same (or_keyboard f) (or_keyboard g) (λ c. ap (λ b. nat_eq c 0 || b) (h c)) pri pick arms) ∙ d ∙ chosen_same f g h pri pick arms
deaf_as pick f g h (W.Joins ns) d = tt
deaf_as pick f g h W.Halted d = tt
deaf_as pick f g h W.Done d = tt
deaf_as pick f g h (W.Faulted e) d = tt

-- where it offers nothing itself, it is so by whatever says the same of the others
pub deaf_where : (pick : ℕ) (f g : ℕ → Bool) (w : Wait) → (((c : ℕ) → offers_on w c ≡ false) → (c : ℕ) → f c ≡ g c) → IsDeaf pick f w → IsDeaf pick g w
deaf_where pick f g W.Ready same d = tt
deaf_where pick f g (W.Took arm is m) same d = tt
deaf_where pick f g (W.Offers c m) same d = tt
deaf_where pick f g (W.Awaits c) same d = d
deaf_where pick f g (W.Chooses pri arms) same d = deaf_as pick f g (same (λ c. refl)) (W.Chooses pri arms) d
deaf_where pick f g (W.Joins ns) same d = tt
deaf_where pick f g W.Halted same d = tt
deaf_where pick f g W.Done same d = tt
deaf_where pick f g (W.Faulted e) same d = tt

-- at a choice it is so where the same arm stands at both places
module _ (pri : Bool) (pick : ℕ) (table : List (Option ℕ)) (arms : List Arm) (x y : Option ℕ) (e : arm_at arms x ≡ offered_arm pri pick (Some 0) table arms) (f : arm_at arms y ≡ offered_arm pri pick None table arms) where
  with_byte : arm_chosen pri pick (or_keyboard (offered_by None table)) arms ≡ arm_at arms x
  with_byte = chosen_same (or_keyboard (offered_by None table)) (offered_by (Some 0) table) (λ c. refl) pri pick arms ∙ sym e

  pub deaf_if_same : arm_at arms x ≡ arm_at arms y → IsDeaf pick (offered_by None table) (W.Chooses pri arms)
  deaf_if_same same = with_byte ∙ same ∙ f

  pub same_if_deaf : IsDeaf pick (offered_by None table) (W.Chooses pri arms) → arm_at arms x ≡ arm_at arms y
  same_if_deaf deaf = sym with_byte ∙ deaf ∙ sym f

not_false : (b : Bool) → IsFalse (not b) ↔ IsTrue b
not_false true = ((λ h. refl), (λ h. refl))
not_false false = ((λ h. absurd (true≢false h)), (λ h. absurd (true≢false (sym h))))

pub deaf_told : (pri : Bool) (pick : ℕ) (table t1 t2 : List (Option ℕ)) (arms a : List Arm) (x y : Option ℕ) → arm_at a x ≡ offered_arm pri pick (Some 0) t1 a → arm_at a y ≡ offered_arm pri pick None t2 a
    → a ≡ arms → t1 ≡ table → t2 ≡ table → (b : Bool) → IsTrue b ↔ (arm_at a x ≡ arm_at a y) → (w : Wait) → w ≡ W.Chooses pri arms → IsFalse (not b) ↔ IsDeaf pick (offered_by None table) w
deaf_told pri pick table t1 t2 arms a x y e f p r s b same w is =
    let e1 = subst (λ t. arm_at a x ≡ offered_arm pri pick (Some 0) t a) r e in
    let f1 = subst (λ t. arm_at a y ≡ offered_arm pri pick None t a) s f in
    let here : IsFalse (not b) ↔ IsDeaf pick (offered_by None table) (W.Chooses pri a) = (
      λ no. deaf_if_same pri pick table a x y e1 f1 (same.0 ((not_false b).0 no)),
      λ deaf. (not_false b).1 (same.1 (same_if_deaf pri pick table a x y e1 f1 deaf)),
    ) in
    subst (λ v. IsFalse (not b) ↔ IsDeaf pick (offered_by None table) v) (sym is) (subst (λ l. IsFalse (not b) ↔ IsDeaf pick (offered_by None table) (W.Chooses pri l)) p here)

-- the table says who offers
module _ (tasks : Tasks) (table : List (Option ℕ)) (h : IsTable offers_on tasks table) where
  pub offers_told : (c : ℕ) → offers_among tasks c ≡ offered_by None table c
  offers_told c = by (entry_in table c) refl
    where
      unless : (b : Bool) → (IsTrue b → ⊥) → b ≡ false
      unless true g = absurd (g refl)
      unless false g = refl

      by : (x : Option ℕ) → entry_in table c ≡ x → offers_among tasks c ≡ is_entry x
      by (Some giver) e = let s = h.sound c giver (entry_there table c giver e) in offers_there tasks c giver s.task s.there s.is
      by None e = unless (offers_among tasks c) (λ o. let f = offers_found tasks c o in no_entry table c f.number e (h.whole c f.number f.task f.there f.offers))

-- ---- a turn that ended so stays within the bytes

module _ (kb : List ℕ) (n : Tables) (begun : Begun) (pick : ℕ) where
  abbrev number : ℕ
  number = begun.number

  pub stays_where_some : n.used < length kb → StaysWithinBytes kb n begun pick
  stays_where_some less = λ p first left items net h may there e. let some = there_left kb n.used less in let none : some.0 ∷ some.1 ≡ [] = sym some.2 ∙ sym h.bytes ∙ e in absurd cc

  pub stays_ready : begun.end ≡ T.Ready → StaysWithinBytes kb n begun pick
  stays_ready is = λ p first left items net h may there e. subst (λ (z : TurnEnd). IsDeaf pick (offers_among (slice_set net.tasks number (Some (ready_with left (standing_at z items left.wait))))) (standing_at z items left.wait)) (sym is) tt

  pub stays_offering : (tag : Option ℕ) (chan : ℕ) → begun.end ≡ T.Offers tag chan → StaysWithinBytes kb n begun pick
  stays_offering tag chan is = λ p first left items net h may there e. subst (λ (z : TurnEnd). IsDeaf pick (offers_among (slice_set net.tasks number (Some (ready_with left (standing_at z items left.wait))))) (standing_at z items left.wait)) (sym is) tt

  pub stays_awaiting : (chan : ℕ) → begun.end ≡ T.Awaits chan → nat_eq chan 0 ≡ false → StaysWithinBytes kb n begun pick
  stays_awaiting chan is other = λ p first left items net h may there e. subst (λ (z : TurnEnd). IsDeaf pick (offers_among (slice_set net.tasks number (Some (ready_with left (standing_at z items left.wait))))) (standing_at z items left.wait)) (sym is) other

  pub looks_awaiting : length kb ≤ n.used → (chan : ℕ) → begun.end ≡ T.Awaits chan → nat_eq chan 0 ≡ true → LooksPastBytes kb n begun pick
  looks_awaiting most chan is keyboard = λ p first left items net h may there stays.
      let deaf = subst (λ (z : TurnEnd). IsDeaf pick (offers_among (slice_set net.tasks number (Some (ready_with left (standing_at z items left.wait))))) (standing_at z items left.wait)) is (stays (h.bytes ∙ past kb n.used most)) in
      true≢false (sym keyboard ∙ deaf)

  -- who offers is told by the table, where the process offers nothing itself
  module _ (p : Program) (first left : Task) (net : Net) (h : Holds p kb (tables_with n number first) net) (may : IsTrue (may_go first.wait)) (there : HasTask n.tasks.items number left) where
    beside : ((c : ℕ) → offers_on left.wait c ≡ false) → (c : ℕ) → offered_by None n.offering.items c ≡ offers_among (slice_set net.tasks number (Some left)) c
    beside silent c =
        let tasks = (tables_with n number first).tasks.items in
        let was : HasTask tasks number first = set_same n.tasks.items number (Some left) (Some first) there in
        let table = table_kept tasks number first left was first.wait left.wait refl refl offers_on (λ d. going_offers first.wait d may) silent n.offering.items h.sound.offers in
        sym (offers_told (slice_set tasks number (Some left)) n.offering.items table c) ∙ ap (λ (l : Tasks). offers_among (slice_set l number (Some left)) c) (sym h.tasks)

    deaf_there : IsDeaf pick (offered_by None n.offering.items) left.wait → IsDeaf pick (offers_among (slice_set net.tasks number (Some left))) left.wait
    deaf_there = deaf_where pick (offered_by None n.offering.items) (offers_among (slice_set net.tasks number (Some left))) left.wait beside

    deaf_here : IsDeaf pick (offers_among (slice_set net.tasks number (Some left))) left.wait → IsDeaf pick (offered_by None n.offering.items) left.wait
    deaf_here = deaf_where pick (offers_among (slice_set net.tasks number (Some left))) (offered_by None n.offering.items) left.wait (λ silent c. sym (beside silent c))

  pub stays_elsewhere : begun.end ≡ T.Other → (t : Task) → HasTask n.tasks.items number t → IsDeaf pick (offered_by None n.offering.items) t.wait → StaysWithinBytes kb n begun pick
  stays_elsewhere is t here deaf = λ p first left items net h may there e.
      subst (λ (z : TurnEnd). IsDeaf pick (offers_among (slice_set net.tasks number (Some (ready_with left (standing_at z items left.wait))))) (standing_at z items left.wait)) (sym is)
      (deaf_there p first left net h may there (subst (λ (z : Task). IsDeaf pick (offered_by None n.offering.items) z.wait) (task_once n.tasks.items number here there) deaf))

  pub looks_elsewhere : length kb ≤ n.used → begun.end ≡ T.Other → (t : Task) → HasTask n.tasks.items number t → (IsDeaf pick (offered_by None n.offering.items) t.wait → ⊥) → LooksPastBytes kb n begun pick
  looks_elsewhere most is t here hears = λ p first left items net h may there stays.
      let deaf = subst (λ (z : TurnEnd). IsDeaf pick (offers_among (slice_set net.tasks number (Some (ready_with left (standing_at z items left.wait))))) (standing_at z items left.wait)) is (stays (h.bytes ∙ past kb n.used most)) in
      hears (subst (λ (z : Task). IsDeaf pick (offered_by None n.offering.items) z.wait) (task_once n.tasks.items number there here) (deaf_here p first left net h may there deaf))
