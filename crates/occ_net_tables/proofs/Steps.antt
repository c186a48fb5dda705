-- A process rests, or is made to go on: what is kept beside the tasks is changed with them.
use Rattle.std.proofs.Common.{◌≡◌, ◌∙◌, refl, sym, ap, Bool, false, IsTrue, ℕ, ℤ, zero, suc, ◌<◌, List, [], ◌∷◌, Option, Some, None, length, arith}
use Rattle.std.specs.Prelude.{slice_get, slice_set, nat_eq, remove}
use Rattle.std.proofs.lemmas.Bool.{eqb-true, eq-eqb}
use mathlib.Core.Bool.{true≢false}
use Rattle.occ_term.specs.declared.fault.Fault.{Fault}
use Rattle.occ_term.specs.declared.message.Message.{Message}
use Rattle.occ_term.specs.Frames.{Variables, is_held}
use Rattle.occ_machine.specs.SameStop.{joined_with, ready_with}
use Rattle.occ_machine.specs.declared.task.Arm.{Arm}
use Rattle.occ_machine.specs.declared.task.Task.{Task}
use Rattle.occ_machine.specs.declared.task.Wait.{Wait}
use Rattle.occ_machine.specs.declared.task.Wait.TheVariants as W
use Rattle.occ_net_replay.specs.Replay.{Tasks, HasTask, is_done, made_ready, may_go, offers_on, ready_from}
use Rattle.occ_net_replay.specs.Waiting.{channels_at, listens_on}
use Rattle.occ_net_replay.proofs.Tables.{set_other}
use Rattle.occ_net_replay.proofs.Quiet.{offers_is}
use Rattle.occ_net_tables.specs.Holding.{AreCounted, AreTrue, IsOrdinary, joins_on}
use Rattle.occ_net_tables.specs.Ready.{put_in}
use Rattle.occ_net_tables.specs.Keys.{set_all}
use Rattle.occ_net_tables.proofs.Keys.{all_gone, all_here, all_other}
use Rattle.occ_net_tables.proofs.OneChange.{set_within, table_kept, table_enters, table_leaves, counts_kept, ordinary_again}
use Rattle.occ_net_tables.proofs.ReadyLists.{ready_same, ready_put, ready_out}

-- ---- one key

pub key_same : (c d : ℕ) → IsTrue (nat_eq c d) → d ≡ c
key_same c d e = sym (eqb-true c d e)

pub key_other : (c d : ℕ) → nat_eq c d ≡ false → d ≡ c → ⊥
key_other c d e q = true≢false (sym (eq-eqb c d (sym q)) ∙ e)

pub set_gone : (xs : List (Option ℕ)) (c j : ℕ) → slice_get (slice_set xs c None) c ≡ Some (Some j) → ⊥
set_gone [] c j e = cc
set_gone (x ∷ xs) zero j e = cc
set_gone (x ∷ xs) (suc c) j e = set_gone xs c j e

key_gone : (xs : List (Option ℕ)) (c d j : ℕ) → IsTrue (nat_eq c d) → slice_get (slice_set xs c None) d ≡ Some (Some j) → ⊥
key_gone xs c d j k e = set_gone xs c j (ap (slice_get (slice_set xs c None)) (sym (key_same c d k)) ∙ e)

key_here : (xs : List (Option ℕ)) (c d i : ℕ) → c < length xs → IsTrue (nat_eq c d) → slice_get (slice_set xs c (Some i)) d ≡ Some (Some i)
key_here xs c d i h k = ap (slice_get (slice_set xs c (Some i))) (key_same c d k) ∙ set_within xs c (Some i) h

key_kept : (xs : List (Option ℕ)) (c d : ℕ) (v : Option ℕ) → nat_eq c d ≡ false → slice_get (slice_set xs c v) d ≡ slice_get xs d
key_kept xs c d v k = set_other xs c d v (key_other c d k)

-- a wait that may be for a message
pub data IsListener : Wait → Type 0 where
  at_input : {c : ℕ} → IsListener (W.Awaits c)
  at_choice : {pri : Bool} {arms : List Arm} → IsListener (W.Chooses pri arms)

pub listener_is : (w : Wait) (c : ℕ) → IsTrue (listens_on w c) → IsListener w
listener_is W.Ready c h = absurd (true≢false (sym h))
listener_is (W.Took arm is m) c h = absurd (true≢false (sym h))
listener_is (W.Offers d m) c h = absurd (true≢false (sym h))
listener_is (W.Awaits d) c h = at_input
listener_is (W.Chooses pri arms) c h = at_choice
listener_is (W.Joins ns) c h = absurd (true≢false (sym h))
listener_is W.Halted c h = absurd (true≢false (sym h))
listener_is W.Done c h = absurd (true≢false (sym h))
listener_is (W.Faulted e) c h = absurd (true≢false (sym h))

-- such a wait is no other
pub record ListensOnly (w : Wait) : Type 0 where
  pub still : may_go w ≡ false
  pub offers : (c : ℕ) → offers_on w c ≡ false
  pub joins : (c : ℕ) → joins_on w c ≡ false
  pub undone : is_done w ≡ false
  pub unforked : (ns : List ℕ) → w ≡ W.Joins ns → ⊥
  pub ordinary : IsOrdinary w

pub listens_only : (w : Wait) → IsListener w → ListensOnly w
listens_only w at_input = record { still = refl; offers = λ d. refl; joins = λ d. refl; undone = refl; unforked = λ ns q. cc; ordinary = tt }
listens_only w at_choice = record { still = refl; offers = λ d. refl; joins = λ d. refl; undone = refl; unforked = λ ns q. cc; ordinary = tt }

module _ (tasks : Tasks) (ready : List ℕ) (offering awaiting parents : List (Option ℕ)) (unfinished : List ℕ) (fault : Option Fault) {first : Option Fault} (h : AreTrue tasks ready offering awaiting parents unfinished fault first) (i : ℕ) (t : Task) (there : HasTask tasks i t) where
  abbrev with_task : Task → Tasks
  with_task u = slice_set tasks i (Some u)

  -- ---- a process is made to go on

  woken : (u : Task) → may_go t.wait ≡ false → IsTrue (may_go u.wait) → put_in i ready ≡ ready_from 0 (with_task u)
  woken u e f = ap (put_in i) h.ready_is ∙ sym (ready_put 0 tasks i i (Some t) (Some u) there e f (omega arith))

  pub wake_listener : (w : Wait) (k : ℕ) (is : List ℤ) (m : Option Message) → IsListener w → t.wait ≡ w → AreTrue (with_task (ready_with t (W.Took k is m))) (put_in i ready) offering (set_all (channels_at w) None awaiting) parents unfinished fault first
  wake_listener w k is m l e =
      let new : Task = ready_with t (W.Took k is m) in
      let v : Wait = W.Took k is m in
      let o = listens_only w l in
      record {
        ready_is = woken new (ap may_go e ∙ o.still) refl;
        offers = table_kept tasks i t new there w v e refl offers_on o.offers (λ d. refl) offering h.offers;
        awaits = table_leaves tasks i t new there w v e refl listens_on (is_held (channels_at w)) (λ d. refl) (λ d. refl) awaiting (set_all (channels_at w) None awaiting) (λ d j x. all_gone (channels_at w) awaiting d j x) (λ d x. all_other (channels_at w) None awaiting d x) h.awaits;
        joins = table_kept tasks i t new there w v e refl joins_on o.joins (λ d. refl) parents h.joins;
        counted = counts_kept tasks i t new there w v e refl (sym o.undone) (λ ns q. cc) unfinished h.counted;
        ordinary = ordinary_again tasks i t new there w v e refl tt h.ordinary;
        fault_is = h.fault_is;
      }

  pub wake_offerer : (c : ℕ) (m : Message) → t.wait ≡ W.Offers c m → AreTrue (with_task (made_ready t)) (put_in i ready) (slice_set offering c None) awaiting parents unfinished fault first
  wake_offerer c m e =
      let new : Task = made_ready t in
      let w : Wait = W.Offers c m in
      let v : Wait = W.Ready in
      record {
        ready_is = woken new (ap may_go e) refl;
        offers = table_leaves tasks i t new there w v e refl offers_on (nat_eq c) (λ d. refl) (λ d. refl) offering (slice_set offering c None) (λ d j k. key_gone offering c d j k) (λ d k. key_kept offering c d None k) h.offers;
        awaits = table_kept tasks i t new there w v e refl listens_on (λ d. refl) (λ d. refl) awaiting h.awaits;
        joins = table_kept tasks i t new there w v e refl joins_on (λ d. refl) (λ d. refl) parents h.joins;
        counted = counts_kept tasks i t new there w v e refl refl (λ ns q. cc) unfinished h.counted;
        ordinary = ordinary_again tasks i t new there w v e refl tt h.ordinary;
        fault_is = h.fault_is;
      }

  -- ---- a process that may go on

  module _ (e : t.wait ≡ W.Ready) where
    pub takes : (k : ℕ) (is : List ℤ) (m : Option Message) → AreTrue (with_task (ready_with t (W.Took k is m))) ready offering awaiting parents unfinished fault first
    takes k is m =
        let new : Task = ready_with t (W.Took k is m) in
        let v : Wait = W.Took k is m in
        record {
          ready_is = h.ready_is ∙ sym (ready_same 0 tasks i (Some t) (Some new) there (ap may_go e));
          offers = table_kept tasks i t new there W.Ready v e refl offers_on (λ d. refl) (λ d. refl) offering h.offers;
          awaits = table_kept tasks i t new there W.Ready v e refl listens_on (λ d. refl) (λ d. refl) awaiting h.awaits;
          joins = table_kept tasks i t new there W.Ready v e refl joins_on (λ d. refl) (λ d. refl) parents h.joins;
          counted = counts_kept tasks i t new there W.Ready v e refl refl (λ ns q. cc) unfinished h.counted;
          ordinary = ordinary_again tasks i t new there W.Ready v e refl tt h.ordinary;
          fault_is = h.fault_is;
        }

    module _ (place : ℕ) (at_place : slice_get ready place ≡ Some i) (new : Task) where
      pub rested : (v : Wait) → new.wait ≡ v → may_go v ≡ false → remove ready place ≡ ready_from 0 (with_task new)
      rested v f q =
          ap (λ l. remove l place) h.ready_is
          ∙ sym (ready_out 0 tasks i i place (Some new) (ap (λ l. slice_get l place) (sym h.ready_is) ∙ at_place) (ap may_go f ∙ q) (omega arith))

      pub rest_offer : (c : ℕ) (m : Message) → new.wait ≡ W.Offers c m → c < length offering → ((j : ℕ) (u : Task) (x : Message) → HasTask tasks j u → u.wait ≡ W.Offers c x → ⊥) → AreTrue (with_task new) (remove ready place) (slice_set offering c (Some i)) awaiting parents unfinished fault first
      rest_offer c m f within alone =
          let v : Wait = W.Offers c m in
          record {
            ready_is = rested v f refl;
            offers = table_enters tasks i t new there W.Ready v e f offers_on (nat_eq c) (λ d. refl) (λ d. refl) offering (slice_set offering c (Some i)) (λ d j u k g s. let x = offers_is u.wait d s in alone j u x.0 g (x.1 ∙ ap (λ z. W.Offers z x.0) (key_same c d k))) (λ d k. key_here offering c d i within k) (λ d k. key_kept offering c d (Some i) k) h.offers;
            awaits = table_kept tasks i t new there W.Ready v e f listens_on (λ d. refl) (λ d. refl) awaiting h.awaits;
            joins = table_kept tasks i t new there W.Ready v e f joins_on (λ d. refl) (λ d. refl) parents h.joins;
            counted = counts_kept tasks i t new there W.Ready v e f refl (λ ns q. cc) unfinished h.counted;
            ordinary = ordinary_again tasks i t new there W.Ready v e f tt h.ordinary;
            fault_is = h.fault_is;
          }

      pub rest_listener : (v : Wait) → IsListener v → new.wait ≡ v → ((c : ℕ) → IsTrue (listens_on v c) → c < length awaiting) → ((c j : ℕ) (u : Task) → IsTrue (listens_on v c) → HasTask tasks j u → IsTrue (listens_on u.wait c) → ⊥) → AreTrue (with_task new) (remove ready place) offering (set_all (channels_at v) (Some i) awaiting) parents unfinished fault first
      rest_listener v l f within alone =
          let o = listens_only v l in
          record {
            ready_is = rested v f o.still;
            offers = table_kept tasks i t new there W.Ready v e f offers_on (λ d. refl) o.offers offering h.offers;
            awaits = table_enters tasks i t new there W.Ready v e f listens_on (is_held (channels_at v)) (λ d. refl) (λ d. refl) awaiting (set_all (channels_at v) (Some i) awaiting) (λ d j u k g s. alone d j u k g s) (λ d k. all_here (channels_at v) (Some i) awaiting d k (within d k)) (λ d k. all_other (channels_at v) (Some i) awaiting d k) h.awaits;
            joins = table_kept tasks i t new there W.Ready v e f joins_on (λ d. refl) o.joins parents h.joins;
            counted = counts_kept tasks i t new there W.Ready v e f o.undone o.unforked unfinished h.counted;
            ordinary = ordinary_again tasks i t new there W.Ready v e f o.ordinary h.ordinary;
            fault_is = h.fault_is;
          }

      pub rest_halted : new.wait ≡ W.Halted → AreTrue (with_task new) (remove ready place) offering awaiting parents unfinished fault first
      rest_halted f =
          record {
            ready_is = rested W.Halted f refl;
            offers = table_kept tasks i t new there W.Ready W.Halted e f offers_on (λ d. refl) (λ d. refl) offering h.offers;
            awaits = table_kept tasks i t new there W.Ready W.Halted e f listens_on (λ d. refl) (λ d. refl) awaiting h.awaits;
            joins = table_kept tasks i t new there W.Ready W.Halted e f joins_on (λ d. refl) (λ d. refl) parents h.joins;
            counted = counts_kept tasks i t new there W.Ready W.Halted e f refl (λ ns q. cc) unfinished h.counted;
            ordinary = ordinary_again tasks i t new there W.Ready W.Halted e f tt h.ordinary;
            fault_is = h.fault_is;
          }

      pub rest_faulted : (x : Fault) {kept all : Option Fault} → kept ≡ all → new.wait ≡ W.Faulted x → AreTrue (with_task new) (remove ready place) offering awaiting parents unfinished kept all
      rest_faulted x is f =
          let v : Wait = W.Faulted x in
          record {
            ready_is = rested v f refl;
            offers = table_kept tasks i t new there W.Ready v e f offers_on (λ d. refl) (λ d. refl) offering h.offers;
            awaits = table_kept tasks i t new there W.Ready v e f listens_on (λ d. refl) (λ d. refl) awaiting h.awaits;
            joins = table_kept tasks i t new there W.Ready v e f joins_on (λ d. refl) (λ d. refl) parents h.joins;
            counted = counts_kept tasks i t new there W.Ready v e f refl (λ ns q. cc) unfinished h.counted;
            ordinary = ordinary_again tasks i t new there W.Ready v e f tt h.ordinary;
            fault_is = is;
          }

      pub rest_done : new.wait ≡ W.Done → (counts : List ℕ) → AreCounted (with_task new) counts → AreTrue (with_task new) (remove ready place) offering awaiting parents counts fault first
      rest_done f counts counted =
          record {
            ready_is = rested W.Done f refl;
            offers = table_kept tasks i t new there W.Ready W.Done e f offers_on (λ d. refl) (λ d. refl) offering h.offers;
            awaits = table_kept tasks i t new there W.Ready W.Done e f listens_on (λ d. refl) (λ d. refl) awaiting h.awaits;
            joins = table_kept tasks i t new there W.Ready W.Done e f joins_on (λ d. refl) (λ d. refl) parents h.joins;
            counted = counted;
            ordinary = ordinary_again tasks i t new there W.Ready W.Done e f tt h.ordinary;
            fault_is = h.fault_is;
          }

  -- ---- a process whose branches are done

  pub rejoins : (ns : List ℕ) (g : Variables) → t.wait ≡ W.Joins ns → AreTrue (with_task (joined_with t g)) (put_in i ready) offering awaiting (set_all ns None parents) unfinished fault first
  rejoins ns g e =
      let new : Task = joined_with t g in
      let w : Wait = W.Joins ns in
      record {
        ready_is = woken new (ap may_go e) refl;
        offers = table_kept tasks i t new there w W.Ready e refl offers_on (λ d. refl) (λ d. refl) offering h.offers;
        awaits = table_kept tasks i t new there w W.Ready e refl listens_on (λ d. refl) (λ d. refl) awaiting h.awaits;
        joins = table_leaves tasks i t new there w W.Ready e refl joins_on (is_held ns) (λ d. refl) (λ d. refl) parents (set_all ns None parents) (λ d j k. all_gone ns parents d j k) (λ d k. all_other ns None parents d k) h.joins;
        counted = counts_kept tasks i t new there w W.Ready e refl refl (λ ms q. cc) unfinished h.counted;
        ordinary = ordinary_again tasks i t new there w W.Ready e refl tt h.ordinary;
        fault_is = h.fault_is;
      }
