-- The same contents with more room.
use Rattle.std.proofs.Common.{◌≡◌, ◌∙◌, refl, sym, ap, ℕ, zero, suc, List, [], ◌∷◌, Some, length, drop}
use Rattle.std.specs.Prelude.{slice_get, slice_set}
use Rattle.occ_term.specs.declared.fault.Fault.{Fault}
use Rattle.occ_machine.specs.Compiled.{Program}
use Rattle.occ_machine.specs.declared.task.Task.{Task}
use Rattle.occ_machine.specs.declared.task.Wait.{Wait}
use Rattle.occ_net_replay.specs.Replay.{HasTask, Net}
use Rattle.occ_net_tables.specs.declared.tables.Tables.{Tables}
use Rattle.occ_net_tables.specs.Holding.{Holds, Sized, Sound}
use Rattle.occ_net_tables.specs.Room.{AreSame}
use Rattle.occ_net_tables.specs.Settling.{HasMid, IsTurnAt, Mid, Settles, Standing, tables_with}
use Rattle.occ_net_tables.proofs.OneChange.{set_twice, true_as}

module _ (old new : Tables) (s : AreSame old new) where
  sound_as : (noted : List Fault) → Sound old noted → Sound new noted
  sound_as noted h = true_as s.tasks s.ready s.offering s.awaiting s.parents s.unfinished s.fault h

  sized_as : (p : Program) → Sized p old → Sized p new
  sized_as p h =
      record {
        tasks_are = ap length s.tasks ∙ h.tasks_are;
        offering_is = ap length s.offering ∙ h.offering_is;
        awaiting_is = ap length s.awaiting ∙ h.awaiting_is;
        parents_are = ap length s.parents ∙ h.parents_are;
        unfinished_are = ap length s.unfinished ∙ h.unfinished_are;
      }

  pub holds_as : (p : Program) (kb : List ℕ) (net : Net) → Holds p kb old net → Holds p kb new net
  holds_as p kb net h =
      record {
        tasks = h.tasks ∙ sym s.tasks;
        bytes = h.bytes ∙ ap (λ n. drop n kb) (sym s.used);
        trace = h.trace ∙ (sym s.trace);
        sound = sound_as net.noted h.sound;
        sized = sized_as p h.sized;
      }

  pub mid_as : (p : Program) (kb : List ℕ) (number place : ℕ) (after : Task) (net : Net) → Mid p kb old number place after net → Mid p kb new number place after net
  mid_as p kb number place after net mid =
      record {
        before = mid.before;
        has_task = mid.has_task;
        may = mid.may;
        at_place = ap (λ l. slice_get l place) s.ready ∙ mid.at_place;
        ordinary = mid.ordinary;
        untaken = mid.untaken;
        tasks = s.tasks ∙ mid.tasks;
        bytes = mid.bytes ∙ ap (λ n. drop n kb) (sym s.used);
        trace = mid.trace ∙ (sym s.trace);
        sound = sound_as net.noted mid.sound;
        sized = sized_as p mid.sized;
        offers = mid.offers;
        listens = mid.listens;
        forks = mid.forks;
        unready = mid.unready;
      }

  pub has_mid_as : (p : Program) (number place : ℕ) (wait : Wait) → HasMid p old number place wait → HasMid p new number place wait
  has_mid_as p number place wait h = record { keyboard = h.keyboard; after = h.after; net = h.net; mid = mid_as p h.keyboard number place h.after h.net h.mid; waits = h.waits }

  pub settles_as : (p : Program) (kb : List ℕ) (pick number place : ℕ) (wait : Wait) (last : Tables) → Settles p kb pick number place wait new last → Settles p kb pick number place wait old last
  settles_as p kb pick number place wait last f = λ after net mid w. f after net (mid_as p kb number place after net mid) w

-- what stood there is put back
pub set_own : {X : Type 0} (xs : List X) (i : ℕ) (x : X) → slice_get xs i ≡ Some x → slice_set xs i x ≡ xs
set_own [] i x e = absurd cc
set_own (y ∷ ys) zero x e = let same : y ≡ x = cc in ap (λ z. z ∷ ys) (sym same)
set_own (y ∷ ys) (suc i) x e = ap (λ l. y ∷ l) (set_own ys i x e)

pub set_again : {X : Type 0} (xs between last : List X) (i : ℕ) (x y : X) → slice_get xs i ≡ Some x → between ≡ slice_set xs i y → last ≡ slice_set between i x → last ≡ xs
set_again xs between last i x y e b l = l ∙ ap (λ z. slice_set z i x) b ∙ set_twice xs i y x ∙ set_own xs i x e

-- tables with the task that stands there already
pub same_with : (n : Tables) (number : ℕ) (t : Task) → HasTask n.tasks.items number t → AreSame n (tables_with n number t)
same_with n number t there =
    record {
      tasks = set_own n.tasks.items number (Some t) there;
      ready = refl;
      offering = refl;
      awaiting = refl;
      parents = refl;
      unfinished = refl;
      fault = refl;
      used = refl;
      trace = refl;
    }

-- who stands there may have come to this task
pub standing_with : (p : Program) (kb : List ℕ) (n : Tables) (place number : ℕ) (after : Task) (t : IsTurnAt p n place number after)
    → Standing p kb n → Standing p kb (tables_with n number t.before) × IsTurnAt p (tables_with n number t.before) place number after
standing_with p kb n place number after t s =
    let same : AreSame n (tables_with n number t.before) = same_with n number t.before t.there in (
      record {
        choices = s.choices;
        few = s.few;
        net = s.net;
        replays = s.replays;
        open_end = s.open_end;
        holds = holds_as n (tables_with n number t.before) same p kb s.net s.holds;
      },
      record {
        body = t.body;
        before = t.before;
        at = t.at;
        has_body = t.has_body;
        there = ap (λ l. slice_get l number) same.tasks ∙ t.there;
        stops = t.stops;
      },
    )
