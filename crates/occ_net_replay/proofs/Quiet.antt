-- In a network between two turns nothing can happen that does not need a turn.
use Rattle.std.proofs.Common.{◌≡◌, ◌∙◌, refl, sym, ap, subst, Bool, true, false, IsTrue, IsFalse, ℕ, ◌⊎◌, inl, inr, List, [], ◌∷◌, Option, Some, None}
use Rattle.std.specs.Prelude.{slice_get, ◌||◌, nat_eq}
use Rattle.std.specs.Option.{option_map_or}
use Rattle.std.proofs.lemmas.Bool.{eqb-true, eq-eqb}
use mathlib.Core.Bool.{true≢false}
use Rattle.occ_term.specs.declared.message.Message.{Message}
use Rattle.occ_term.specs.Frames.{is_held}
use Rattle.occ_term.specs.Selecting.{is_ready_on}
use Rattle.occ_term.specs.declared.communication.End.TheVariants.{Process as OfProcess}
use Rattle.occ_term.specs.System.{has_byte}
use Rattle.occ_machine.specs.Machine.{Body}
use Rattle.occ_machine.specs.declared.task.Arm.{Arm}
use Rattle.occ_machine.specs.declared.task.Task.{Task}
use Rattle.occ_machine.specs.declared.task.Wait.{Wait}
use Rattle.occ_machine.specs.declared.task.Wait.TheVariants as W
use Rattle.occ_net_replay.specs.Replay.{Net, Tasks, HasTask, may_go, made_ready, offers_on, offers_among, standing, arm_chosen, task_gives, keyboard_gives, task_gets, arm_gets, screen_gets, error_gets, joined, took_turn, ended, is_done, AreDone, Happens, meets, skips, forks, joins}
use Rattle.occ_net_replay.specs.Moments.{NoneReady, Quiet, is_read}
use Rattle.occ_net_replay.proofs.Tables.{set_same, set_other, same_or_not, task_once, OffersOn, offers_found, offers_there, Chosen, chosen_or_none, chosen_unready, or_first, or_second, or_else}

-- ---- waits

pub offers_is : (w : Wait) (c : ℕ) → IsTrue (offers_on w c) → (m : Message) × (w ≡ W.Offers c m)
offers_is W.Ready c h = absurd (true≢false (sym h))
offers_is (W.Took arm is m) c h = absurd (true≢false (sym h))
offers_is (W.Offers d m) c h = (m, ap (λ z. W.Offers z m) (eqb-true d c h))
offers_is (W.Awaits d) c h = absurd (true≢false (sym h))
offers_is (W.Chooses pri arms) c h = absurd (true≢false (sym h))
offers_is (W.Joins ns) c h = absurd (true≢false (sym h))
offers_is W.Halted c h = absurd (true≢false (sym h))
offers_is W.Done c h = absurd (true≢false (sym h))
offers_is (W.Faulted e) c h = absurd (true≢false (sym h))

-- offers nothing, awaits nothing and does not choose
abbrev pub is_calm : Wait → Bool
is_calm W.Ready = true
is_calm (W.Took arm is m) = true
is_calm (W.Offers c m) = false
is_calm (W.Awaits c) = false
is_calm (W.Chooses pri arms) = false
is_calm (W.Joins ns) = true
is_calm W.Halted = true
is_calm W.Done = true
is_calm (W.Faulted e) = true

pub calm_not : {w v : Wait} → w ≡ v → is_calm v ≡ false → IsTrue (is_calm w) → ⊥
calm_not e f h = true≢false (sym h ∙ ap is_calm e ∙ f)

pub still_not : {w v : Wait} → w ≡ v → may_go v ≡ false → IsFalse (may_go w)
still_not e f = ap may_go e ∙ f

pub byte_there : (kb : List ℕ) (c : ℕ) → IsTrue (has_byte kb c) → (b : ℕ) × (rest : List ℕ) × (kb ≡ b ∷ rest) × (c ≡ 0)
byte_there [] c h = absurd (true≢false (sym h))
byte_there (b ∷ kb) c h = (b, kb, refl, eqb-true c 0 h)

-- ---- branches that are done

abbrev pub done_at : Tasks → ℕ → Bool
done_at tasks i = option_map_or ended (slice_get tasks i) false

pub done_map : (old new : Tasks) (ns : List ℕ) → ((i : ℕ) → IsTrue (is_held ns i) → IsTrue (done_at new i) → IsTrue (done_at old i)) → AreDone new ns → AreDone old ns
done_map old new [] g h = tt
done_map old new (n ∷ ns) g h = (g n (or_first (nat_eq n n) (is_held ns n) (same_eq n)) h.0, done_map old new ns (λ i m. g i (or_second (nat_eq n i) (is_held ns i) m)) h.1)
  where
    same_eq : (n : ℕ) → IsTrue (nat_eq n n)
    same_eq n = eq-eqb n n refl

pub done_is : (tasks : Tasks) (i : ℕ) → IsTrue (done_at tasks i) → (t : Task) × HasTask tasks i t × IsTrue (is_done t.wait)
done_is tasks i h = by (slice_get tasks i) refl h
  where
    by : (x : Option (Option Task)) → slice_get tasks i ≡ x → IsTrue (option_map_or ended x false) → (t : Task) × HasTask tasks i t × IsTrue (is_done t.wait)
    by None e h = absurd (true≢false (sym h))
    by (Some None) e h = absurd (true≢false (sym h))
    by (Some (Some t)) e h = (t, e, h)

pub done_has : (tasks : Tasks) (i : ℕ) (t : Task) → HasTask tasks i t → IsTrue (is_done t.wait) → IsTrue (done_at tasks i)
done_has tasks i t e h = subst (λ x. IsTrue (option_map_or ended x false)) (sym e) h

pub done_still : (w : Wait) → IsTrue (is_done w) → IsFalse (may_go w)
done_still W.Ready h = absurd (true≢false (sym h))
done_still (W.Took arm is m) h = absurd (true≢false (sym h))
done_still (W.Offers c m) h = refl
done_still (W.Awaits c) h = refl
done_still (W.Chooses pri arms) h = refl
done_still (W.Joins ns) h = refl
done_still W.Halted h = refl
done_still W.Done h = refl
done_still (W.Faulted e) h = refl

-- ---- where the process that took the turn waits for no message, and every other waiting task was there

module _ (old new : Net) (n : ℕ) (quiet : Quiet old) (others : (i : ℕ) (t : Task) → HasTask new.tasks i t → IsFalse (may_go t.wait) → (i ≡ n → ⊥) → HasTask old.tasks i t) (bytes : (c : ℕ) → IsTrue (has_byte new.keyboard c) → IsTrue (has_byte old.keyboard c)) (calm : (t : Task) → HasTask new.tasks n t → IsTrue (is_calm t.wait)) where
  was_there : (i : ℕ) (t : Task) (w : Wait) → HasTask new.tasks i t → t.wait ≡ w → may_go w ≡ false → is_calm w ≡ false → HasTask old.tasks i t
  was_there i t w h e s f = others i t h (still_not e s) (λ q. calm_not e f (calm t (subst (λ z. HasTask new.tasks z t) q h)))

  standing_less : (c : ℕ) → IsTrue (standing new c) → IsTrue (standing old c)
  standing_less c h = by (or_else (has_byte new.keyboard c) (offers_among new.tasks c) h)
    where
      by : IsTrue (has_byte new.keyboard c) ⊎ IsTrue (offers_among new.tasks c) → IsTrue (standing old c)
      by (inl x) = or_first (has_byte old.keyboard c) (offers_among old.tasks c) (bytes c x)
      by (inr x) =
          let o = offers_found new.tasks c x in
          let w = offers_is o.task.wait c o.offers in
          or_second (has_byte old.keyboard c) (offers_among old.tasks c) (offers_there old.tasks c o.number o.task (was_there o.number o.task (W.Offers c w.0) o.there w.1 refl refl) o.offers)

  less_ready : (arms : List Arm) → NoneReady (λ a. a.chan) (standing old) arms → NoneReady (λ a. a.chan) (standing new) arms
  less_ready [] h = tt
  less_ready (a ∷ arms) h = (by a.chan h.0, less_ready arms h.1)
    where
      not_true : (b : Bool) → (IsTrue b → ⊥) → b ≡ false
      not_true true f = absurd (f refl)
      not_true false f = refl

      by : (x : Option ℕ) → is_ready_on (standing old) x ≡ false → is_ready_on (standing new) x ≡ false
      by None q = q
      by (Some c) q = not_true (standing new c) (λ y. true≢false (sym (standing_less c y) ∙ q))

  pub quiet_again : ((i : ℕ) (t : Task) (ns : List ℕ) → HasTask new.tasks i t → t.wait ≡ W.Joins ns → AreDone new.tasks ns → ⊥) → Quiet new
  quiet_again g =
      record {
        unread = λ i t c m h w. quiet.unread i t c m (was_there i t (W.Offers c m) h w refl refl) w;
        unheard = λ i t c h w s. quiet.unheard i t c (was_there i t (W.Awaits c) h w refl refl) w (standing_less c s);
        unready = λ i t pri arms h w. less_ready arms (quiet.unready i t pri arms (was_there i t (W.Chooses pri arms) h w refl refl) w);
        unjoined = g;
      }

-- ---- where nothing happens after a turn

module _ (bodies : List Body) (net : Net) (n pick : ℕ) (before after : Task) (quiet : Quiet net) (there : HasTask net.tasks n before) (none : (b : Net) → Happens bodies n pick (took_turn net n after) b → ⊥) where
  abbrev now : Net
  now = took_turn net n after

  mine : HasTask now.tasks n after
  mine = set_same net.tasks n (Some before) (Some after) there

  other : (i : ℕ) (t : Task) → HasTask now.tasks i t → (i ≡ n → ⊥) → HasTask net.tasks i t
  other i t h k = sym (set_other net.tasks n i (Some after) k) ∙ h

  -- a task offers on the channel, and another one gets it
  offered_to : (z i : ℕ) (u t : Task) (c : ℕ) → HasTask now.tasks z u → IsTrue (offers_on u.wait c) → HasTask now.tasks i t → t.wait ≡ W.Awaits c → (z ≡ n) ⊎ (i ≡ n) → ⊥
  offered_to z i u t c hz o hi w part =
      let x = offers_is u.wait c o in
      let apart : i ≡ z → ⊥ = (λ e. let same : t ≡ u = task_once now.tasks z (subst (λ y. HasTask now.tasks y t) e hi) hz in let q = sym w ∙ ap (λ y. y.wait) same ∙ x.1 in absurd cc) in
      none _ (meets (sides part) (joined (task_gives hz x.1) (task_gets (set_other now.tasks z i (Some (made_ready u)) apart ∙ hi) w)))
    where
      sides : (z ≡ n) ⊎ (i ≡ n) → (OfProcess z ≡ OfProcess n) ⊎ (OfProcess i ≡ OfProcess n)
      sides (inl e) = inl (ap OfProcess e)
      sides (inr e) = inr (ap OfProcess e)

  chosen_by : (z i : ℕ) (u t : Task) (c : ℕ) (pri : Bool) (arms : List Arm) (a : Arm) → HasTask now.tasks z u → IsTrue (offers_on u.wait c) → HasTask now.tasks i t → t.wait ≡ W.Chooses pri arms → arm_chosen pri pick (standing now) arms ≡ Some a → a.chan ≡ Some c → (z ≡ n) ⊎ (i ≡ n) → ⊥
  chosen_by z i u t c pri arms a hz o hi w e f part =
      let x = offers_is u.wait c o in
      let apart : i ≡ z → ⊥ = (λ q. let same : t ≡ u = task_once now.tasks z (subst (λ y. HasTask now.tasks y t) q hi) hz in let r = sym w ∙ ap (λ y. y.wait) same ∙ x.1 in absurd cc) in
      none _ (meets (sides part) (joined (task_gives hz x.1) (arm_gets (set_other now.tasks z i (Some (made_ready u)) apart ∙ hi) w e f)))
    where
      sides : (z ≡ n) ⊎ (i ≡ n) → (OfProcess z ≡ OfProcess n) ⊎ (OfProcess i ≡ OfProcess n)
      sides (inl e) = inl (ap OfProcess e)
      sides (inr e) = inr (ap OfProcess e)

  stays_unread : (i : ℕ) (t : Task) (c : ℕ) (m : Message) → HasTask now.tasks i t → t.wait ≡ W.Offers c m → is_read c ≡ false
  stays_unread i t c m h w = by (same_or_not i n)
    where
      read : (a b : Bool) → nat_eq c 1 ≡ a → nat_eq c 2 ≡ b → i ≡ n → (a || b) ≡ false
      read true b e f q = absurd (none _ (meets (inl (ap OfProcess q)) (joined (task_gives h w) (screen_gets (eqb-true c 1 e)))))
      read false true e f q = absurd (none _ (meets (inl (ap OfProcess q)) (joined (task_gives h w) (error_gets (eqb-true c 2 f)))))
      read false false e f q = refl

      by : (i ≡ n) ⊎ (i ≡ n → ⊥) → is_read c ≡ false
      by (inl q) = read (nat_eq c 1) (nat_eq c 2) refl refl q
      by (inr k) = quiet.unread i t c m (other i t h k) w

  stays_unheard : (i : ℕ) (t : Task) (c : ℕ) → HasTask now.tasks i t → t.wait ≡ W.Awaits c → IsTrue (standing now c) → ⊥
  stays_unheard i t c h w s = by (or_else (has_byte net.keyboard c) (offers_among now.tasks c) s) (same_or_not i n)
    where
      offered : (o : OffersOn now.tasks c) → (i ≡ n) ⊎ (i ≡ n → ⊥) → (o.number ≡ n) ⊎ (o.number ≡ n → ⊥) → ⊥
      offered o (inl q) y = offered_to o.number i o.task t c o.there o.offers h w (inr q)
      offered o (inr k) (inl q) = offered_to o.number i o.task t c o.there o.offers h w (inl q)
      offered o (inr k) (inr l) = quiet.unheard i t c (other i t h k) w (or_second (has_byte net.keyboard c) (offers_among net.tasks c) (offers_there net.tasks c o.number o.task (other o.number o.task o.there l) o.offers))

      by : IsTrue (has_byte net.keyboard c) ⊎ IsTrue (offers_among now.tasks c) → (i ≡ n) ⊎ (i ≡ n → ⊥) → ⊥
      by (inl x) (inl q) = let (b, kb, e, z) = byte_there net.keyboard c x in none _ (meets (inr (ap OfProcess q)) (joined (keyboard_gives e z refl) (task_gets h w)))
      by (inl x) (inr k) = quiet.unheard i t c (other i t h k) w (or_first (has_byte net.keyboard c) (offers_among net.tasks c) x)
      by (inr x) y = let o = offers_found now.tasks c x in offered o y (same_or_not o.number n)

  stays_unready : (i : ℕ) (t : Task) (pri : Bool) (arms : List Arm) → HasTask now.tasks i t → t.wait ≡ W.Chooses pri arms → NoneReady (λ a. a.chan) (standing now) arms
  stays_unready i t pri arms h w = by (chosen_or_none (λ a. a.chan) (standing now) pri pick arms)
    where
      offered : (a : Arm) (c : ℕ) → arm_chosen pri pick (standing now) arms ≡ Some a → a.chan ≡ Some c → (o : OffersOn now.tasks c) → (i ≡ n) ⊎ ((i ≡ n → ⊥) × (is_ready_on (standing net) a.chan ≡ false)) → (o.number ≡ n) ⊎ (o.number ≡ n → ⊥) → ⊥
      offered a c e f o (inl q) y = chosen_by o.number i o.task t c pri arms a o.there o.offers h w e f (inr q)
      offered a c e f o (inr k) (inl q) = chosen_by o.number i o.task t c pri arms a o.there o.offers h w e f (inl q)
      offered a c e f o (inr k) (inr l) =
          let stood : IsTrue (standing net c) = or_second (has_byte net.keyboard c) (offers_among net.tasks c) (offers_there net.tasks c o.number o.task (other o.number o.task o.there l) o.offers) in
          true≢false (sym stood ∙ sym (ap (is_ready_on (standing net)) f) ∙ k.1)

      on : (a : Arm) (c : ℕ) → arm_chosen pri pick (standing now) arms ≡ Some a → a.chan ≡ Some c → (i ≡ n) ⊎ ((i ≡ n → ⊥) × (is_ready_on (standing net) a.chan ≡ false)) → IsTrue (has_byte net.keyboard c) ⊎ IsTrue (offers_among now.tasks c) → ⊥
      on a c e f (inl q) (inl x) = let (b, kb, g, z) = byte_there net.keyboard c x in none _ (meets (inr (ap OfProcess q)) (joined (keyboard_gives g z refl) (arm_gets h w e f)))
      on a c e f (inr k) (inl x) = true≢false (sym (or_first (has_byte net.keyboard c) (offers_among net.tasks c) x) ∙ sym (ap (is_ready_on (standing net)) f) ∙ k.1)
      on a c e f y (inr x) = let o = offers_found now.tasks c x in offered a c e f o y (same_or_not o.number n)

      arm : (a : Arm) → arm_chosen pri pick (standing now) arms ≡ Some a → (chan : Option ℕ) → a.chan ≡ chan → IsTrue (is_ready_on (standing now) chan) → (i ≡ n) ⊎ ((i ≡ n → ⊥) × (is_ready_on (standing net) a.chan ≡ false)) → ⊥
      arm a e None f r (inl q) = none _ (skips (subst (λ y. HasTask now.tasks y t) q h) w e f)
      arm a e None f r (inr k) = true≢false (sym (ap (is_ready_on (standing net)) f) ∙ k.1)
      arm a e (Some c) f r y = on a c e f y (or_else (has_byte net.keyboard c) (offers_among now.tasks c) r)

      who : (a : Arm) → arm_chosen pri pick (standing now) arms ≡ Some a → (i ≡ n) ⊎ (i ≡ n → ⊥) → (i ≡ n) ⊎ ((i ≡ n → ⊥) × (is_ready_on (standing net) a.chan ≡ false))
      who a e (inl q) = inl q
      who a e (inr k) = inr (k, chosen_unready (λ x. x.chan) (standing now) (standing net) pri pick arms a (quiet.unready i t pri arms (other i t h k) w) e)

      by : NoneReady (λ a. a.chan) (standing now) arms ⊎ Chosen (λ a. a.chan) (standing now) pri pick arms → NoneReady (λ a. a.chan) (standing now) arms
      by (inl x) = x
      by (inr x) = absurd (arm x.arm x.is x.arm.chan refl x.ready (who x.arm x.is (same_or_not i n)))

  stays_unjoined : (i : ℕ) (t : Task) (ns : List ℕ) → HasTask now.tasks i t → t.wait ≡ W.Joins ns → AreDone now.tasks ns → ⊥
  stays_unjoined i t ns h w g = by (same_or_not i n) (is_held ns n) refl
    where
      was_done : is_held ns n ≡ false → (j : ℕ) → IsTrue (is_held ns j) → IsTrue (done_at now.tasks j) → IsTrue (done_at net.tasks j)
      was_done f j m x = subst (λ y. IsTrue (option_map_or ended y false)) (set_other net.tasks n j (Some after) (λ q. true≢false (sym m ∙ ap (is_held ns) q ∙ f))) x

      by : (i ≡ n) ⊎ (i ≡ n → ⊥) → (b : Bool) → is_held ns n ≡ b → ⊥
      by (inl q) b f = none _ (forks (subst (λ y. HasTask now.tasks y t) q h) w)
      by (inr k) true f = none _ (joins i h w f g)
      by (inr k) false f = quiet.unjoined i t ns (other i t h k) w (done_map net.tasks now.tasks ns (was_done f) g)

  pub quiet_stays : Quiet now
  quiet_stays = record { unread = stays_unread; unheard = stays_unheard; unready = stays_unready; unjoined = stays_unjoined }
