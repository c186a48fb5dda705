-- After a turn: what is met happens, and where nothing is met nothing happens.
use Rattle.std.proofs.Common.{◌≡◌, ◌∙◌, refl, sym, ap, subst, Bool, true, false, IsTrue, ℕ, ◌⊎◌, inl, inr, List, ◌∷◌, Some}
use Rattle.std.specs.Prelude.{slice_set, nat_eq}
use mathlib.Core.Bool.{true≢false}
use Rattle.occ_term.specs.declared.message.Message.{Message}
use Rattle.occ_term.specs.Frames.{is_held}
use Rattle.occ_term.specs.Runs.{TakesPart}
use Rattle.occ_term.specs.declared.communication.Communication.{Communication}
use Rattle.occ_term.specs.declared.communication.End.{End}
use Rattle.occ_term.specs.declared.communication.End.TheVariants.{Process as OfProcess}
use Rattle.occ_term.specs.System.{has_byte}
use Rattle.occ_machine.specs.Machine.{Body}
use Rattle.occ_machine.specs.declared.task.Arm.{Arm}
use Rattle.occ_machine.specs.declared.task.Task.{Task}
use Rattle.occ_machine.specs.declared.task.Wait.{Wait}
use Rattle.occ_machine.specs.declared.task.Wait.TheVariants as W
use Rattle.occ_net_replay.specs.Replay.{Net, HasTask, AreDone, Gets, task_gets, arm_gets, screen_gets, error_gets, Happens, meets, skips, forks, joins, PassesOn, joined, is_done, keyboard_gives, made_ready, standing, task_gives, took_turn, arm_chosen}
use Rattle.occ_net_replay.specs.Waiting.{listens_on}
use Rattle.std.proofs.lemmas.Bool.{eq-eqb}
use Rattle.occ_net_replay.proofs.Tables.{or_first, set_same, set_other, set_back, same_or_not, task_once}
use Rattle.occ_net_replay.proofs.Arms.{chosen_listens}
use Rattle.occ_net_replay.specs.Moments.{is_read}
use Rattle.occ_net_replay.proofs.Quiet.{done_is}
use Rattle.occ_net_replay.proofs.Settling.{done_among}

pub done_wait : (w : Wait) → IsTrue (is_done w) → w ≡ W.Done
done_wait W.Ready h = absurd (true≢false (sym h))
done_wait (W.Took arm is m) h = absurd (true≢false (sym h))
done_wait (W.Offers c m) h = absurd (true≢false (sym h))
done_wait (W.Awaits c) h = absurd (true≢false (sym h))
done_wait (W.Chooses pri arms) h = absurd (true≢false (sym h))
done_wait (W.Joins ns) h = absurd (true≢false (sym h))
done_wait W.Halted h = absurd (true≢false (sym h))
done_wait W.Done h = refl
done_wait (W.Faulted e) h = absurd (true≢false (sym h))

number_is : {n z : ℕ} → OfProcess z ≡ OfProcess n → z ≡ n
number_is e = cc

module _ (bodies : List Body) (pick n : ℕ) (net : Net) (before after : Task) (there : HasTask net.tasks n before) where
  abbrev now : Net
  now = took_turn net n after

  pub mine : HasTask now.tasks n after
  mine = set_same net.tasks n (Some before) (Some after) there

  other : (i : ℕ) (u : Task) → (i ≡ n → ⊥) → HasTask now.tasks i u → HasTask net.tasks i u
  other i u k h = sym (set_other net.tasks n i (Some after) k) ∙ h

  -- nobody is there that the process could meet or wake
  pub record Unmet : Type 0 where
    pub offers : (c : ℕ) (m : Message) → after.wait ≡ W.Offers c m → (is_read c ≡ false) × ((i : ℕ) (u : Task) → HasTask net.tasks i u → IsTrue (listens_on u.wait c) → ⊥)
    pub awaits : (c : ℕ) → after.wait ≡ W.Awaits c → (has_byte net.keyboard c ≡ false) × ((i : ℕ) (u : Task) (m : Message) → HasTask net.tasks i u → u.wait ≡ W.Offers c m → ⊥)
    pub unforked : (ns : List ℕ) → after.wait ≡ W.Joins ns → ⊥
    pub unjoined : after.wait ≡ W.Done → (m : ℕ) (u : Task) (ns : List ℕ) → HasTask net.tasks m u → u.wait ≡ W.Joins ns → IsTrue (is_held ns n) → AreDone now.tasks ns → ⊥
    pub unchosen : (pri : Bool) (arms : List Arm) (a : Arm) → after.wait ≡ W.Chooses pri arms → arm_chosen pri pick (standing now) arms ≡ Some a → ⊥

  module _ (x : Unmet) where
    is_its : (i : ℕ) (u : Task) → HasTask now.tasks i u → i ≡ n → u ≡ after
    is_its i u h e = task_once now.tasks n (subst (λ k. HasTask now.tasks k u) e h) mine

    -- an offer of the process with number z, of which this process is one end
    none_gets : (c z : ℕ) (m : Message) (u : Task) → HasTask now.tasks z u → u.wait ≡ W.Offers c m → {y : End} {a b : Net} → Gets pick (standing now) c m y a b → a.tasks ≡ slice_set now.tasks z (Some (made_ready u)) → (z ≡ n) ⊎ (y ≡ OfProcess n) → ⊥
    none_gets c z m u hz wz (task_gets {n = i} {t = v} h e) q part = by (set_back now.tasks z i hz (subst (λ ts. HasTask ts i v) q h)) part
      where
        by : ((i ≡ z) × (v ≡ made_ready u)) ⊎ ((i ≡ z → ⊥) × HasTask now.tasks i v) → (z ≡ n) ⊎ (OfProcess i ≡ OfProcess n) → ⊥
        by (inl g) p = let r : W.Ready ≡ W.Awaits c = sym (ap (λ y. y.wait) g.1) ∙ e in cc
        by (inr g) (inl p) = (x.offers c m (ap (λ y. y.wait) (sym (is_its z u hz p)) ∙ wz)).1 i v (other i v (λ k. g.0 (k ∙ sym p)) g.1) (subst (λ y. IsTrue (listens_on y c)) (sym e) (or_first (nat_eq c c) false (eq-eqb c c refl)))
        by (inr g) (inr p) =
            let at : i ≡ n = number_is p in
            (x.awaits c (ap (λ y. y.wait) (sym (is_its i v g.1 at)) ∙ e)).1 z u m (other z u (λ k. g.0 (at ∙ sym k)) hz) wz
    none_gets c z m u hz wz (arm_gets {n = i} {t = v} {pri = pri} {arms = arms} {a = arm} h e f g) q part = by (set_back now.tasks z i hz (subst (λ ts. HasTask ts i v) q h)) part
      where
        by : ((i ≡ z) × (v ≡ made_ready u)) ⊎ ((i ≡ z → ⊥) × HasTask now.tasks i v) → (z ≡ n) ⊎ (OfProcess i ≡ OfProcess n) → ⊥
        by (inl k) p = let r : W.Ready ≡ W.Chooses pri arms = sym (ap (λ y. y.wait) k.1) ∙ e in cc
        by (inr k) (inl p) = (x.offers c m (ap (λ y. y.wait) (sym (is_its z u hz p)) ∙ wz)).1 i v (other i v (λ r. k.0 (r ∙ sym p)) k.1) (subst (λ y. IsTrue (listens_on y c)) (sym e) (chosen_listens pri pick (standing now) arms arm c f g))
        by (inr k) (inr p) = x.unchosen pri arms arm (ap (λ y. y.wait) (sym (is_its i v k.1 (number_is p))) ∙ e) f
    none_gets c z m u hz wz (screen_gets e) q (inl p) = true≢false (sym (ap is_read e) ∙ (x.offers c m (ap (λ y. y.wait) (sym (is_its z u hz p)) ∙ wz)).0)
    none_gets c z m u hz wz (screen_gets e) q (inr p) = absurd cc
    none_gets c z m u hz wz (error_gets e) q (inl p) = true≢false (sym (ap is_read e) ∙ (x.offers c m (ap (λ y. y.wait) (sym (is_its z u hz p)) ∙ wz)).0)
    none_gets c z m u hz wz (error_gets e) q (inr p) = absurd cc

    no_byte_gets : (c b : ℕ) (kb : List ℕ) (m : Message) → net.keyboard ≡ b ∷ kb → c ≡ 0 → {y : End} {a e : Net} → Gets pick (standing now) c m y a e → a.tasks ≡ now.tasks → y ≡ OfProcess n → ⊥
    no_byte_gets c b kb m q z (task_gets {n = i} {t = v} h e) r p =
        let same = is_its i v (subst (λ ts. HasTask ts i v) r h) (number_is p) in
        let stands : has_byte net.keyboard c ≡ true = ap (λ k. has_byte k c) q ∙ ap (λ k. nat_eq k 0) z in
        true≢false (sym stands ∙ (x.awaits c (ap (λ y. y.wait) (sym same) ∙ e)).0)
    no_byte_gets c b kb m q z (arm_gets {n = i} {t = v} {pri = pri} {arms = arms} {a = arm} h e f g) r p = x.unchosen pri arms arm (ap (λ y. y.wait) (sym (is_its i v (subst (λ ts. HasTask ts i v) r h) (number_is p))) ∙ e) f
    no_byte_gets c b kb m q z (screen_gets e) r p = cc
    no_byte_gets c b kb m q z (error_gets e) r p = cc

    no_meeting : {y : Communication} {b : Net} → PassesOn pick now y b → TakesPart n y → ⊥
    no_meeting (joined {c = c} {m = m} (task_gives {n = z} {t = u} at w) g) (inl p) = none_gets c z m u at w g refl (inl (number_is p))
    no_meeting (joined {c = c} {m = m} (task_gives {n = z} {t = u} at w) g) (inr p) = none_gets c z m u at w g refl (inr p)
    no_meeting (joined {c = c} {m = m} (keyboard_gives {b = b} {kb = kb} q z r) g) (inl p) = absurd cc
    no_meeting (joined {c = c} {m = m} (keyboard_gives {b = b} {kb = kb} q z r) g) (inr p) = no_byte_gets c b kb m q z g refl p

    no_join : (m : ℕ) (u : Task) (ns : List ℕ) → HasTask now.tasks m u → u.wait ≡ W.Joins ns → IsTrue (is_held ns n) → AreDone now.tasks ns → ⊥
    no_join m u ns h w among done = by (same_or_not m n)
      where
        over : after.wait ≡ W.Done
        over = let y = done_is now.tasks n (done_among now.tasks ns done n among) in let same : after ≡ y.0 = task_once now.tasks n mine y.1 in ap (λ z. z.wait) same ∙ done_wait y.0.wait y.2

        by : (m ≡ n) ⊎ (m ≡ n → ⊥) → ⊥
        by (inl q) = let same : after ≡ u = task_once now.tasks n mine (subst (λ z. HasTask now.tasks z u) q h) in let r : W.Done ≡ W.Joins ns = sym over ∙ ap (λ z. z.wait) same ∙ w in cc
        by (inr q) = x.unjoined over m u ns (other m u q h) w among done

    pub nothing : {b : Net} → Happens bodies n pick now b → ⊥
    nothing (meets part j) = no_meeting j part
    nothing (skips {t = u} {pri = pri} {arms = arms} {arm = arm} h w f g) = x.unchosen pri arms arm (ap (λ z. z.wait) (task_once now.tasks n mine h) ∙ w) f
    nothing (forks {t = u} {ns = ns} h w) = x.unforked ns (ap (λ z. z.wait) (task_once now.tasks n mine h) ∙ w)
    nothing (joins m {t = u} {ns = ns} h w among done) = no_join m u ns h w among done
