-- What happens where a process waits for the keyboard, and that behind a turn within the bytes nobody does.
use Rattle.std.proofs.Common.{◌≡◌, ◌∙◌, refl, sym, ap, subst, Bool, true, false, IsTrue, ℕ, zero, suc, ◌⊎◌, inl, inr, List, [], ◌∷◌, Option, Some, None}
use Rattle.std.specs.Prelude.{slice_get, slice_set, option_map, ◌||◌, nat_eq}
use Rattle.std.proofs.lemmas.Bool.{eqb-true, eq-eqb}
use mathlib.Core.Bool.{true≢false}
use Rattle.occ_term.specs.declared.message.Message.{Message}
use Rattle.occ_term.specs.Frames.{Variables, is_held, zero_frame}
use Rattle.occ_term.specs.declared.communication.End.{End}
use Rattle.occ_term.specs.declared.communication.End.TheVariants.{Process as OfProcess}
use Rattle.occ_term.specs.Selecting.{is_ready_on}
use Rattle.occ_term.specs.System.{has_byte}
use Rattle.occ_machine.specs.SameStop.{joined_with}
use Rattle.occ_machine.specs.Machine.{Body}
use Rattle.occ_machine.specs.declared.task.Arm.{Arm}
use Rattle.occ_machine.specs.declared.task.Task.{Task}
use Rattle.occ_machine.specs.declared.task.Wait.{Wait}
use Rattle.occ_machine.specs.declared.task.Wait.TheVariants as W
use Rattle.occ_net_replay.specs.Replay.{Net, Tasks, HasTask, arm_chosen, branch_frame, branch_task, turns_at, first_task, first_tasks, none_begun, has_taken, is_done, made_ready, merged, offers_among, standing, took_arm, with_branches, HandsOver, task_gives, keyboard_gives, Gets, task_gets, arm_gets, screen_gets, error_gets, joined, Happens, meets, skips, forks, joins, Settled, settles, stays}
use Rattle.occ_net_replay.specs.Moments.{NoneReady}
use Rattle.occ_net_replay.specs.Waiting.{channels_of, listens_on}
use Rattle.occ_net_replay.proofs.Arms.{held_ready}
use Rattle.occ_net_replay.proofs.Quiet.{byte_there, done_is, offers_is}
use Rattle.occ_net_replay.proofs.Settling.{done_among}
use Rattle.occ_net_replay.proofs.Tables.{set_other, same_or_not, task_once, offers_found, Chosen, chosen_or_none, chosen_ready, or_else}
use Rattle.occ_live_laws.specs.Live.{IsDeaf, NobodyHears, or_keyboard}

-- ---- something happens

module _ (bodies : List Body) (n pick : ℕ) (net : Net) (t : Task) (mine : HasTask net.tasks n t) where
  abbrev pub Something : Type 0
  Something = (b : Net) × Happens bodies n pick net b

  -- a choice takes a ready arm
  pub ready_happens : (pri : Bool) (arms : List Arm) (arm : Arm) → t.wait ≡ W.Chooses pri arms → arm_chosen pri pick (standing net) arms ≡ Some arm → Something
  ready_happens pri arms arm w e = by arm.chan refl (chosen_ready (λ x. x.chan) (standing net) pri pick arms arm e)
    where
      on : (c : ℕ) → arm.chan ≡ Some c → IsTrue (has_byte net.keyboard c) ⊎ IsTrue (offers_among net.tasks c) → Something
      on c f (inl x) = let (b, kb, g, z) = byte_there net.keyboard c x in (_, meets (inr refl) (joined (keyboard_gives g z refl) (arm_gets mine w e f)))
      on c f (inr x) =
          let o = offers_found net.tasks c x in
          let y = offers_is o.task.wait c o.offers in
          let apart : n ≡ o.number → ⊥ = (λ q. let same : t ≡ o.task = task_once net.tasks o.number (subst (λ k. HasTask net.tasks k t) q mine) o.there in let r = sym w ∙ ap (λ k. k.wait) same ∙ y.1 in absurd cc) in
          (_, meets (inr refl) (joined (task_gives o.there y.1) (arm_gets (set_other net.tasks o.number n (Some (made_ready o.task)) apart ∙ mine) w e f)))

      by : (x : Option ℕ) → arm.chan ≡ x → IsTrue (is_ready_on (standing net) x) → Something
      by None f r = (_, skips mine w e f)
      by (Some c) f r = on c f (or_else (has_byte net.keyboard c) (offers_among net.tasks c) r)

  -- who waits for the keyboard gets a byte, or takes an arm, where a byte is left or would make no difference
  pub heard_happens : IsTrue (listens_on t.wait 0) → (net.keyboard ≡ [] → IsDeaf pick (offers_among net.tasks) t.wait) → Something
  heard_happens l deaf = by t.wait refl l
    where
      awaits : (c : ℕ) → t.wait ≡ W.Awaits c → c ≡ 0 → (kb : List ℕ) → net.keyboard ≡ kb → Something
      awaits c w z [] k =
          let apart : nat_eq c 0 ≡ false = subst (IsDeaf pick (offers_among net.tasks)) w (deaf k) in
          absurd (true≢false (sym (eq-eqb c 0 z) ∙ apart))
      awaits c w z (b ∷ kb) k = (_, meets (inr refl) (joined (keyboard_gives k z refl) (task_gets mine w)))

      chooses : (pri : Bool) (arms : List Arm) → t.wait ≡ W.Chooses pri arms → IsTrue (is_held (channels_of arms) 0) → (kb : List ℕ) → net.keyboard ≡ kb → Something
      chooses pri arms w h [] k = or_none (chosen_or_none (λ x. x.chan) (or_keyboard (offers_among net.tasks)) pri pick arms)
        where
          same : arm_chosen pri pick (or_keyboard (offers_among net.tasks)) arms ≡ arm_chosen pri pick (offers_among net.tasks) arms
          same = subst (IsDeaf pick (offers_among net.tasks)) w (deaf k)

          here : arm_chosen pri pick (standing net) arms ≡ arm_chosen pri pick (offers_among net.tasks) arms
          here = ap (λ kb. arm_chosen pri pick (λ c. has_byte kb c || offers_among net.tasks c) arms) k

          or_none : NoneReady (λ (x : Arm). x.chan) (or_keyboard (offers_among net.tasks)) arms ⊎ Chosen (λ (x : Arm). x.chan) (or_keyboard (offers_among net.tasks)) pri pick arms → Something
          or_none (inl none) = absurd (held_ready (or_keyboard (offers_among net.tasks)) arms 0 h refl none)
          or_none (inr x) = ready_happens pri arms x.arm w (here ∙ sym same ∙ x.is)
      chooses pri arms w h (b ∷ kb) k = or_none (chosen_or_none (λ x. x.chan) (standing net) pri pick arms)
        where
          there : IsTrue (standing net 0)
          there = subst (λ z. IsTrue (has_byte z 0 || offers_among net.tasks 0)) (sym k) refl

          or_none : NoneReady (λ (x : Arm). x.chan) (standing net) arms ⊎ Chosen (λ (x : Arm). x.chan) (standing net) pri pick arms → Something
          or_none (inl none) = absurd (held_ready (standing net) arms 0 h there none)
          or_none (inr x) = ready_happens pri arms x.arm w x.is

      by : (w : Wait) → t.wait ≡ w → IsTrue (listens_on w 0) → Something
      by W.Ready e h = absurd (true≢false (sym h))
      by (W.Took arm is m) e h = absurd (true≢false (sym h))
      by (W.Offers c m) e h = absurd (true≢false (sym h))
      by (W.Awaits c) e h = awaits c e (eqb-true c 0 (first h)) net.keyboard refl
        where
          first : {x : Bool} → IsTrue (x || false) → IsTrue x
          first {x = true} h = refl
          first {x = false} h = h
      by (W.Chooses pri arms) e h = chooses pri arms e h net.keyboard refl
      by (W.Joins ns) e h = absurd (true≢false (sym h))
      by W.Halted e h = absurd (true≢false (sym h))
      by W.Done e h = absurd (true≢false (sym h))
      by (W.Faulted e) f h = absurd (true≢false (sym h))

-- ---- who waits for the keyboard waited before

set_either : {X : Type 0} (xs : List X) (i : ℕ) (v x : X) → slice_get (slice_set xs i v) i ≡ Some x → v ≡ x
set_either [] i v x e = absurd cc
set_either (y ∷ xs) zero v x e = cc
set_either (y ∷ xs) (suc i) v x e = set_either xs i v x e

-- the entry that was set is not this one
kept : (tasks : Tasks) (z i : ℕ) (v : Option Task) (t : Task) → HasTask (slice_set tasks z v) i t → (v ≡ Some t → ⊥) → HasTask tasks i t × (i ≡ z → ⊥)
kept tasks z i v t h never = by (same_or_not i z)
  where
    by : (i ≡ z) ⊎ (i ≡ z → ⊥) → HasTask tasks i t × (i ≡ z → ⊥)
    by (inl q) = absurd (never (set_either tasks z v (Some t) (subst (λ k. HasTask (slice_set tasks z v) k t) q h)))
    by (inr k) = (sym (set_other tasks z i v k) ∙ h, k)

-- a task that stands at something else is not one that waits for the keyboard
other_task : (u t : Task) → listens_on u.wait 0 ≡ false → IsTrue (listens_on t.wait 0) → Some u ≡ Some t → ⊥
other_task u t f l e = let same : u ≡ t = cc in true≢false (sym l ∙ sym (ap (λ z. listens_on z.wait 0) same) ∙ f)

gave_kept : {c : ℕ} {m : Message} {x : End} {a b : Net} (i : ℕ) (t : Task) → HandsOver c m x a b → HasTask b.tasks i t → IsTrue (listens_on t.wait 0) → HasTask a.tasks i t × (x ≡ OfProcess i → ⊥)
gave_kept i t (task_gives {n = z} {t = u} {net = net} h w) g l =
    let k = kept net.tasks z i (Some (made_ready u)) t g (other_task (made_ready u) t refl l) in
    (k.0, λ q. let same : z ≡ i = cc in k.1 (sym same))
gave_kept i t (keyboard_gives e z r) g l = (g, λ q. absurd cc)

got_kept : {pick : ℕ} {f : ℕ → Bool} {c : ℕ} {m : Message} {x : End} {a b : Net} (i : ℕ) (t : Task) → Gets pick f c m x a b → HasTask b.tasks i t → IsTrue (listens_on t.wait 0) → HasTask a.tasks i t × (x ≡ OfProcess i → ⊥)
got_kept {m = m} i t (task_gets {n = z} {t = u} {net = net} h w) g l =
    let k = kept net.tasks z i (Some (has_taken u m)) t g (other_task (has_taken u m) t refl l) in
    (k.0, λ q. let same : z ≡ i = cc in k.1 (sym same))
got_kept {m = m} i t (arm_gets {n = z} {t = u} {net = net} {a = arm} h w e f) g l =
    let k = kept net.tasks z i (Some (took_arm u arm (Some m))) t g (other_task (took_arm u arm (Some m)) t refl l) in
    (k.0, λ q. let same : z ≡ i = cc in k.1 (sym same))
got_kept i t (screen_gets e) g l = (g, λ q. absurd cc)
got_kept i t (error_gets e) g l = (g, λ q. absurd cc)

branches_kept : (bodies : List Body) (f : Variables) (ns : List ℕ) (tasks : Tasks) (i : ℕ) (t : Task) → HasTask (with_branches bodies f ns tasks) i t → IsTrue (listens_on t.wait 0) → HasTask tasks i t
branches_kept bodies f [] tasks i t h l = h
branches_kept bodies f (n ∷ ns) tasks i t h l =
    (kept tasks n i (branch_task bodies f tasks n) t (branches_kept bodies f ns (slice_set tasks n (branch_task bodies f tasks n)) i t h l) (begun (slice_get bodies n))).0
  where
    begun : (x : Option Body) → option_map (λ b. first_task n (turns_at tasks n) (branch_frame b f)) x ≡ Some t → ⊥
    begun None e = absurd cc
    begun (Some b) e = other_task (first_task n (turns_at tasks n) (branch_frame b f)) t refl l e

pub done_deaf : (w : Wait) → IsTrue (is_done w) → IsTrue (listens_on w 0) → ⊥
done_deaf W.Ready d l = true≢false (sym d)
done_deaf (W.Took arm is m) d l = true≢false (sym d)
done_deaf (W.Offers c m) d l = true≢false (sym d)
done_deaf (W.Awaits c) d l = true≢false (sym d)
done_deaf (W.Chooses pri arms) d l = true≢false (sym d)
done_deaf (W.Joins ns) d l = true≢false (sym d)
done_deaf W.Halted d l = true≢false (sym d)
done_deaf W.Done d l = true≢false (sym l)
done_deaf (W.Faulted e) d l = true≢false (sym d)

pub happened_kept : {bodies : List Body} {n pick : ℕ} {a b : Net} (i : ℕ) (t : Task) → Happens bodies n pick a b → HasTask b.tasks i t → IsTrue (listens_on t.wait 0) → HasTask a.tasks i t × (i ≡ n → ⊥)
happened_kept {n = n} i t (meets part (joined g r)) h l =
    let k = got_kept i t r h l in
    let j = gave_kept i t g k.0 l in
    (j.0, λ q. sides q part j.1 k.1)
  where
    sides : {x y : End} → i ≡ n → (x ≡ OfProcess n) ⊎ (y ≡ OfProcess n) → (x ≡ OfProcess i → ⊥) → (y ≡ OfProcess i → ⊥) → ⊥
    sides q (inl e) f g = f (e ∙ ap OfProcess (sym q))
    sides q (inr e) f g = g (e ∙ ap OfProcess (sym q))
happened_kept {n = n} {a = a} i t (skips {t = u} {arm = arm} g w e f) h l = kept a.tasks n i (Some (took_arm u arm None)) t h (other_task (took_arm u arm None) t refl l)
happened_kept {bodies = bodies} {n = n} {a = a} i t (forks {t = u} {ns = ns} g w) h l =
    let there = branches_kept bodies u.frame ns a.tasks i t h l in
    (there, λ q. let same : t ≡ u = task_once a.tasks n (subst (λ k. HasTask a.tasks k t) q there) g in true≢false (sym l ∙ ap (λ z. listens_on z 0) (ap (λ z. z.wait) same ∙ w)))
happened_kept {bodies = bodies} {n = n} {a = a} i t (joins m {t = u} {ns = ns} g w among done) h l =
    let k = kept a.tasks m i (Some (joined_with u (merged bodies a.tasks ns u.frame))) t h (other_task (joined_with u (merged bodies a.tasks ns u.frame)) t refl l) in
    (k.0, λ q. at q k.0 (done_is a.tasks n (done_among a.tasks ns done n among)))
  where
    at : i ≡ n → HasTask a.tasks i t → (v : Task) × HasTask a.tasks n v × IsTrue (is_done v.wait) → ⊥
    at q there (v, e, d) = let same : v ≡ t = task_once a.tasks n e (subst (λ k. HasTask a.tasks k t) q there) in done_deaf t.wait (subst (λ z. IsTrue (is_done z.wait)) same d) l

-- ---- behind a turn

pub settled_hears : {bodies : List Body} {n pick : ℕ} {a b : Net} (after : Task) → Settled bodies n pick a b → HasTask a.tasks n after
    → ((i : ℕ) (t : Task) → HasTask a.tasks i t → (i ≡ n → ⊥) → IsTrue (listens_on t.wait 0) → ⊥)
    → (a.keyboard ≡ [] → IsDeaf pick (offers_among a.tasks) after.wait) → NobodyHears b
settled_hears after (settles h) mine others deaf i t g l = let k = happened_kept i t h g l in others i t k.0 k.1 l
settled_hears {bodies = bodies} {n = n} {pick = pick} {a = a} after (stays none) mine others deaf i t g l = by (same_or_not i n)
  where
    by : (i ≡ n) ⊎ (i ≡ n → ⊥) → ⊥
    by (inl q) =
        let same : t ≡ after = task_once a.tasks n (subst (λ k. HasTask a.tasks k t) q g) mine in
        let x = heard_happens bodies n pick a after mine (subst (λ z. IsTrue (listens_on z.wait 0)) same l) deaf in
        none x.0 x.1
    by (inr k) = others i t g k l

-- ---- at the start

none_kept : (bodies : List Body) (i : ℕ) (t : Task) → HasTask (none_begun bodies) i t → ⊥
none_kept [] i t h = absurd cc
none_kept (b ∷ bodies) zero t h = absurd cc
none_kept (b ∷ bodies) (suc i) t h = none_kept bodies i t h

pub first_hears : (bodies : List Body) (i : ℕ) (t : Task) → HasTask (first_tasks bodies) i t → IsTrue (listens_on t.wait 0) → ⊥
first_hears [] i t h l = absurd cc
first_hears (b ∷ bodies) zero t h l = other_task (first_task 0 0 (zero_frame b.cells b.loops)) t refl l cc
first_hears (b ∷ bodies) (suc i) t h l = none_kept bodies i t h
