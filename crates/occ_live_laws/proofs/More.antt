-- A turn within the bytes is the same turn with more of them.
use Rattle.std.proofs.Common.{◌≡◌, ◌∙◌, refl, sym, ap, subst, Bool, true, false, IsTrue, IsFalse, ℕ, ◌⊎◌, inl, inr, List, [], ◌∷◌, ◌++◌, Some}
use Rattle.std.specs.Prelude.{slice_set, nat_eq}
use Rattle.std.proofs.lemmas.Bool.{eq-eqb}
use mathlib.Core.Bool.{true≢false}
use Rattle.occ_term.specs.declared.message.Message.{Message}
use Rattle.occ_term.specs.declared.communication.End.{End}
use Rattle.occ_term.specs.declared.communication.End.TheVariants.{Process as OfProcess, Keyboard}
use Rattle.occ_machine.specs.Compiled.{Program}
use Rattle.occ_machine.specs.Machine.{Body}
use Rattle.occ_machine.specs.declared.task.Arm.{Arm}
use Rattle.occ_machine.specs.declared.task.Task.{Task}
use Rattle.occ_machine.specs.declared.task.Wait.TheVariants as W
use Rattle.occ_net_replay.specs.declared.choice.Choice.{Choice}
use Rattle.occ_net_replay.specs.Replay.{Net, HasTask, AreDone, arm_chosen, byte_message, made_ready, offers_among, one_more, with_task, standing, took_turn, HandsOver, task_gives, keyboard_gives, Gets, task_gets, arm_gets, screen_gets, error_gets, joined, Happens, meets, skips, forks, joins, Settled, settles, stays, OneTurn}
use Rattle.occ_net_replay.specs.Waiting.{listens_on}
use Rattle.occ_net_replay.proofs.Tables.{set_back, set_other, set_same, same_or_not, task_once}
use Rattle.occ_live_laws.specs.Live.{IsDeaf, IsSameTurn, NobodyHears, StaysWithin, or_keyboard, with_more}
use Rattle.occ_live_laws.proofs.Deaf.{chosen_more, deaf_arms}
use Rattle.occ_live_laws.proofs.Hearing.{ready_happens, settled_hears}

-- each process that chooses takes the same arm with more bytes
abbrev pub ChooseAlike : (pick : ℕ) → Net → List ℕ → Type 0
ChooseAlike pick net more =
    (i : ℕ) (t : Task) (pri : Bool) (arms : List Arm) → HasTask net.tasks i t → t.wait ≡ W.Chooses pri arms → arm_chosen pri pick (standing (with_more more net)) arms ≡ arm_chosen pri pick (standing net) arms

-- ---- what happens, happens with more bytes

hands_more : {c : ℕ} {m : Message} {x : End} {a b : Net} (more : List ℕ) → HandsOver c m x a b → HandsOver c m x (with_more more a) (with_more more b)
hands_more more (task_gives h w) = task_gives h w
hands_more more (keyboard_gives e z r) = keyboard_gives (ap (λ l. l ++ more) e) z r

-- who is not ready behind an offer that was given was there before
pub given_back : {c : ℕ} {m : Message} {x : End} {a b : Net} (i : ℕ) (t : Task) → HandsOver c m x a b → HasTask b.tasks i t → (t.wait ≡ W.Ready → ⊥) → HasTask a.tasks i t
given_back i t (task_gives {n = z} {t = u} {net = net} h w) g waits = by (set_back net.tasks z i h g)
  where
    by : ((i ≡ z) × (t ≡ made_ready u)) ⊎ ((i ≡ z → ⊥) × HasTask net.tasks i t) → HasTask net.tasks i t
    by (inl q) = absurd (waits (ap (λ y. y.wait) q.1))
    by (inr q) = q.1
given_back i t (keyboard_gives e z r) g waits = g

gets_more : {pick : ℕ} {c : ℕ} {m : Message} {x : End} {a b : Net} (f g : ℕ → Bool) (more : List ℕ)
    → ((i : ℕ) (t : Task) (pri : Bool) (arms : List Arm) → HasTask a.tasks i t → t.wait ≡ W.Chooses pri arms → arm_chosen pri pick g arms ≡ arm_chosen pri pick f arms)
    → Gets pick f c m x a b → Gets pick g c m x (with_more more a) (with_more more b)
gets_more f g more same (task_gets h w) = task_gets h w
gets_more f g more same (arm_gets {n = i} {t = t} {pri = pri} {arms = arms} h w e q) = arm_gets h w (same i t pri arms h w ∙ e) q
gets_more f g more same (screen_gets e) = screen_gets e
gets_more f g more same (error_gets e) = error_gets e

happens_more : {bodies : List Body} {n pick : ℕ} {a b : Net} (more : List ℕ) → ChooseAlike pick a more → Happens bodies n pick a b → Happens bodies n pick (with_more more a) (with_more more b)
happens_more {a = a} more same (meets part (joined g r)) =
    meets part (joined (hands_more more g) (gets_more (standing a) (standing (with_more more a)) more (λ i t pri arms h w. same i t pri arms (given_back i t g h (λ q. let z = sym q ∙ w in absurd cc)) w) r))
happens_more {n = n} more same (skips {t = t} {pri = pri} {arms = arms} h w e f) = skips h w (same n t pri arms h w ∙ e) f
happens_more more same (forks h w) = forks h w
happens_more more same (joins m h w i d) = joins m h w i d

-- ---- what happens with more bytes, happens

pub gets_less : {pick : ℕ} {c : ℕ} {m : Message} {x : End} {b d : Net} (f g : ℕ → Bool) (k : Message) (a : Net) → b.tasks ≡ a.tasks
    → ((i : ℕ) (t : Task) (pri : Bool) (arms : List Arm) → HasTask a.tasks i t → t.wait ≡ W.Chooses pri arms → arm_chosen pri pick g arms ≡ arm_chosen pri pick f arms)
    → Gets pick g c m x b d → (e : Net) × Gets pick f c k x a e
gets_less f g k a s same (task_gets {n = i} {t = t} h w) = (_, task_gets (subst (λ z. HasTask z i t) s h) w)
gets_less f g k a s same (arm_gets {n = i} {t = t} {pri = pri} {arms = arms} h w e q) = let there = subst (λ z. HasTask z i t) s h in (_, arm_gets there w (sym (same i t pri arms there w) ∙ e) q)
gets_less f g k a s same (screen_gets e) = (_, screen_gets e)
gets_less f g k a s same (error_gets e) = (_, error_gets e)

module _ (bodies : List Body) (n pick : ℕ) (net : Net) (more : List ℕ) (after : Task) (mine : HasTask net.tasks n after) (deaf : net.keyboard ≡ [] → IsDeaf pick (offers_among net.tasks) after.wait) (same : ChooseAlike pick net more) where
  abbrev Something : Type 0
  Something = (b : Net) × Happens bodies n pick net b

  -- where no byte is left, none of them goes to the process
  none_heard : {c : ℕ} {m : Message} {y : End} {a b d : Net} → a ≡ with_more more net → net.keyboard ≡ [] → c ≡ 0 → b.tasks ≡ net.tasks → (Keyboard ≡ OfProcess n) ⊎ (y ≡ OfProcess n) → Gets pick (standing a) c m y b d → Something
  none_heard is k z s (inl q) r = absurd cc
  none_heard {c = c} same_net k z s (inr q) (task_gets {n = i} {t = t} h w) =
      let number : i ≡ n = cc in
      let is : t ≡ after = task_once net.tasks n (subst (λ j. HasTask net.tasks j t) number (subst (λ j. HasTask j i t) s h)) mine in
      let apart : nat_eq c 0 ≡ false = subst (IsDeaf pick (offers_among net.tasks)) (sym (ap (λ j. j.wait) is) ∙ w) (deaf k) in
      absurd (true≢false (sym (eq-eqb c 0 z) ∙ apart))
  none_heard {a = a} is k z s (inr q) (arm_gets {n = i} {t = t} {pri = pri} {arms = arms} {a = arm} h w e f) =
      let number : i ≡ n = cc in
      let there : HasTask net.tasks n t = subst (λ j. HasTask net.tasks j t) number (subst (λ j. HasTask j i t) s h) in
      ready_happens bodies n pick net t there pri arms arm w (sym (ap (λ j. arm_chosen pri pick (standing j) arms) is ∙ same n t pri arms there w) ∙ e)
  none_heard is k z s (inr q) (screen_gets e) = absurd cc
  none_heard is k z s (inr q) (error_gets e) = absurd cc

  happens_less : (a b : Net) → a ≡ with_more more net → Happens bodies n pick a b → Something
  happens_less a b is (meets part (joined {c = c} {m = m} {x = x} {y = y} g r)) = by g r part
    where
      by : {x y : End} {b d : Net} → HandsOver c m x a b → Gets pick (standing a) c m y b d → (x ≡ OfProcess n) ⊎ (y ≡ OfProcess n) → Something
      by (task_gives {n = z} {t = u} h w) r part =
          let there = subst (λ j. HasTask j.tasks z u) is h in
          let got = gets_less (standing net) (standing a) m (record (with_task net z (made_ready u)) { output = one_more net.output c m }) (ap (λ j. slice_set j.tasks z (Some (made_ready u))) is)
          (λ i t pri arms k v. ap (λ j. arm_chosen pri pick (standing j) arms) is ∙ same i t pri arms (given_back i t (task_gives {net = net} there w) k (λ q. let j = sym q ∙ v in absurd cc)) v) r in
          (_, meets part (joined (task_gives there w) got.1))
      by (keyboard_gives {b = byte} {kb = kb} e z q) r part = at net.keyboard refl
        where
          at : (l : List ℕ) → net.keyboard ≡ l → Something
          at [] k = none_heard is k z (ap (λ j. j.tasks) is) part r
          at (v ∷ l) k =
              let got = gets_less (standing net) (standing a) (byte_message v) (record net { keyboard = l; output = one_more net.output c (byte_message v) }) (ap (λ j. j.tasks) is)
              (λ i t pri arms h w. ap (λ j. arm_chosen pri pick (standing j) arms) is ∙ same i t pri arms h w) r in
              (_, meets part (joined (keyboard_gives k z refl) got.1))
  happens_less a b is (skips {t = t} {pri = pri} {arms = arms} h w e f) =
      let there = subst (λ j. HasTask j.tasks n t) is h in
      (_, skips there w (sym (ap (λ j. arm_chosen pri pick (standing j) arms) is ∙ same n t pri arms there w) ∙ e) f)
  happens_less a b is (forks {t = t} h w) = (_, forks (subst (λ j. HasTask j.tasks n t) is h) w)
  happens_less a b is (joins m {t = t} {ns = ns} h w among done) = (_, joins m (subst (λ j. HasTask j.tasks m t) is h) w among (subst (λ j. AreDone j.tasks ns) is done))

  pub settled_more : (b : Net) → Settled bodies n pick net b → Settled bodies n pick (with_more more net) (with_more more b)
  settled_more b (settles h) = settles (happens_more more same h)
  settled_more b (stays none) = stays (λ d h. let r = happens_less (with_more more net) d refl h in none r.0 r.1)

-- ---- a turn

module _ (p : Program) (c : Choice) (a b : Net) (more : List ℕ) (nobody : NobodyHears a) (o : OneTurn p c a b) (within : StaysWithin c.pick a o.number o.after) where
  abbrev pub now : Net
  now = took_turn a o.number o.after

  pub mine : HasTask now.tasks o.number o.after
  mine = set_same a.tasks o.number (Some o.before) (Some o.after) o.has_task

  others : (i : ℕ) (t : Task) → HasTask now.tasks i t → (i ≡ o.number → ⊥) → IsTrue (listens_on t.wait 0) → ⊥
  others i t h k l = nobody i t (sym (set_other a.tasks o.number i (Some o.after) k) ∙ h) l

  pub alike : ChooseAlike c.pick now more
  alike i t pri arms h w = chosen_more now.tasks now.keyboard more pri c.pick arms (λ e. by e (same_or_not i o.number))
    where
      not_true : (x : Bool) → (IsTrue x → ⊥) → IsFalse x
      not_true true f = absurd (f refl)
      not_true false f = refl

      by : a.keyboard ≡ [] → (i ≡ o.number) ⊎ (i ≡ o.number → ⊥) → arm_chosen pri c.pick (or_keyboard (offers_among now.tasks)) arms ≡ arm_chosen pri c.pick (offers_among now.tasks) arms
      by e (inl q) =
          let is : t ≡ o.after = task_once now.tasks o.number (subst (λ k. HasTask now.tasks k t) q h) mine in
          subst (IsDeaf c.pick (offers_among now.tasks)) (sym (ap (λ z. z.wait) is) ∙ w) (within e)
      by e (inr k) = deaf_arms c.pick (offers_among now.tasks) pri arms (not_true _ (λ l. others i t h k (subst (λ z. IsTrue (listens_on z 0)) (sym w) l)))

  abbrev pub turn_more : OneTurn p c (with_more more a) (with_more more b)
  turn_more = record { number = o.number; body = o.body; before = o.before; after = o.after; selects = o.selects; has_body = o.has_body; has_task = o.has_task; stops = o.stops; settles = settled_more p.bodies o.number c.pick now more o.after mine within alike b o.settles }

  pub turn_hears : NobodyHears b
  turn_hears = settled_hears o.after o.settles mine others within

pub turns_with_more : (p : Program) (c : Choice) (a b : Net) (more : List ℕ) → NobodyHears a → (o : OneTurn p c a b) → StaysWithin c.pick a o.number o.after → IsSameTurn p c a b o.number o.after more
turns_with_more p c a b more nobody o within =
    record { turn = turn_more p c a b more nobody o within; number = refl; task = refl; hears = turn_hears p c a b more nobody o within }
