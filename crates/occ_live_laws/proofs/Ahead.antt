-- Bytes that are left might be any others.
use Rattle.std.proofs.Common.{◌≡◌, ◌∙◌, refl, sym, ap, subst, Bool, ℕ, ◌%◌, List, [], ◌∷◌, ◌++◌, Some, length}
use Rattle.std.specs.Prelude.{slice_get, slice_set, if◌then◌else◌, ◌||◌, nat_eq}
use Rattle.std.proofs.lemmas.List.{append_assoc}
use Rattle.occ_term.specs.declared.communication.End.{End}
use Rattle.occ_term.specs.declared.message.Message.{Message}
use Rattle.occ_term.specs.Runs.{TakesPart}
use Rattle.occ_term.specs.System.{communication, has_byte}
use Rattle.occ_machine.specs.Compiled.{Program}
use Rattle.occ_machine.specs.Machine.{Body}
use Rattle.occ_machine.specs.declared.task.Arm.{Arm}
use Rattle.occ_net_replay.specs.declared.choice.Choice.{Choice}
use Rattle.occ_net_replay.specs.Replay.{Net, HasTask, AreDone, arm_chosen, byte_message, made_ready, offers_among, one_more, standing, with_task, HandsOver, task_gives, keyboard_gives, Gets, task_gets, arm_gets, screen_gets, error_gets, joined, Happens, meets, skips, forks, joins, Settled, settles, stays, Replays, begins, goes_on}
use Rattle.occ_live_laws.specs.Live.{TookBytes, with_left}
use Rattle.occ_live_laws.proofs.Deaf.{ready_same}
use Rattle.occ_live_laws.proofs.More.{gets_less}

-- where a byte is left on both sides, the same arm is taken
same_arm : (f g : ℕ → Bool) → ((c : ℕ) → f c ≡ g c) → (pri : Bool) (pick : ℕ) (arms : List Arm) → arm_chosen pri pick f arms ≡ arm_chosen pri pick g arms
same_arm f g same pri pick arms = ap (λ xs. slice_get xs (if pri then 0 else pick % length xs)) (ready_same f g arms (λ c m. same c))

some_byte : (k : List ℕ) (b : ℕ) (left : List ℕ) (c : ℕ) → has_byte (k ++ b ∷ left) c ≡ nat_eq c 0
some_byte [] b left c = refl
some_byte (x ∷ k) b left c = refl

-- something happens in the one where it does in the other
record SomeLeft (net : Net) : Type 0 where
  byte : ℕ
  others : List ℕ
  is : net.keyboard ≡ byte ∷ others

stand_alike : (a b : Net) → b.tasks ≡ a.tasks → SomeLeft a → SomeLeft b → (c : ℕ) → standing b c ≡ standing a c
stand_alike a b e x y c =
    ap (λ l. has_byte l c || offers_among b.tasks c) y.is ∙ ap (λ l. nat_eq c 0 || offers_among l c) e ∙ sym (ap (λ l. has_byte l c || offers_among a.tasks c) x.is)

module _ (bodies : List Body) (n pick : ℕ) (net : Net) (left : SomeLeft net) where
  abbrev Something : Type 0
  Something = (b : Net) × Happens bodies n pick net b

  happens_other : (a b : Net) → a.tasks ≡ net.tasks → SomeLeft a → Happens bodies n pick a b → Something
  happens_other a b is some (meets part (joined {c = c} {m = m} {x = x} {y = y} g r)) = by g r part
    where
      alike : (pri : Bool) (arms : List Arm) → arm_chosen pri pick (standing a) arms ≡ arm_chosen pri pick (standing net) arms
      alike pri arms = same_arm (standing a) (standing net) (stand_alike net a is left some) pri pick arms

      by : {x y : End} {b d : Net} → HandsOver c m x a b → Gets pick (standing a) c m y b d → TakesPart n (communication c x y m) → Something
      by (task_gives {n = z} {t = u} h w) r part =
          let there = subst (λ j. HasTask j z u) is h in
          let got = gets_less (standing net) (standing a) m (record (with_task net z (made_ready u)) { output = one_more net.output c m }) (ap (λ j. slice_set j z (Some (made_ready u))) is) (λ i t pri arms k v. alike pri arms) r in
          (_, meets part (joined (task_gives there w) got.1))
      by (keyboard_gives e z q) r part =
          let got = gets_less (standing net) (standing a) (byte_message left.byte) (record net { keyboard = left.others; output = one_more net.output c (byte_message left.byte) }) is (λ i t pri arms h w. alike pri arms) r in
          (_, meets part (joined (keyboard_gives left.is z refl) got.1))
  happens_other a b is some (skips {t = t} {pri = pri} {arms = arms} h w e f) =
      (_, skips (subst (λ j. HasTask j n t) is h) w (sym (same_arm (standing a) (standing net) (stand_alike net a is left some) pri pick arms) ∙ e) f)
  happens_other a b is some (forks {t = t} h w) = (_, forks (subst (λ j. HasTask j n t) is h) w)
  happens_other a b is some (joins m {t = t} {ns = ns} h w among done) = (_, joins m (subst (λ j. HasTask j m t) is h) w among (subst (λ j. AreDone j ns) is done))

-- ---- back from what is left

module _ (b : ℕ) (left : List ℕ) (d : ℕ) (others : List ℕ) where
  -- some bytes are taken in front of k and what is left behind it
  record Given (k : List ℕ) (a : Net) (Is : List ℕ → Type 0) : Type 0 where
    front : List ℕ
    are : a.keyboard ≡ (front ++ k) ++ b ∷ left
    is : Is ((front ++ k) ++ d ∷ others)

  hands_left : {c : ℕ} {m : Message} {x : End} {a e : Net} (k : List ℕ) → HandsOver c m x a e → e.keyboard ≡ k ++ b ∷ left → Given k a (λ l. HandsOver c m x (with_left l a) (with_left (k ++ d ∷ others) e))
  hands_left k (task_gives h w) q = record { front = []; are = q; is = task_gives h w }
  hands_left k (keyboard_gives {b = v} e z r) q = record { front = v ∷ []; are = e ∙ ap (λ l. v ∷ l) q; is = keyboard_gives refl z r }

  gets_left : {pick : ℕ} {f g : ℕ → Bool} {c : ℕ} {m : Message} {x : End} {a e : Net} (l : List ℕ) → ((c : ℕ) → g c ≡ f c) → Gets pick f c m x a e → Gets pick g c m x (with_left l a) (with_left l e)
  gets_left l same (task_gets h w) = task_gets h w
  gets_left {pick = pick} {f = f} {g = g} l same (arm_gets {pri = pri} {arms = arms} h w e q) = arm_gets h w (same_arm g f same pri pick arms ∙ e) q
  gets_left l same (screen_gets e) = screen_gets e
  gets_left l same (error_gets e) = error_gets e

  gets_keys : {pick : ℕ} {f : ℕ → Bool} {c : ℕ} {m : Message} {x : End} {a e : Net} → Gets pick f c m x a e → a.keyboard ≡ e.keyboard
  gets_keys (task_gets h w) = refl
  gets_keys (arm_gets h w e q) = refl
  gets_keys (screen_gets e) = refl
  gets_keys (error_gets e) = refl

  stand_left : (a : Net) (k : List ℕ) → a.keyboard ≡ k ++ b ∷ left → (c : ℕ) → standing (with_left (k ++ d ∷ others) a) c ≡ standing a c
  stand_left a k q c = ap (λ z. z || offers_among a.tasks c) (some_byte k d others c ∙ sym (some_byte k b left c)) ∙ sym (ap (λ l. has_byte l c || offers_among a.tasks c) q)

  happens_left : {bodies : List Body} {n pick : ℕ} {a e : Net} (k : List ℕ) → Happens bodies n pick a e → e.keyboard ≡ k ++ b ∷ left → Given k a (λ l. Happens bodies n pick (with_left l a) (with_left (k ++ d ∷ others) e))
  happens_left {a = a} k (meets part (joined g r)) q =
      let h = hands_left k g (gets_keys r ∙ q) in
      record { front = h.front; are = h.are; is = meets part (joined h.is (gets_left (k ++ d ∷ others) (stand_left a (h.front ++ k) h.are) r)) }
  happens_left {pick = pick} {a = a} k (skips {pri = pri} {arms = arms} h w e f) q =
      record { front = []; are = q; is = skips h w (same_arm (standing (with_left (k ++ d ∷ others) a)) (standing a) (stand_left a k q) pri pick arms ∙ e) f }
  happens_left k (forks h w) q = record { front = []; are = q; is = forks h w }
  happens_left k (joins m h w i done) q = record { front = []; are = q; is = joins m h w i done }

  some_left : (a : Net) (k : List ℕ) (v : ℕ) (l : List ℕ) → a.keyboard ≡ k ++ v ∷ l → SomeLeft a
  some_left a [] v l q = record { byte = v; others = l; is = q }
  some_left a (x ∷ k) v l q = record { byte = x; others = k ++ v ∷ l; is = q }

  settled_left : {bodies : List Body} {n pick : ℕ} {a e : Net} (k : List ℕ) → Settled bodies n pick a e → e.keyboard ≡ k ++ b ∷ left → Given k a (λ l. Settled bodies n pick (with_left l a) (with_left (k ++ d ∷ others) e))
  settled_left k (settles h) q = let x = happens_left k h q in record { front = x.front; are = x.are; is = settles x.is }
  settled_left {bodies = bodies} {n = n} {pick = pick} {a = a} k (stays none) q =
      record {
        front = [];
        are = q;
        is = stays (λ e h. let x = happens_other bodies n pick a (some_left a k b left q) (with_left (k ++ d ∷ others) a) e refl (some_left (with_left (k ++ d ∷ others) a) k d others refl) h in none x.0 x.1);
      }

  replayed_left : (p : Program) (keyboard : List ℕ) (cs : List Choice) (net : Net) (k : List ℕ) → Replays p keyboard cs net → net.keyboard ≡ k ++ b ∷ left → TookBytes p keyboard cs net (k ++ b ∷ left) (k ++ d ∷ others)
  replayed_left p keyboard cs net k begins q = record { taken = []; are = q; replays = begins }
  replayed_left p keyboard cs net k (goes_on {cs = ds} {c = c} {a = a} r e o) q =
      let x = settled_left k o.settles q in
      let y = replayed_left p keyboard ds a (x.front ++ k) r x.are in
      record {
        taken = y.taken ++ x.front;
        are = y.are ∙ ap (λ l. y.taken ++ l) (append_assoc x.front k (b ∷ left)) ∙ sym (append_assoc y.taken x.front (k ++ b ∷ left));
        replays = subst (λ l. Replays p l (ds ++ c ∷ []) (with_left (k ++ d ∷ others) net)) (ap (λ l. y.taken ++ l) (append_assoc x.front k (d ∷ others)) ∙ sym (append_assoc y.taken x.front (k ++ d ∷ others)))
            (goes_on y.replays e (record { number = o.number; body = o.body; before = o.before; after = o.after; selects = o.selects; has_body = o.has_body; has_task = o.has_task; stops = o.stops; settles = x.is }));
      }

pub bytes_ahead : (p : Program) (keyboard : List ℕ) (cs : List Choice) (net : Net) (b : ℕ) (left : List ℕ) (d : ℕ) (others : List ℕ) → Replays p keyboard cs net → net.keyboard ≡ b ∷ left → TookBytes p keyboard cs net (b ∷ left) (d ∷ others)
bytes_ahead p keyboard cs net b left d others r q = replayed_left b left d others p keyboard cs net [] r q
