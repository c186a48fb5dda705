-- The same choices have one replay.
use Rattle.std.proofs.Common.{◌≡◌, ◌∙◌, refl, sym, ap, subst, Bool, IsTrue, ℕ, ◌+◌, ◌<◌, ◌^◌, ◌⊎◌, inl, inr, List, [], ◌∷◌, ◌++◌, Some, None, length, arith, length-append}
use Rattle.std.specs.Prelude.{slice_get}
use Rattle.std.proofs.lemmas.List.{append_assoc}
use Rattle.occ_term.specs.declared.message.Message.{Message}
use Rattle.occ_term.specs.Frames.{is_held}
use Rattle.occ_term.specs.Runs.{TakesPart}
use Rattle.occ_term.specs.declared.communication.End.{End}
use Rattle.occ_term.specs.declared.communication.End.TheVariants.{Process as OfProcess}
use Rattle.occ_term.specs.System.{communication}
use Rattle.occ_term.specs.UnfoldedProgram.{UnfoldedProgram, IsWellFormed, Lawful, meaning}
use Rattle.occ_machine.specs.SameStop.{joined_with}
use Rattle.occ_machine.specs.Compiled.{Program, IsCompiledFrom}
use Rattle.occ_machine.specs.Machine.{Body, Stopping}
use Rattle.occ_machine.specs.declared.task.Arm.{Arm}
use Rattle.occ_machine.specs.declared.task.Task.{Task}
use Rattle.occ_machine.specs.declared.task.Wait.{Wait}
use Rattle.occ_machine.specs.declared.task.Wait.TheVariants as W
use Rattle.occ_net_replay.specs.declared.choice.Choice.{Choice}
use Rattle.occ_net_replay.specs.Following.{AreBytes}
use Rattle.occ_net_replay.specs.OneReplay.{OneReplay}
use Rattle.occ_net_replay.specs.Replay.{Net, Tasks, HasTask, made_ready, has_taken, took_arm, byte_message, took_turn, with_task, with_branches, standing, arm_chosen, HandsOver, task_gives, keyboard_gives, Gets, task_gets, arm_gets, screen_gets, error_gets, joined, traced, one_more, is_done, merged, Happens, meets, skips, forks, joins, Settled, settles, stays, OneTurn, Replays, begins, goes_on, ending_of}
use Rattle.occ_net_replay.specs.Waiting.{IsReplay}
use Rattle.occ_net_replay.proofs.Law.{all_followed, d, procs}
use Rattle.occ_net_replay.proofs.OneStop.{stopping_once}
use Rattle.occ_net_replay.proofs.Orderly.{Hears, by_input, by_arm, Speaks, Listens, WaitsFor, Orderly, orderly}
use Rattle.occ_net_replay.proofs.Quiet.{done_is}
use Rattle.occ_net_replay.proofs.Settling.{done_among}
use Rattle.occ_net_replay.proofs.Tables.{set_same, set_other, set_back, task_once}
use Rattle.occ_net_replay.proofs.TakingTurns.{done_wait}

-- ---- both ends of a communication

abbrev gave : Net → ℕ → ℕ → Task → Message → Net
gave a c i t m = record (with_task a i (made_ready t)) { output = one_more a.output c m }

abbrev got : Net → ℕ → ℕ → Task → Message → Net
got a c i t m = record (with_task a i t) { input = one_more a.input c m }

record SameGift (m v : Message) (x y : End) (b e : Net) : Type 0 where
  pub message : m ≡ v
  pub end : x ≡ y
  pub net : b ≡ e

record SameEnd (x y : End) (b e : Net) : Type 0 where
  pub end : x ≡ y
  pub net : b ≡ e

one_message : {c e : ℕ} {m v : Message} → W.Offers c m ≡ W.Offers e v → m ≡ v
one_message q = cc

one_list : {pri alt : Bool} {arms others : List Arm} → W.Chooses pri arms ≡ W.Chooses alt others → (pri ≡ alt) × (arms ≡ others)
one_list q = (cc, cc)

one_fork : {ns ms : List ℕ} → W.Joins ns ≡ W.Joins ms → ns ≡ ms
one_fork q = cc

one_number : {i j : ℕ} → OfProcess i ≡ OfProcess j → i ≡ j
one_number q = cc

one_some : {X : Type 0} {x y : X} → Some x ≡ Some y → x ≡ y
one_some q = cc

module _ (old : Tasks) (orders : Orderly old) where
  same_gift : (a : Net) (c : ℕ) {m v : Message} {x y : End} {b e : Net} → ((i : ℕ) → Speaks a.tasks c i → Speaks old c i) → HandsOver c m x a b → HandsOver c v y a e → SameGift m v x y b e
  same_gift a c {m = m} {v = v} was (task_gives {n = i} {t = t} h w) (task_gives {n = j} {t = u} g z) =
      let at : i ≡ j = orders.one_speaks c i j (was i (record { task = t; message = m; there = h; says = w })) (was j (record { task = u; message = v; there = g; says = z })) in
      let same : t ≡ u = task_once a.tasks j (subst (λ l. HasTask a.tasks l t) at h) g in
      let said : m ≡ v = one_message (sym w ∙ ap (λ l. l.wait) same ∙ z) in
      record { message = said; end = ap OfProcess at; net = ap (λ l. gave a c l t m) at ∙ ap (λ l. gave a c j l m) same ∙ ap (gave a c j u) said }
  same_gift a c {m = m} was (task_gives {n = i} {t = t} h w) (keyboard_gives g z q) =
      absurd (orders.no_keyboard i (subst (λ l. Speaks old l i) z (was i (record { task = t; message = m; there = h; says = w }))))
  same_gift a c {v = v} was (keyboard_gives g z q) (task_gives {n = i} {t = t} h w) =
      absurd (orders.no_keyboard i (subst (λ l. Speaks old l i) z (was i (record { task = t; message = v; there = h; says = w }))))
  same_gift a c {m = m} {v = v} was (keyboard_gives {b = x} {kb = xs} g z q) (keyboard_gives {b = y} {kb = ys} h r s) =
      let both : x ∷ xs ≡ y ∷ ys = sym g ∙ h in
      let byte : x ≡ y = cc in
      let rest : xs ≡ ys = cc in
      let said : m ≡ v = q ∙ ap byte_message byte ∙ sym s in
      record { message = said; end = refl; net = ap (λ l. record a { keyboard = l; output = one_more a.output c m }) rest ∙ ap (λ l. record a { keyboard = ys; output = one_more a.output c l }) said }

  same_end : (pick : ℕ) (offers : ℕ → Bool) (a : Net) (c : ℕ) (m : Message) {x y : End} {b e : Net} → ((i : ℕ) → Listens a.tasks c i → Listens old c i) → Gets pick offers c m x a b → Gets pick offers c m y a e → SameEnd x y b e
  same_end pick offers a c m was = by
    where
      listens : (i : ℕ) (t : Task) (w : Wait) → HasTask a.tasks i t → t.wait ≡ w → Hears pick offers c w → Listens old c i
      listens i t w h e x = was i (record { task = t; pick = pick; offers = offers; there = h; hears = subst (Hears pick offers c) (sym e) x })

      input_there : (i : ℕ) (t : Task) → HasTask a.tasks i t → t.wait ≡ W.Awaits c → Listens old c i
      input_there i t h w = listens i t (W.Awaits c) h w by_input

      arm_there : (i : ℕ) (t : Task) (pri : Bool) (arms : List Arm) (arm : Arm) → HasTask a.tasks i t → t.wait ≡ W.Chooses pri arms → arm_chosen pri pick offers arms ≡ Some arm → arm.chan ≡ Some c → Listens old c i
      arm_there i t pri arms arm h w q f = listens i t (W.Chooses pri arms) h w (by_arm q f)

      alone : (i j : ℕ) {t u : Task} → HasTask a.tasks i t → HasTask a.tasks j u → Listens old c i → Listens old c j → (i ≡ j) × (t ≡ u)
      alone i j {t = t} h g x y = let at : i ≡ j = orders.one_listens c i j x y in (at, task_once a.tasks j (subst (λ l. HasTask a.tasks l t) at h) g)

      unread : (i : ℕ) → Listens old c i → (c ≡ 1) ⊎ (c ≡ 2) → ⊥
      unread i x (inl e) = orders.no_screen i (subst (λ l. Listens old l i) e x)
      unread i x (inr e) = orders.no_error i (subst (λ l. Listens old l i) e x)

      by : {x y : End} {b e : Net} → Gets pick offers c m x a b → Gets pick offers c m y a e → SameEnd x y b e
      by (task_gets {n = i} {t = t} h w) (task_gets {n = j} {t = u} g z) =
          let s = alone i j h g (input_there i t h w) (input_there j u g z) in
          record { end = ap OfProcess s.0; net = ap (λ l. got a c l (has_taken t m) m) s.0 ∙ ap (λ l. got a c j (has_taken l m) m) s.1 }
      by (task_gets {n = i} {t = t} h w) (arm_gets {n = j} {t = u} {pri = pri} {arms = arms} {a = arm} g z q f) =
          let s = alone i j h g (input_there i t h w) (arm_there j u pri arms arm g z q f) in
          let r = sym w ∙ ap (λ l. l.wait) s.1 ∙ z in
          absurd cc
      by (task_gets {n = i} {t = t} h w) (screen_gets e) = absurd (unread i (input_there i t h w) (inl e))
      by (task_gets {n = i} {t = t} h w) (error_gets e) = absurd (unread i (input_there i t h w) (inr e))
      by (arm_gets {n = i} {t = t} {pri = pri} {arms = arms} {a = arm} h w q f) (task_gets {n = j} {t = u} g z) =
          let s = alone i j h g (arm_there i t pri arms arm h w q f) (input_there j u g z) in
          let r = sym w ∙ ap (λ l. l.wait) s.1 ∙ z in
          absurd cc
      by (arm_gets {n = i} {t = t} {pri = pri} {arms = arms} {a = arm} h w q f) (arm_gets {n = j} {t = u} {pri = alt} {arms = others} {a = other} g z r k) =
          let s = alone i j h g (arm_there i t pri arms arm h w q f) (arm_there j u alt others other g z r k) in
          let lists = one_list (sym w ∙ ap (λ l. l.wait) s.1 ∙ z) in
          let same : arm ≡ other = one_some (sym q ∙ ap (λ l. arm_chosen l pick offers arms) lists.0 ∙ ap (arm_chosen alt pick offers) lists.1 ∙ r) in
          record { end = ap OfProcess s.0; net = ap (λ l. got a c l (took_arm t arm (Some m)) m) s.0 ∙ ap (λ l. got a c j (took_arm l arm (Some m)) m) s.1 ∙ ap (λ l. got a c j (took_arm u l (Some m)) m) same }
      by (arm_gets {n = i} {t = t} {pri = pri} {arms = arms} {a = arm} h w q f) (screen_gets e) = absurd (unread i (arm_there i t pri arms arm h w q f) (inl e))
      by (arm_gets {n = i} {t = t} {pri = pri} {arms = arms} {a = arm} h w q f) (error_gets e) = absurd (unread i (arm_there i t pri arms arm h w q f) (inr e))
      by (screen_gets e) (task_gets {n = i} {t = t} h w) = absurd (unread i (input_there i t h w) (inl e))
      by (screen_gets e) (arm_gets {n = i} {t = t} {pri = pri} {arms = arms} {a = arm} h w q f) = absurd (unread i (arm_there i t pri arms arm h w q f) (inl e))
      by (screen_gets e) (screen_gets f) = record { end = refl; net = refl }
      by (screen_gets e) (error_gets f) = let q = sym e ∙ f in absurd cc
      by (error_gets e) (task_gets {n = i} {t = t} h w) = absurd (unread i (input_there i t h w) (inr e))
      by (error_gets e) (arm_gets {n = i} {t = t} {pri = pri} {arms = arms} {a = arm} h w q f) = absurd (unread i (arm_there i t pri arms arm h w q f) (inr e))
      by (error_gets e) (screen_gets f) = let q = sym e ∙ f in absurd cc
      by (error_gets e) (error_gets f) = record { end = refl; net = refl }

-- ---- what happens after a turn, by what the process that took it waits for

module _ (bodies : List Body) (n pick : ℕ) (now : Net) (after : Task) (mine : HasTask now.tasks n after) where
  data Happened : Wait → Net → Type 0 where
    sent : {c : ℕ} {m : Message} {y : End} {e : Net} → Gets pick (standing now) c m y (gave now c n after m) e → Happened (W.Offers c m) (traced e (communication c (OfProcess n) y m))
    heard : {c : ℕ} {m : Message} {x : End} {b : Net} → HandsOver c m x now b → Happened (W.Awaits c) (traced (got b c n (has_taken after m) m) (communication c x (OfProcess n) m))
    chose : {pri : Bool} {arms : List Arm} {arm : Arm} {c : ℕ} {m : Message} {x : End} {b : Net}
        → arm_chosen pri pick (standing now) arms ≡ Some arm → arm.chan ≡ Some c → HandsOver c m x now b
        → Happened (W.Chooses pri arms) (traced (got b c n (took_arm after arm (Some m)) m) (communication c x (OfProcess n) m))
    skipped : {pri : Bool} {arms : List Arm} {arm : Arm}
        → arm_chosen pri pick (standing now) arms ≡ Some arm → arm.chan ≡ None → Happened (W.Chooses pri arms) (with_task now n (took_arm after arm None))
    forked : {ns : List ℕ} → Happened (W.Joins ns) (record now { tasks = with_branches bodies after.frame ns now.tasks })
    ended : (i : ℕ) (t : Task) (ns : List ℕ)
        → HasTask now.tasks i t → t.wait ≡ W.Joins ns → IsTrue (is_held ns n) → Happened W.Done (with_task now i (joined_with t (merged bodies now.tasks ns t.frame)))

  -- a task that took no part in the output
  given_back : {c : ℕ} {m : Message} {x : End} {b : Net} → (i : ℕ) (v : Task) → HandsOver c m x now b → HasTask b.tasks i v → (v.wait ≡ W.Ready → ⊥) → HasTask now.tasks i v
  given_back i v (task_gives {n = z} {t = u} h w) g waits = by (set_back now.tasks z i h g)
    where
      by : ((i ≡ z) × (v ≡ made_ready u)) ⊎ ((i ≡ z → ⊥) × HasTask now.tasks i v) → HasTask now.tasks i v
      by (inl e) = absurd (waits (ap (λ l. l.wait) e.1))
      by (inr e) = e.1
  given_back i v (keyboard_gives e z q) g waits = g

  sends : {c : ℕ} {m : Message} {x y : End} {b e : Net} → x ≡ OfProcess n → HandsOver c m x now b → Gets pick (standing now) c m y b e → Happened after.wait (traced e (communication c x y m))
  sends {c = c} {m = m} {y = y} {e = e} q (task_gives {n = i} {t = t} h w) g =
      let at : i ≡ n = one_number q in
      let same : t ≡ after = task_once now.tasks n (subst (λ l. HasTask now.tasks l t) at h) mine in
      let to : Gets pick (standing now) c m y (gave now c n after m) e =
      subst (λ l. Gets pick (standing now) c m y (gave now c n l m) e) same (subst (λ l. Gets pick (standing now) c m y (gave now c l t m) e) at g)
      in
      let waits : after.wait ≡ W.Offers c m = ap (λ l. l.wait) (sym same) ∙ w in
      subst (λ l. Happened after.wait (traced e (communication c (OfProcess l) y m))) (sym at)
      (subst (λ l. Happened l (traced e (communication c (OfProcess n) y m))) (sym waits) (sent to))
  sends q (keyboard_gives h z r) g = absurd cc

  takes : {c : ℕ} {m : Message} {x y : End} {b e : Net} → y ≡ OfProcess n → HandsOver c m x now b → Gets pick (standing now) c m y b e → Happened after.wait (traced e (communication c x y m))
  takes {c = c} {m = m} {x = x} {b = b} q g (task_gets {n = i} {t = t} h w) =
      let at : i ≡ n = one_number q in
      let there : HasTask now.tasks n t = given_back n t g (subst (λ l. HasTask b.tasks l t) at h) (λ e. let r = sym w ∙ e in cc) in
      let same : t ≡ after = task_once now.tasks n there mine in
      let waits : after.wait ≡ W.Awaits c = ap (λ l. l.wait) (sym same) ∙ w in
      subst (λ l. Happened after.wait (traced (got b c l (has_taken t m) m) (communication c x (OfProcess l) m))) (sym at)
      (subst (λ l. Happened after.wait (traced (got b c n (has_taken l m) m) (communication c x (OfProcess n) m))) (sym same)
      (subst (λ l. Happened l (traced (got b c n (has_taken after m) m) (communication c x (OfProcess n) m))) (sym waits) (heard g)))
  takes {c = c} {m = m} {x = x} {b = b} q g (arm_gets {n = i} {t = t} {pri = pri} {arms = arms} {a = arm} h w r f) =
      let at : i ≡ n = one_number q in
      let there : HasTask now.tasks n t = given_back n t g (subst (λ l. HasTask b.tasks l t) at h) (λ e. let z = sym w ∙ e in cc) in
      let same : t ≡ after = task_once now.tasks n there mine in
      let waits : after.wait ≡ W.Chooses pri arms = ap (λ l. l.wait) (sym same) ∙ w in
      subst (λ l. Happened after.wait (traced (got b c l (took_arm t arm (Some m)) m) (communication c x (OfProcess l) m))) (sym at)
      (subst (λ l. Happened after.wait (traced (got b c n (took_arm l arm (Some m)) m) (communication c x (OfProcess n) m))) (sym same)
      (subst (λ l. Happened l (traced (got b c n (took_arm after arm (Some m)) m) (communication c x (OfProcess n) m))) (sym waits) (chose r f g)))
  takes q g (screen_gets e) = absurd cc
  takes q g (error_gets e) = absurd cc

  happened : {b : Net} → Happens bodies n pick now b → Happened after.wait b
  happened (meets part (joined {c = c} {m = m} {x = x} {y = y} {d = e} g r)) = by part
    where
      by : TakesPart n (communication c x y m) → Happened after.wait (traced e (communication c x y m))
      by (inl q) = sends q g r
      by (inr q) = takes q g r
  happened (skips {t = t} {pri = pri} {arms = arms} {arm = arm} h w q f) =
      let same : t ≡ after = task_once now.tasks n h mine in
      let waits : after.wait ≡ W.Chooses pri arms = ap (λ l. l.wait) (sym same) ∙ w in
      subst (λ l. Happened after.wait (with_task now n (took_arm l arm None))) (sym same) (subst (λ l. Happened l (with_task now n (took_arm after arm None))) (sym waits) (skipped q f))
  happened (forks {t = t} {ns = ns} h w) =
      let same : t ≡ after = task_once now.tasks n h mine in
      let waits : after.wait ≡ W.Joins ns = ap (λ l. l.wait) (sym same) ∙ w in
      subst (λ l. Happened after.wait (record now { tasks = with_branches bodies l.frame ns now.tasks })) (sym same) (subst (λ l. Happened l (record now { tasks = with_branches bodies after.frame ns now.tasks })) (sym waits) forked)
  happened (joins i {t = t} {ns = ns} h w among all) =
      let x = done_is now.tasks n (done_among now.tasks ns all n among) in
      let same : x.0 ≡ after = task_once now.tasks n x.1 mine in
      let waits : after.wait ≡ W.Done = done_wait after.wait (subst (λ l. IsTrue (is_done l.wait)) same x.2) in
      subst (λ l. Happened l (with_task now i (joined_with t (merged bodies now.tasks ns t.frame)))) (sym waits) (ended i t ns h w among)

  -- ---- at most one thing

  module _ (old : Tasks) (orders : Orderly old) (other : (i : ℕ) (t : Task) → HasTask now.tasks i t → (i ≡ n → ⊥) → HasTask old i t) where
    speaks : (c i : ℕ) → ((m : Message) → after.wait ≡ W.Offers c m → ⊥) → Speaks now.tasks c i → Speaks old c i
    speaks c i silent x = record { task = x.task; message = x.message; there = other i x.task x.there apart; says = x.says }
      where
        apart : i ≡ n → ⊥
        apart e = silent x.message (ap (λ l. l.wait) (task_once now.tasks n mine (subst (λ l. HasTask now.tasks l x.task) e x.there)) ∙ x.says)

    listens : (c i e : ℕ) (m : Message) → Listens (gave now e n after m).tasks c i → Listens old c i
    listens c i e m x = by (set_back now.tasks n i mine x.there)
      where
        deaf : (w : Wait) → w ≡ W.Ready → Hears x.pick x.offers c w → ⊥
        deaf w q by_input = cc
        deaf w q (by_arm r f) = cc

        by : ((i ≡ n) × (x.task ≡ made_ready after)) ⊎ ((i ≡ n → ⊥) × HasTask now.tasks i x.task) → Listens old c i
        by (inl q) = absurd (deaf x.task.wait (ap (λ l. l.wait) q.1) x.hears)
        by (inr q) = record { task = x.task; pick = x.pick; offers = x.offers; there = other i x.task q.1 q.0; hears = x.hears }

    one_happened : (w : Wait) {b e : Net} → after.wait ≡ w → Happened w b → Happened w e → b ≡ e
    one_happened w q (sent {c = c} {m = m} {y = y} {e = e} g) (sent {y = z} {e = f} h) =
        let s = same_end old orders pick (standing now) (gave now c n after m) c m (λ i x. listens c i c m x) g h in
        ap (λ l. traced l (communication c (OfProcess n) y m)) s.net ∙ ap (λ l. traced f (communication c (OfProcess n) l m)) s.end
    one_happened w q (heard {c = c} {m = m} {x = x} {b = b} g) (heard {m = v} {x = y} {b = e} h) =
        let s = same_gift old orders now c (λ i z. speaks c i (λ l r. let k = sym q ∙ r in cc) z) g h in
        ap (λ l. traced (got l c n (has_taken after m) m) (communication c x (OfProcess n) m)) s.net
        ∙ ap (λ l. traced (got e c n (has_taken after m) m) (communication c l (OfProcess n) m)) s.end
        ∙ ap (λ l. traced (got e c n (has_taken after l) l) (communication c y (OfProcess n) l)) s.message
    one_happened w q (chose {pri = pri} {arms = arms} {arm = arm} {c = c} {m = m} {x = x} {b = b} r f g) (chose {arm = other_arm} {c = o} {m = v} {x = y} {b = e} k j h) =
        let same : arm ≡ other_arm = one_some (sym r ∙ k) in
        let on : o ≡ c = one_some (sym j ∙ ap (λ l. l.chan) (sym same) ∙ f) in
        let s = same_gift old orders now c (λ i z. speaks c i (λ l t. let k' = sym q ∙ t in cc) z) g (subst (λ l. HandsOver l v y now e) on h) in
        ap (λ l. traced (got l c n (took_arm after arm (Some m)) m) (communication c x (OfProcess n) m)) s.net
        ∙ ap (λ l. traced (got e c n (took_arm after arm (Some m)) m) (communication c l (OfProcess n) m)) s.end
        ∙ ap (λ l. traced (got e c n (took_arm after arm (Some l)) l) (communication c y (OfProcess n) l)) s.message
        ∙ ap (λ l. traced (got e c n (took_arm after l (Some v)) v) (communication c y (OfProcess n) v)) same
        ∙ ap (λ l. traced (got e l n (took_arm after other_arm (Some v)) v) (communication l y (OfProcess n) v)) (sym on)
    one_happened w q (chose r f g) (skipped k j) = let same = one_some (sym r ∙ k) in let z = sym f ∙ ap (λ l. l.chan) same ∙ j in absurd cc
    one_happened w q (skipped r f) (chose k j h) = let same = one_some (sym r ∙ k) in let z = sym f ∙ ap (λ l. l.chan) same ∙ j in absurd cc
    one_happened w q (skipped r f) (skipped k j) = ap (λ l. with_task now n (took_arm after l None)) (one_some (sym r ∙ k))
    one_happened w q forked forked = refl
    one_happened w q (ended i t ns h z among) (ended j u ms g k within) =
        let at : i ≡ j = orders.one_waits n i j (waits i t ns h z among) (waits j u ms g k within) in
        let same : t ≡ u = task_once now.tasks j (subst (λ l. HasTask now.tasks l t) at h) g in
        let numbers : ns ≡ ms = one_fork (sym z ∙ ap (λ l. l.wait) same ∙ k) in
        ap (λ l. with_task now l (joined_with t (merged bodies now.tasks ns t.frame))) at
        ∙ ap (λ l. with_task now j (joined_with l (merged bodies now.tasks ns l.frame))) same
        ∙ ap (λ l. with_task now j (joined_with u (merged bodies now.tasks l u.frame))) numbers
      where
        waits : (i : ℕ) (t : Task) (ns : List ℕ) → HasTask now.tasks i t → t.wait ≡ W.Joins ns → IsTrue (is_held ns n) → WaitsFor old n i
        waits i t ns h z among = record { task = t; branches = ns; there = other i t h apart; waits = z; among = among }
          where
            apart : i ≡ n → ⊥
            apart e = let r = sym q ∙ ap (λ l. l.wait) (task_once now.tasks n mine (subst (λ l. HasTask now.tasks l t) e h)) ∙ z in cc

    settled_once : {b e : Net} → Settled bodies n pick now b → Settled bodies n pick now e → b ≡ e
    settled_once (settles x) (settles y) = one_happened after.wait refl (happened x) (happened y)
    settled_once (settles x) (stays none) = absurd (none _ x)
    settled_once (stays none) (settles y) = absurd (none _ y)
    settled_once (stays none) (stays others) = refl

-- ---- turns and replays

turn_once : (p : Program) (c : Choice) (a : Net) {b e : Net} → Orderly a.tasks → OneTurn p c a b → OneTurn p c a e → b ≡ e
turn_once p c a {b = b} {e = e} orders x y =
    let number : y.number ≡ x.number = one_some (sym y.selects ∙ x.selects) in
    let body : y.body ≡ x.body = one_some (sym y.has_body ∙ ap (slice_get p.bodies) number ∙ x.has_body) in
    let before : y.before ≡ x.before = task_once a.tasks x.number (subst (λ l. HasTask a.tasks l y.before) number y.has_task) x.has_task in
    let stops : Stopping x.body x.before y.after = subst (λ l. Stopping l x.before y.after) body (subst (λ l. Stopping y.body l y.after) before y.stops) in
    let after : y.after ≡ x.after = stopping_once x.body x.before y.after x.after stops x.stops in
    let settles : Settled p.bodies x.number c.pick (took_turn a x.number x.after) e =
    subst (λ l. Settled p.bodies x.number c.pick (took_turn a x.number l) e) after (subst (λ l. Settled p.bodies l c.pick (took_turn a l y.after) e) number y.settles)
    in
    settled_once p.bodies x.number c.pick (took_turn a x.number x.after) x.after (set_same a.tasks x.number (Some x.before) (Some x.after) x.has_task)
    a.tasks orders (λ i t h k. sym (set_other a.tasks x.number i (Some x.after) k) ∙ h) x.settles settles

not_empty : {X : Type 0} (xs : List X) (x : X) → xs ++ x ∷ [] ≡ [] → ⊥
not_empty [] x e = cc
not_empty (y ∷ xs) x e = cc

pub same_last : {X : Type 0} (xs ys : List X) (x y : X) → xs ++ x ∷ [] ≡ ys ++ y ∷ [] → (xs ≡ ys) × (x ≡ y)
same_last [] [] x y e = (refl, cc)
same_last [] (w ∷ ys) x y e = let q : ys ++ y ∷ [] ≡ [] = cc in absurd (not_empty ys y q)
same_last (z ∷ xs) [] x y e = let q : xs ++ x ∷ [] ≡ [] = cc in absurd (not_empty xs x q)
same_last (z ∷ xs) (w ∷ ys) x y e =
    let first : z ≡ w = cc in
    let rest = same_last xs ys x y cc in
    (ap (λ l. l ∷ xs) first ∙ ap (λ l. w ∷ l) rest.0, rest.1)

module _ (u : UnfoldedProgram) (p : Program) (quantum : ℕ) (kb : List ℕ) (w : IsWellFormed u) (lawful : Lawful u) (from : IsCompiledFrom u quantum p) (bytes : AreBytes kb) where
  pub ordered : (cs : List Choice) (net : Net) → 1 + length cs < 2 ^ 64 → Replays p kb cs net → Orderly net.tasks
  ordered cs net small r =
      let x = all_followed u p quantum kb w lawful from bytes cs net 1 small r in
      orderly (d u p quantum kb w lawful from bytes) p (procs u p quantum kb w lawful from bytes) 1 net.tasks x.follows.proc x.follows.store x.follows.state (meaning u) lawful refl

  replayed_once : (cs ds : List Choice) {a b : Net} → cs ≡ ds → length cs < 2 ^ 64 → Replays p kb cs a → Replays p kb ds b → a ≡ b
  replayed_once cs ds e small begins begins = refl
  replayed_once cs ds e small begins (goes_on {cs = ys} {c = y} r z o) = absurd (not_empty ys y (sym e))
  replayed_once cs ds e small (goes_on {cs = xs} {c = x} r z o) begins = absurd (not_empty xs x e)
  replayed_once cs ds e small (goes_on {cs = xs} {c = x} {a = a} {b = b} r z o) (goes_on {cs = ys} {c = y} {a = a'} {b = b'} s k t) =
      let parts = same_last xs ys x y e in
      let fewer : 1 + length xs < 2 ^ 64 = omega (arith, small, length-append xs (x ∷ [])) in
      let net : a ≡ a' = replayed_once xs ys parts.0 (omega (arith, fewer)) r s in
      turn_once p x a (ordered xs a fewer r) o (subst (λ l. OneTurn p x l b') (sym net) (subst (λ l. OneTurn p l a' b') (sym parts.1) t))

-- what may happen after a turn is where the turn comes to
pub turn_comes_to : (u : UnfoldedProgram) (p : Program) (quantum : ℕ) (kb : List ℕ) (cs : List Choice) (net : Net) → IsReplay u p quantum kb cs net → (c : Choice) {b e : Net} → (o : OneTurn p c net b) → Settled p.bodies o.number c.pick (took_turn net o.number o.after) e → b ≡ e
turn_comes_to u p quantum kb cs net z c {e = e} o s =
    let other : OneTurn p c net e = record { number = o.number; body = o.body; before = o.before; after = o.after; selects = o.selects; has_body = o.has_body; has_task = o.has_task; stops = o.stops; settles = s } in
    turn_once p c net (ordered u p quantum kb z.well_formed z.lawful z.compiled z.bytes cs net z.few z.replays) o other

pub one_replay : OneReplay
one_replay u p quantum kb cs a b w lawful from bytes small r s = replayed_once u p quantum kb w lawful from bytes cs cs refl small r s

-- ---- a replay has gone on from each of its beginnings

-- where a replay stood after its first choices, and that it went on
pub record Passed (p : Program) (kb : List ℕ) (cs : List Choice) : Type 0 where
  pub net : Net
  pub replays : Replays p kb cs net
  pub going : ending_of p.errors net ≡ None

-- a list is empty or has a last element
ends_with : {X : Type 0} (xs : List X) → (xs ≡ []) ⊎ ((front : List X) × (x : X) × (xs ≡ front ++ x ∷ []))
ends_with [] = inl refl
ends_with (x ∷ xs) = by (ends_with xs)
  where
    by : (xs ≡ []) ⊎ ((front : List _) × (y : _) × (xs ≡ front ++ y ∷ [])) → (x ∷ xs ≡ []) ⊎ ((front : List _) × (y : _) × (x ∷ xs ≡ front ++ y ∷ []))
    by (inl e) = inr ([], x, ap (λ l. x ∷ l) e)
    by (inr z) = inr (x ∷ z.0, z.1, ap (λ l. x ∷ l) z.2)

pub passed : (p : Program) (kb : List ℕ) (all first : List Choice) (c : Choice) (rest : List Choice) (net : Net) → Replays p kb all net → all ≡ first ++ c ∷ rest → Passed p kb first
passed p kb all first c rest net begins e = absurd (no_start first e)
  where
    no_start : (xs : List Choice) → [] ≡ xs ++ c ∷ rest → ⊥
    no_start [] q = cc
    no_start (x ∷ xs) q = cc
passed p kb all first c rest net (goes_on {cs = ds} {c = x} {a = a} r going o) e = by (λ front q. passed p kb ds first c front a r q) (ends_with rest)
  where
    by : ((front : List Choice) → ds ≡ first ++ c ∷ front → Passed p kb first) → (rest ≡ []) ⊎ ((front : List Choice) × (y : Choice) × (rest ≡ front ++ y ∷ [])) → Passed p kb first
    by before (inl q) =
        let parts = same_last ds first x c (e ∙ ap (λ l. first ++ c ∷ l) q) in
        record { net = a; replays = subst (λ l. Replays p kb l a) parts.0 r; going = going }
    by before (inr z) =
        let parts = same_last ds (first ++ c ∷ z.0) x z.1 (e ∙ ap (λ l. first ++ c ∷ l) z.2 ∙ sym (append_assoc first (c ∷ z.0) (z.1 ∷ []))) in
        before z.0 parts.0
