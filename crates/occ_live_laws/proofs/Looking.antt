-- A turn that looks past the bytes is another one with a byte more.
use Rattle.std.proofs.Common.{◌≡◌, ◌∙◌, refl, sym, ap, subst, Bool, true, false, IsTrue, ℕ, ◌⊎◌, inl, inr, List, [], ◌∷◌, ◌++◌, Option, Some, None}
use Rattle.std.specs.Prelude.{slice_get, slice_set, ◌||◌, nat_eq}
use Rattle.std.proofs.lemmas.Bool.{eq-eqb}
use Rattle.std.proofs.lemmas.Bool.Decides.{eqb_tells}
use mathlib.Core.Bool.{true≢false}
use Rattle.occ_term.specs.declared.communication.Communication.{Communication}
use Rattle.occ_term.specs.declared.communication.End.{End}
use Rattle.occ_term.specs.declared.communication.End.TheVariants.{Process as OfProcess}
use Rattle.occ_term.specs.declared.message.Message.{Message}
use Rattle.occ_term.specs.Frames.{is_held}
use Rattle.occ_term.specs.System.{communication, has_byte}
use Rattle.occ_term.specs.UnfoldedProgram.{UnfoldedProgram}
use Rattle.occ_machine.specs.Compiled.{Program}
use Rattle.occ_machine.specs.Machine.{Body, Stopping}
use Rattle.occ_machine.specs.declared.task.Arm.{Arm}
use Rattle.occ_machine.specs.declared.task.Task.{Task}
use Rattle.occ_machine.specs.declared.task.Wait.{Wait}
use Rattle.occ_machine.specs.declared.task.Wait.TheVariants as W
use Rattle.occ_net_replay.specs.declared.choice.Choice.{Choice}
use Rattle.occ_net_replay.specs.Replay.{Net, HasTask, arm_chosen, is_done, offers_among, standing, took_arm, took_turn, traced, AreDone, HandsOver, task_gives, keyboard_gives, Gets, task_gets, arm_gets, screen_gets, error_gets, joined, Happens, meets, skips, forks, joins, Settled, settles, stays, OneTurn}
use Rattle.occ_net_replay.specs.Waiting.{IsReplay, channels_of, listens_on}
use Rattle.occ_net_replay.proofs.OneStop.{stopping_once}
use Rattle.occ_net_replay.proofs.Orderly.{Orderly}
use Rattle.occ_net_replay.proofs.Quiet.{done_is}
use Rattle.occ_net_replay.proofs.Same.{ordered, same_last}
use Rattle.occ_net_replay.proofs.Settling.{done_among}
use Rattle.occ_net_replay.proofs.Tables.{or_first, set_other, set_same, same_or_not, task_once}
use Rattle.occ_live_laws.specs.Live.{IsDeaf, StaysWithin, or_keyboard, with_more}
use Rattle.occ_live_laws.proofs.Deaf.{deaf_arms}
use Rattle.occ_live_laws.proofs.Hearing.{happened_kept, heard_happens}
use Rattle.occ_live_laws.proofs.More.{given_back}
use Rattle.occ_live_laws.proofs.Shown.{gives_trace}

one_some : {X : Type 0} {x y : X} → Some x ≡ Some y → x ≡ y
one_some e = cc

-- ---- what happens where the mover chooses

-- what was said with an arm
data Said (net : Net) (arm : Arm) (m : Option Message) (b : Net) : Type 0 where
  silent : m ≡ None → arm.chan ≡ None → Said net arm m b
  spoken : (c : ℕ) (v : Message) (x y : End) → m ≡ Some v → arm.chan ≡ Some c → b.trace ≡ net.trace ++ communication c x y v ∷ [] → Said net arm m b

record TookArm (n pick : ℕ) (net : Net) (t : Task) (pri : Bool) (arms : List Arm) (b : Net) : Type 0 where
  arm : Arm
  message : Option Message
  chosen : arm_chosen pri pick (standing net) arms ≡ Some arm
  there : HasTask b.tasks n (took_arm t arm message)
  said : Said net arm message b

module _ (bodies : List Body) (n pick : ℕ) (net : Net) (t : Task) (mine : HasTask net.tasks n t) where
  -- among branches that are all done a process is done
  is_over : (ns : List ℕ) → IsTrue (is_held ns n) → AreDone net.tasks ns → IsTrue (is_done t.wait)
  is_over ns among done = by (done_is net.tasks n (done_among net.tasks ns done n among))
    where
      by : (v : Task) × HasTask net.tasks n v × IsTrue (is_done v.wait) → IsTrue (is_done t.wait)
      by (v, e, d) = subst (λ z. IsTrue (is_done z.wait)) (task_once net.tasks n e mine) d

  -- the task of the process, where it stands at a number that is its own
  own : (i : ℕ) (u : Task) → i ≡ n → HasTask net.tasks i u → u ≡ t
  own i u e h = task_once net.tasks n (subst (λ k. HasTask net.tasks k u) e h) mine

  own_behind : {c : ℕ} {m : Message} {x : End} {b : Net} (i : ℕ) (u : Task) → HandsOver c m x net b → i ≡ n → HasTask b.tasks i u → (u.wait ≡ W.Ready → ⊥) → u ≡ t
  own_behind i u g e h waits = own i u e (given_back i u g h waits)

  module _ (pri : Bool) (arms : List Arm) (w : t.wait ≡ W.Chooses pri arms) where
    got_arm : {c : ℕ} {m : Message} {x y : End} {b d : Net} → HandsOver c m x net b → Gets pick (standing net) c m y b d → y ≡ OfProcess n → TookArm n pick net t pri arms (traced d (communication c x y m))
    got_arm g (task_gets {n = i} {t = u} h v) q =
        let number : i ≡ n = cc in
        let same : u ≡ t = own_behind i u g number h (λ k. let z = sym v ∙ k in absurd cc) in
        let clash = sym v ∙ ap (λ k. k.wait) same ∙ w in
        absurd cc
    got_arm {c = c} {m = m} {x = x} g (arm_gets {n = i} {t = u} {net = k} {pri = first} {arms = others} {a = arm} h v e f) q =
        let number : i ≡ n = cc in
        let same : u ≡ t = own_behind i u g number h (λ j. let z = sym v ∙ j in absurd cc) in
        let choice : W.Chooses first others ≡ W.Chooses pri arms = sym v ∙ ap (λ j. j.wait) same ∙ w in
        let order : first ≡ pri = cc in
        let list : others ≡ arms = cc in
        let set : HasTask (slice_set k.tasks i (Some (took_arm u arm (Some m)))) i (took_arm u arm (Some m)) = set_same k.tasks i (Some u) (Some (took_arm u arm (Some m))) h in
        record {
          arm = arm;
          message = Some m;
          chosen = subst (λ z. arm_chosen z pick (standing net) arms ≡ Some arm) order (subst (λ z. arm_chosen first pick (standing net) z ≡ Some arm) list e);
          there = subst (λ j. HasTask (slice_set k.tasks i (Some (took_arm u arm (Some m)))) n (took_arm j arm (Some m))) same (subst (λ j. HasTask (slice_set k.tasks i (Some (took_arm u arm (Some m)))) j (took_arm u arm (Some m))) number set);
          said = spoken c m x (OfProcess i) refl f (ap (λ l. l ++ communication c x (OfProcess i) m ∷ []) (gives_trace g));
        }
    got_arm g (screen_gets e) q = absurd cc
    got_arm g (error_gets e) q = absurd cc

    took : (b : Net) → Happens bodies n pick net b → TookArm n pick net t pri arms b
    took b (meets (inl q) (joined (task_gives {n = i} {t = u} h v) r)) =
        let number : i ≡ n = cc in
        let clash = sym v ∙ ap (λ k. k.wait) (own i u number h) ∙ w in
        absurd cc
    took b (meets (inl q) (joined (keyboard_gives e z v) r)) = absurd cc
    took b (meets (inr q) (joined g r)) = got_arm g r q
    took b (skips {t = u} {pri = first} {arms = others} {arm = arm} h v e f) =
        let same : u ≡ t = own n u refl h in
        let choice : W.Chooses first others ≡ W.Chooses pri arms = sym v ∙ ap (λ j. j.wait) same ∙ w in
        let order : first ≡ pri = cc in
        let list : others ≡ arms = cc in
        record {
          arm = arm;
          message = None;
          chosen = subst (λ z. arm_chosen z pick (standing net) arms ≡ Some arm) order (subst (λ z. arm_chosen first pick (standing net) z ≡ Some arm) list e);
          there = subst (λ j. HasTask (slice_set net.tasks n (Some (took_arm u arm None))) n (took_arm j arm None)) same (set_same net.tasks n (Some u) (Some (took_arm u arm None)) h);
          said = silent refl f;
        }
    took b (forks {t = u} h v) = let clash = sym v ∙ ap (λ k. k.wait) (own n u refl h) ∙ w in absurd cc
    took b (joins m {ns = ns} h v among done) = absurd (true≢false (sym (is_over ns among done) ∙ ap is_done w))

  -- ---- what happens where the mover awaits

  module _ (c : ℕ) (w : t.wait ≡ W.Awaits c) (speaks : (i : ℕ) (u : Task) (m : Message) → HasTask net.tasks i u → u.wait ≡ W.Offers c m → ⊥) (gone : net.keyboard ≡ []) where
    none_gets : {d : ℕ} {m : Message} {x y : End} {b e : Net} → HandsOver d m x net b → Gets pick (standing net) d m y b e → y ≡ OfProcess n → ⊥
    none_gets g (task_gets {n = i} {t = u} h v) q =
        let number : i ≡ n = cc in
        let same : u ≡ t = own_behind i u g number h (λ k. let z = sym v ∙ k in absurd cc) in
        let await = sym v ∙ ap (λ k. k.wait) same ∙ w in
        given g cc
      where
        given : {d : ℕ} {m : Message} {x : End} {b : Net} → HandsOver d m x net b → d ≡ c → ⊥
        given {m = v} (task_gives {n = z} {t = o} k s) f = speaks z o v k (subst (λ j. o.wait ≡ W.Offers j v) f s)
        given (keyboard_gives k z s) f = let clash = sym gone ∙ k in cc
    none_gets g (arm_gets {n = i} {t = u} h v e f) q =
        let number : i ≡ n = cc in
        let same : u ≡ t = own_behind i u g number h (λ k. let z = sym v ∙ k in absurd cc) in
        let clash = sym v ∙ ap (λ k. k.wait) same ∙ w in
        cc
    none_gets g (screen_gets e) q = cc
    none_gets g (error_gets e) q = cc

    none_happens : (b : Net) → Happens bodies n pick net b → ⊥
    none_happens b (meets (inl q) (joined (task_gives {n = i} {t = u} h v) r)) =
        let number : i ≡ n = cc in
        let clash = sym v ∙ ap (λ k. k.wait) (own i u number h) ∙ w in
        cc
    none_happens b (meets (inl q) (joined (keyboard_gives e z v) r)) = cc
    none_happens b (meets (inr q) (joined g r)) = none_gets g r q
    none_happens b (skips {t = u} h v e f) = let clash = sym v ∙ ap (λ k. k.wait) (own n u refl h) ∙ w in cc
    none_happens b (forks {t = u} h v) = let clash = sym v ∙ ap (λ k. k.wait) (own n u refl h) ∙ w in cc
    none_happens b (joins m {ns = ns} h v among done) = true≢false (sym (is_over ns among done) ∙ ap is_done w)

same_arm : (a b : Arm) → a.number ≡ b.number → a.chan ≡ b.chan → a.indices ≡ b.indices → a ≡ b
same_arm a b e f g =
    ap (λ i. record a { number = i }) e ∙ ap (λ i. record a { number = b.number; chan = i }) f ∙ ap (λ i. record a { number = b.number; chan = b.chan; indices = i }) g

not_empty : (xs : List ℕ) (x : ℕ) → xs ++ x ∷ [] ≡ [] → ⊥
not_empty [] x e = cc
not_empty (y ∷ xs) x e = cc

-- ---- a turn

module _ (bodies : List Body) (n pick : ℕ) (net : Net) (byte : ℕ) (after : Task) (mine : HasTask net.tasks n after) (silent_keys : (i : ℕ) (t : Task) (m : Message) → HasTask net.tasks i t → (i ≡ n → ⊥) → t.wait ≡ W.Offers 0 m → ⊥)
    (past : (net.keyboard ≡ [] → IsDeaf pick (offers_among net.tasks) after.wait) → ⊥) where
  abbrev with_byte : Net
  with_byte = with_more (byte ∷ []) net

  abbrev offered : ℕ → Bool
  offered = offers_among net.tasks

  gone : net.keyboard ≡ []
  gone = by net.keyboard refl
    where
      by : (l : List ℕ) → net.keyboard ≡ l → net.keyboard ≡ []
      by [] e = e
      by (x ∷ l) e = absurd (past (λ k. let clash = sym k ∙ e in absurd cc))

  deaf_at : (w : Wait) → after.wait ≡ w → IsDeaf pick offered w → ⊥
  deaf_at w q d = past (λ k. subst (IsDeaf pick offered) (sym q) d)

  -- with the byte something happens
  goes : IsTrue (listens_on after.wait 0) → {other : Net} → Settled bodies n pick with_byte other → Happens bodies n pick with_byte other
  goes l (settles h) = h
  goes l (stays none) = let x = heard_happens bodies n pick with_byte after mine l (λ k. absurd (not_empty net.keyboard byte k)) in absurd (none x.0 x.1)

  -- the network that it comes to has the tasks and communications of the one without
  module _ (b other : Net) (first : Settled bodies n pick net b) (second : Settled bodies n pick with_byte other) (same : other ≡ with_more (byte ∷ []) b) where
    moved : (t : Task) → HasTask b.tasks n t → HasTask other.tasks n t
    moved t h = subst (λ k. HasTask k.tasks n t) (sym same) h

    awaits : (c : ℕ) → after.wait ≡ W.Awaits c → c ≡ 0 → ⊥
    awaits c q z = by first moved
      where
        l : IsTrue (listens_on after.wait 0)
        l = subst (λ k. IsTrue (listens_on k 0)) (sym q) (or_first (nat_eq c 0) false (eq-eqb c 0 z))

        speaks : (i : ℕ) (t : Task) (m : Message) → HasTask net.tasks i t → t.wait ≡ W.Offers c m → ⊥
        speaks i t m h w = at (same_or_not i n)
          where
            at : (i ≡ n) ⊎ (i ≡ n → ⊥) → ⊥
            at (inl e) = let clash = sym w ∙ ap (λ k. k.wait) (task_once net.tasks n (subst (λ k. HasTask net.tasks k t) e h) mine) ∙ q in cc
            at (inr k) = silent_keys i t m h k (subst (λ j. t.wait ≡ W.Offers j m) z w)

        by : {e : Net} → Settled bodies n pick net e → ((t : Task) → HasTask e.tasks n t → HasTask other.tasks n t) → ⊥
        by (settles h) k = none_happens bodies n pick net after mine c q speaks gone _ h
        by (stays none) k = (happened_kept n after (goes l second) (k after mine) l).1 refl

    chooses : (pri : Bool) (arms : List Arm) → after.wait ≡ W.Chooses pri arms → IsTrue (is_held (channels_of arms) 0) → ⊥
    chooses pri arms q held = by first moved (ap (λ k. k.trace) same)
      where
        x : TookArm n pick with_byte after pri arms other
        x = took bodies n pick with_byte after mine pri arms q other (goes (subst (λ k. IsTrue (listens_on k 0)) (sym q) held) second)

        said_same : {e : Net} {m : Option Message} (arm : Arm) → other.trace ≡ e.trace → x.message ≡ m → Said net arm m e → Said with_byte x.arm x.message other → x.arm.chan ≡ arm.chan
        said_same arm t k (silent m f) (silent v g) = g ∙ sym f
        said_same arm t k (silent m f) (spoken c v y z w g s) = let clash = sym w ∙ k ∙ m in absurd cc
        said_same arm t k (spoken c v y z w g s) (silent m f) = let clash = sym m ∙ k ∙ w in absurd cc
        said_same arm t k (spoken c v y z w g s) (spoken d u i j o r a) =
            let last = same_last net.trace net.trace (communication d i j u) (communication c y z v) (sym a ∙ t ∙ s) in
            r ∙ ap Some (ap (λ (l : Communication). l.chan) last.1) ∙ sym g

        by : {e : Net} → Settled bodies n pick net e → ((t : Task) → HasTask e.tasks n t → HasTask other.tasks n t) → other.trace ≡ e.trace → ⊥
        by (stays none) k t =
            let one = task_once other.tasks n x.there (k after mine) in
            let clash = ap (λ z. z.wait) one ∙ q in
            cc
        by {e = e} (settles h) k t =
            let y = took bodies n pick net after mine pri arms q e h in
            let one = task_once other.tasks n x.there (k (took_arm after y.arm y.message) y.there) in
            let waits : W.Took x.arm.number x.arm.indices x.message ≡ W.Took y.arm.number y.arm.indices y.message = ap (λ z. z.wait) one in
            let numbers : x.arm.number ≡ y.arm.number = cc in
            let indices : x.arm.indices ≡ y.arm.indices = cc in
            let messages : x.message ≡ y.message = cc in
            let arm : x.arm ≡ y.arm = same_arm x.arm y.arm numbers (said_same y.arm t messages y.said x.said) indices in
            let with : arm_chosen pri pick (standing with_byte) arms ≡ arm_chosen pri pick (or_keyboard offered) arms = ap (λ l. arm_chosen pri pick (λ c. has_byte (l ++ byte ∷ []) c || offered c) arms) gone in
            let without : arm_chosen pri pick (standing net) arms ≡ arm_chosen pri pick offered arms = ap (λ l. arm_chosen pri pick (λ c. has_byte l c || offered c) arms) gone in
            deaf_at (W.Chooses pri arms) q (sym with ∙ x.chosen ∙ ap Some arm ∙ sym y.chosen ∙ without)

    pub differ : ⊥
    differ = by after.wait refl
      where
        held_or_not : (pri : Bool) (arms : List Arm) → after.wait ≡ W.Chooses pri arms → (h : Bool) → is_held (channels_of arms) 0 ≡ h → ⊥
        held_or_not pri arms q true h = chooses pri arms q h
        held_or_not pri arms q false h = deaf_at (W.Chooses pri arms) q (deaf_arms pick offered pri arms h)

        await : (c : ℕ) → after.wait ≡ W.Awaits c → ((nat_eq c 0 ≡ true) × (c ≡ 0)) ⊎ ((nat_eq c 0 ≡ false) × (c ≡ 0 → ⊥)) → ⊥
        await c q (inl x) = awaits c q x.1
        await c q (inr x) = deaf_at (W.Awaits c) q x.0

        by : (w : Wait) → after.wait ≡ w → ⊥
        by W.Ready q = deaf_at W.Ready q tt
        by (W.Took arm is m) q = deaf_at (W.Took arm is m) q tt
        by (W.Offers c m) q = deaf_at (W.Offers c m) q tt
        by (W.Awaits c) q = await c q (eqb_tells c 0)
        by (W.Chooses pri arms) q = held_or_not pri arms q (is_held (channels_of arms) 0) refl
        by (W.Joins ns) q = deaf_at (W.Joins ns) q tt
        by W.Halted q = deaf_at W.Halted q tt
        by W.Done q = deaf_at W.Done q tt
        by (W.Faulted e) q = deaf_at (W.Faulted e) q tt

pub looks_matter : (u : UnfoldedProgram) (p : Program) (quantum : ℕ) (keyboard : List ℕ) (cs : List Choice) (c : Choice) (a b other : Net) (byte : ℕ) → IsReplay u p quantum keyboard cs a → (o : OneTurn p c a b) → (StaysWithin c.pick a o.number o.after → ⊥)
    → OneTurn p c (with_more (byte ∷ []) a) other → other ≡ with_more (byte ∷ []) b → ⊥
looks_matter u p quantum keyboard cs c a b other byte z o past y same =
    let orders : Orderly a.tasks = ordered u p quantum keyboard z.well_formed z.lawful z.compiled z.bytes cs a z.few z.replays in
    let number : y.number ≡ o.number = one_some (sym y.selects ∙ o.selects) in
    let body : y.body ≡ o.body = one_some (sym y.has_body ∙ ap (slice_get p.bodies) number ∙ o.has_body) in
    let before : y.before ≡ o.before = task_once a.tasks o.number (subst (λ l. HasTask a.tasks l y.before) number y.has_task) o.has_task in
    let stops : Stopping o.body o.before y.after = subst (λ l. Stopping l o.before y.after) body (subst (λ l. Stopping y.body l y.after) before y.stops) in
    let after : y.after ≡ o.after = stopping_once o.body o.before y.after o.after stops o.stops in
    let settles : Settled p.bodies o.number c.pick (took_turn (with_more (byte ∷ []) a) o.number o.after) other =
    subst (λ l. Settled p.bodies o.number c.pick (took_turn (with_more (byte ∷ []) a) o.number l) other) after (subst (λ l. Settled p.bodies l c.pick (took_turn (with_more (byte ∷ []) a) l y.after) other) number y.settles)
    in
    differ p.bodies o.number c.pick (took_turn a o.number o.after) byte o.after (set_same a.tasks o.number (Some o.before) (Some o.after) o.has_task)
    (λ i t m h k w. orders.no_keyboard i (record { task = t; message = m; there = sym (set_other a.tasks o.number i (Some o.after) k) ∙ h; says = w }))
    past b other o.settles settles same
