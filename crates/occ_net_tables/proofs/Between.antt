-- Between a turn and what it makes possible: the task has taken the turn, and is left as ready.
use Rattle.std.proofs.Common.{◌≡◌, ◌∙◌, refl, sym, ap, subst, Bool, true, false, IsTrue, ℕ, zero, suc, ◌+◌, ◌<◌, ◌⊎◌, inl, inr, List, [], ◌∷◌, ◌++◌, Option, Some, None, length, drop, arith, append-nil}
use Rattle.std.specs.Prelude.{slice_get, slice_set, nat_eq, if◌then◌else◌, ◌||◌}
use Rattle.std.proofs.lemmas.Bool.{eqb-true, eq-eqb}
use mathlib.Core.Bool.{true≢false}
use Rattle.occ_term.specs.declared.fault.Fault.{Fault}
use Rattle.occ_term.specs.declared.message.Message.{Message}
use Rattle.occ_term.specs.System.{communication, has_byte}
use Rattle.occ_machine.specs.SameStop.{ready_with}
use Rattle.occ_machine.specs.Compiled.{Program}
use Rattle.occ_machine.specs.declared.task.Arm.{Arm}
use Rattle.occ_machine.specs.declared.task.Task.{Task}
use Rattle.occ_machine.specs.declared.task.Wait.{Wait}
use Rattle.occ_machine.specs.declared.task.Wait.TheVariants as W
use Rattle.occ_net_replay.specs.Replay.{Net, HasTask, may_go, noted_at, made_ready, byte_message, offers_among, one_more, standing, took_arm, with_task, traced, took_turn, offers_on, task_gives, keyboard_gives, screen_gets, error_gets, joined, meets, Settled, settles, stays}
use Rattle.occ_net_replay.specs.Waiting.{channels_at, listens_on}
use Rattle.occ_net_replay.proofs.Tables.{OffersOn, offers_found, offers_there, or_else, or_first, or_second, set_same, set_other, set_back, task_once}
use Rattle.occ_net_replay.specs.Moments.{NoneReady, is_read}
use Rattle.occ_term.specs.declared.communication.End.{End}
use Rattle.occ_term.specs.declared.communication.End.TheVariants.{Process as OfProcess, Keyboard, Screen, Error}
use Rattle.occ_term.specs.declared.communication.Communication.{Communication}
use Rattle.occ_net_tables.specs.declared.tables.Tables.{Tables}
use Rattle.occ_net_tables.specs.Ready.{put_in}
use Rattle.occ_net_tables.specs.Keys.{flat, entry_in}
use Rattle.occ_net_tables.specs.Choosing.{TakesBy, by_input, by_choice, offered_by}
use Rattle.occ_net_tables.specs.Holding.{Sound, Sized}
use Rattle.occ_net_tables.specs.Settling.{Mid, SettlesTo, Handed, TakesAlone, TookByte, TookFrom, IsOffering, outer_taker, byte_on, communicated, with_noted}
use Rattle.occ_net_replay.proofs.Arms.{chosen_by_new}
use Rattle.occ_net_tables.proofs.Arms.{alone_is, gets_by, takes_as, taking}
use Rattle.occ_net_tables.proofs.Keys.{all_length}
use Rattle.occ_net_tables.proofs.OneChange.{either_way, set_twice, set_swap, set_length, true_as}
use Rattle.occ_net_tables.proofs.Meetings.{mine, Unmet, nothing}
use Rattle.occ_net_tables.proofs.Steps.{IsListener, listener_is, listens_only, wake_listener, wake_offerer, takes}
use Rattle.occ_net_replay.proofs.Quiet.{offers_is}

-- ---- tables

pub entry_there : (table : List (Option ℕ)) (c i : ℕ) → entry_in table c ≡ Some i → slice_get table c ≡ Some (Some i)
entry_there table c i e = by (slice_get table c) e
  where
    by : (x : Option (Option ℕ)) → flat x ≡ Some i → x ≡ Some (Some i)
    by None e = absurd cc
    by (Some None) e = absurd cc
    by (Some (Some j)) e = ap Some e

pub no_entry : (table : List (Option ℕ)) (c i : ℕ) → entry_in table c ≡ None → slice_get table c ≡ Some (Some i) → ⊥
no_entry table c i e h = let q : Some i ≡ None = sym (ap flat h) ∙ e in cc

-- ---- the ends beside the processes

none_read : (c : ℕ) → outer_taker c ≡ None → is_read c ≡ false
none_read c e = by (nat_eq c 1) (nat_eq c 2) e
  where
    by : (a b : Bool) → (if a then Some Screen else if b then Some Error else None) ≡ None → (a || b) ≡ false
    by true b e = cc
    by false true e = cc
    by false false e = refl

data Reads : ℕ → End → Type 0 where
  screen_reads : Reads 1 Screen
  error_reads : Reads 2 Error

read_by : (c : ℕ) (r : End) → outer_taker c ≡ Some r → Reads c r
read_by c r e = by (nat_eq c 1) (nat_eq c 2) refl refl e
  where
    at_screen : c ≡ 1 → Screen ≡ r → Reads c r
    at_screen q s = subst (λ k. Reads k r) (sym q) (subst (Reads 1) s screen_reads)

    at_error : c ≡ 2 → Error ≡ r → Reads c r
    at_error q s = subst (λ k. Reads k r) (sym q) (subst (Reads 2) s error_reads)

    by : (a b : Bool) → nat_eq c 1 ≡ a → nat_eq c 2 ≡ b → (if a then Some Screen else if b then Some Error else None) ≡ Some r → Reads c r
    by true b q s e = at_screen (eqb-true c 1 q) cc
    by false true q s e = at_error (eqb-true c 2 s) cc
    by false false q s e = absurd cc

drop_next : (keyboard : List ℕ) (used b : ℕ) → slice_get keyboard used ≡ Some b → drop used keyboard ≡ b ∷ drop (suc used) keyboard
drop_next [] zero b e = absurd cc
drop_next [] (suc n) b e = absurd cc
drop_next (x ∷ xs) zero b e = let same : x ≡ b = cc in ap (λ y. y ∷ xs) same
drop_next (x ∷ xs) (suc n) b e = drop_next xs n b e

drop_past : (keyboard : List ℕ) (used : ℕ) → slice_get keyboard used ≡ None → drop used keyboard ≡ []
drop_past [] zero e = refl
drop_past [] (suc n) e = refl
drop_past (x ∷ xs) zero e = absurd cc
drop_past (x ∷ xs) (suc n) e = drop_past xs n e

pub none_given : (c : ℕ) (keyboard : List ℕ) (used : ℕ) → byte_on c keyboard used ≡ None → has_byte (drop used keyboard) c ≡ false
none_given c keyboard used e = by (nat_eq c 0) refl e
  where
    given : (kb : List ℕ) → nat_eq c 0 ≡ false → has_byte kb c ≡ false
    given [] q = refl
    given (b ∷ kb) q = q

    by : (x : Bool) → nat_eq c 0 ≡ x → (if x then slice_get keyboard used else None) ≡ None → has_byte (drop used keyboard) c ≡ false
    by true q e = ap (λ kb. has_byte kb c) (drop_past keyboard used e)
    by false q e = given (drop used keyboard) q

byte_given : (c : ℕ) (keyboard : List ℕ) (used b : ℕ) → byte_on c keyboard used ≡ Some b → (c ≡ 0) × (drop used keyboard ≡ b ∷ drop (used + 1) keyboard)
byte_given c keyboard used b e = by (nat_eq c 0) refl e
  where
    by : (x : Bool) → nat_eq c 0 ≡ x → (if x then slice_get keyboard used else None) ≡ Some b → (c ≡ 0) × (drop used keyboard ≡ b ∷ drop (used + 1) keyboard)
    by true q e = (eqb-true c 0 q, drop_next keyboard used b e ∙ ap (λ n. b ∷ drop n keyboard) (let next : suc used ≡ used + 1 = omega arith in next))
    by false q e = absurd cc

pub byte_within : (c : ℕ) (keyboard : List ℕ) (used b : ℕ) → byte_on c keyboard used ≡ Some b → used < length keyboard
byte_within c keyboard used b e = by (nat_eq c 0) e
  where
    within : (kb : List ℕ) (n : ℕ) → slice_get kb n ≡ Some b → n < length kb
    within [] n e = absurd cc
    within (x ∷ kb) zero e = omega arith
    within (x ∷ kb) (suc n) e = let h = within kb n e in omega (arith, h)

    by : (x : Bool) → (if x then slice_get keyboard used else None) ≡ Some b → used < length keyboard
    by true e = within keyboard used e
    by false e = absurd cc

-- what takes a message ended its turn with no fault
takes_quietly : {pick c : ℕ} {offers : ℕ → Bool} {w : Wait} {a : Arm} → TakesBy pick offers c w a → noted_at w ≡ []
takes_quietly by_input = refl
takes_quietly (by_choice e f) = refl

-- ---- the state between

module _ (p : Program) (kb : List ℕ) (old : Tables) (number place : ℕ) (after : Task) (net : Net) (mid : Mid p kb old number place after net) where
  abbrev pub now : Net
  now = took_turn net number after

  pub there_old : HasTask old.tasks.items number (made_ready after)
  there_old = ap (λ l. slice_get l number) mid.tasks ∙ set_same net.tasks number (Some mid.before) (Some (made_ready after)) mid.has_task

  -- what was noted before is all, where the turn ended with no fault
  pub kept_quiet : (new : Tables) (v : Wait) → after.wait ≡ v → noted_at v ≡ [] → Sound new net.noted → Sound new now.noted
  kept_quiet new v w e s = subst (Sound new) (sym (ap (λ z. net.noted ++ noted_at z) w ∙ ap (λ l. net.noted ++ l) e ∙ append-nil net.noted)) s

  pub waiting_old : (i : ℕ) (u : Task) → HasTask old.tasks.items i u → may_go u.wait ≡ false → (i ≡ number → ⊥) × HasTask net.tasks i u
  waiting_old i u h f = by (set_back net.tasks number i mid.has_task (sym (ap (λ l. slice_get l i) mid.tasks) ∙ h))
    where
      by : ((i ≡ number) × (u ≡ made_ready after)) ⊎ ((i ≡ number → ⊥) × HasTask net.tasks i u) → (i ≡ number → ⊥) × HasTask net.tasks i u
      by (inl q) = absurd (true≢false (sym (ap (λ z. may_go z.wait) q.1) ∙ f))
      by (inr q) = q

  pub waiting_net : (i : ℕ) (u : Task) → HasTask net.tasks i u → may_go u.wait ≡ false → HasTask old.tasks.items i u
  waiting_net i u h f =
      let apart : i ≡ number → ⊥ = (λ q. let same : u ≡ mid.before = task_once net.tasks number (subst (λ z. HasTask net.tasks z u) q h) mid.has_task in true≢false (sym mid.may ∙ ap (λ z. may_go z.wait) (sym same) ∙ f)) in
      ap (λ l. slice_get l i) mid.tasks ∙ set_other net.tasks number i (Some (made_ready after)) apart ∙ h

  -- the task as it is after the turn
  pub as_after : (v : Wait) → after.wait ≡ v → slice_set old.tasks.items number (Some (ready_with (made_ready after) v)) ≡ now.tasks
  as_after v e =
      ap (λ l. slice_set l number (Some (ready_with (made_ready after) v))) mid.tasks ∙ set_twice net.tasks number (Some (made_ready after)) (Some (ready_with after v))
      ∙ ap (λ z. slice_set net.tasks number (Some (ready_with after z))) (sym e)

  -- the task when it has taken an arm
  pub as_took : (a : Arm) (m : Option Message) → slice_set now.tasks number (Some (took_arm after a m)) ≡ slice_set old.tasks.items number (Some (took_arm (made_ready after) a m))
  as_took a m = set_twice net.tasks number (Some after) (Some (took_arm after a m)) ∙ sym (set_twice net.tasks number (Some (made_ready after)) (Some (took_arm after a m))) ∙ ap (λ l. slice_set l number (Some (took_arm after a m))) (sym mid.tasks)

  -- the task as it was left
  pub as_ready : slice_set now.tasks number (Some (made_ready after)) ≡ old.tasks.items
  as_ready = set_twice net.tasks number (Some after) (Some (made_ready after)) ∙ sym mid.tasks

  pub traced_by : (new : Tables) (x : Communication) → new.trace ≡ old.trace ++ x ∷ [] → net.trace ++ x ∷ [] ≡ new.trace
  traced_by new x e = ap (λ l. l ++ x ∷ []) mid.trace ∙ sym e

  pub bytes_same : (new : Tables) → new.used ≡ old.used → net.keyboard ≡ drop new.used kb
  bytes_same new e = mid.bytes ∙ ap (λ n. drop n kb) (sym e)

  -- ---- the screen or the error channel takes what is offered

  read_settles : (pick c : ℕ) (m : Message) (r : End) → after.wait ≡ W.Offers c m → Reads c r → Settled p.bodies number pick now (traced (record (with_task now number (made_ready after)) { output = one_more net.output c m; input = one_more net.input c m }) (communication c (OfProcess number) (r) m))
  read_settles pick c m r w screen_reads = settles (meets (inl refl) (joined (task_gives (mine p.bodies pick number net mid.before after mid.has_task) w) (screen_gets refl)))
  read_settles pick c m r w error_reads = settles (meets (inl refl) (joined (task_gives (mine p.bodies pick number net mid.before after mid.has_task) w) (error_gets refl)))

  pub was_read : (new : Tables) (pick c : ℕ) (m : Message) (r : End) → after.wait ≡ W.Offers c m → outer_taker c ≡ Some r → new.tasks.items ≡ old.tasks.items → new.used ≡ old.used → new.trace ≡ old.trace ++ communicated c (OfProcess number) r m ∷ [] → Sound new net.noted → Sized p new → SettlesTo p kb pick number after net new
  was_read new pick c m r w e tasks used trace sound sized =
      record {
        next = traced (record (with_task now number (made_ready after)) { output = one_more net.output c m; input = one_more net.input c m }) (communication c (OfProcess number) (r) m);
        settles = read_settles pick c m r w (read_by c r e);
        holds = record {
          tasks = as_ready ∙ sym tasks;
          bytes = bytes_same new used;
          trace = traced_by new (communicated c (OfProcess number) r m) trace;
          sound = kept_quiet new (W.Offers c m) w refl sound;
          sized = sized;
        };
      }

  -- ---- a process that waits for it takes what is offered

  -- an offer of this process is new, and no other one
  pub stands_new : (c : ℕ) (m : Message) → after.wait ≡ W.Offers c m → (d : ℕ) → standing net d ≡ false → standing now d ≡ offered_by (Some c) [] d
  stands_new c m w d f = by (either_way (nat_eq d c)) ∙ sym (alone_is c d)
    where
      at_number : HasTask now.tasks number after
      at_number = mine p.bodies 0 number net mid.before after mid.has_task

      byte : has_byte net.keyboard d ≡ false
      byte = unless (has_byte net.keyboard d) (λ q. or_first (has_byte net.keyboard d) (offers_among net.tasks d) q)
        where
          unless : (b : Bool) → (IsTrue b → IsTrue (standing net d)) → b ≡ false
          unless true g = absurd (true≢false (sym (g refl) ∙ f))
          unless false g = refl

      none : nat_eq d c ≡ false → IsTrue (offers_among now.tasks d) → ⊥
      none q h = at (set_back net.tasks number o.number mid.has_task o.there)
        where
          o : OffersOn now.tasks d
          o = offers_found now.tasks d h

          at : ((o.number ≡ number) × (o.task ≡ after)) ⊎ ((o.number ≡ number → ⊥) × HasTask net.tasks o.number o.task) → ⊥
          at (inl x) =
              let is = offers_is after.wait d (subst (λ z. IsTrue (offers_on z.wait d)) x.1 o.offers) in
              let same : d ≡ c = (let r = sym is.1 ∙ w in cc) in
              true≢false (sym (eq-eqb d c same) ∙ q)
          at (inr x) = true≢false (sym (or_second (has_byte net.keyboard d) (offers_among net.tasks d) (offers_there net.tasks d o.number o.task x.1 o.offers)) ∙ f)

      by : (nat_eq d c ≡ true) ⊎ (nat_eq d c ≡ false) → standing now d ≡ nat_eq d c
      by (inl q) =
          let on : IsTrue (offers_on after.wait d) = ap (λ z. offers_on z d) w ∙ eq-eqb c d (sym (eqb-true d c q)) in
          or_second (has_byte net.keyboard d) (offers_among now.tasks d) (offers_there now.tasks d number after at_number on) ∙ sym q
      by (inr q) = unless (has_byte net.keyboard d || offers_among now.tasks d) (λ h. which (or_else (has_byte net.keyboard d) (offers_among now.tasks d) h)) ∙ sym q
        where
          which : IsTrue (has_byte net.keyboard d) ⊎ IsTrue (offers_among now.tasks d) → ⊥
          which (inl h) = true≢false (sym h ∙ byte)
          which (inr h) = none q h

          unless : (b : Bool) → (IsTrue b → ⊥) → b ≡ false
          unless true g = absurd (g refl)
          unless false g = refl

  pub record Taker (c pick taker : ℕ) : Type 0 where
    pub task : Task
    pub there : HasTask old.tasks.items taker task
    pub listener : IsListener task.wait
    pub apart : taker ≡ number → ⊥
    pub arm : Arm
    pub takes : TakesAlone pick c task.wait arm
    pub unready : (pri : Bool) (arms : List Arm) → task.wait ≡ W.Chooses pri arms → NoneReady (λ a. a.chan) (standing net) arms

  pub taker_of : (c pick taker : ℕ) → entry_in old.awaiting.items c ≡ Some taker → Taker c pick taker
  taker_of c pick taker e =
      let x = mid.sound.awaits.sound c taker (entry_there old.awaiting.items c taker e) in
      let l = listener_is x.task.wait c x.is in
      let w = waiting_old taker x.task x.there (listens_only x.task.wait l).still in
      let unready : (pri : Bool) (arms : List Arm) → x.task.wait ≡ W.Chooses pri arms → NoneReady (λ (a : Arm). a.chan) (standing net) arms = (λ pri arms q. mid.unready taker x.task pri arms w.1 q) in
      let t = taking pick c x.task.wait (standing net) unready x.is in
      record { task = x.task; there = x.there; listener = l; apart = w.0; arm = t.arm; takes = t.takes; unready = unready }

  pub was_given : (new : Tables) (pick c taker : ℕ) (m : Message) → after.wait ≡ W.Offers c m → (x : Taker c pick taker) → Handed (with_noted old (communicated c (OfProcess number) (OfProcess taker) m)) taker x.task x.arm m new → SettlesTo p kb pick number after net new
  was_given new pick c taker m w x g =
      let a = x.arm in
      let took : TakesBy pick (standing now) c x.task.wait a = takes_as pick c (offered_by (Some c) []) (standing now) x.task.wait a (λ pri arms q. sym (chosen_by_new (standing net) (standing now) (offered_by (Some c) []) (stands_new c m w) pri pick arms (x.unready pri arms q))) x.takes in
      let there : HasTask (slice_set now.tasks number (Some (made_ready after))) taker x.task = ap (λ l. slice_get l taker) as_ready ∙ x.there in
      let s = wake_listener old.tasks.items old.ready.items old.offering.items old.awaiting.items old.parents.items old.unfinished.items old.fault mid.sound taker x.task x.there x.task.wait a.number a.indices (Some m) x.listener refl in
      let given : Net = record (with_task now number (made_ready after)) { output = one_more net.output c m } in
      record {
        next = traced (record (with_task given taker (took_arm x.task a (Some m))) { input = one_more net.input c m }) (communication c (OfProcess number) (OfProcess taker) m);
        settles = settles (meets (inl refl) (joined (task_gives (mine p.bodies pick number net mid.before after mid.has_task) w) (gets_by pick c (standing now) m given taker x.task x.task.wait a there refl took)));
        holds = record {
          tasks = ap (λ l. slice_set l taker (Some (took_arm x.task a (Some m)))) as_ready ∙ sym g.tasks;
          bytes = bytes_same new g.used;
          trace = traced_by new (communicated c (OfProcess number) (OfProcess taker) m) g.trace;
          sound = kept_quiet new (W.Offers c m) w refl (true_as g.tasks g.ready (ap (λ z. z.items) g.offering) g.awaiting (ap (λ z. z.items) g.parents) (ap (λ z. z.items) g.unfinished) g.fault s);
          sized = record {
            tasks_are = ap length g.tasks ∙ set_length old.tasks.items taker (Some (took_arm x.task a (Some m))) ∙ mid.sized.tasks_are;
            offering_is = ap (λ z. length z.items) g.offering ∙ mid.sized.offering_is;
            awaiting_is = ap length g.awaiting ∙ all_length (channels_at x.task.wait) None old.awaiting.items ∙ mid.sized.awaiting_is;
            parents_are = ap (λ z. length z.items) g.parents ∙ mid.sized.parents_are;
            unfinished_are = ap (λ z. length z.items) g.unfinished ∙ mid.sized.unfinished_are;
          };
        };
      }

  -- ---- the process waits

  abbrev pub Nobody : ℕ → Type 0
  Nobody pick = Unmet p.bodies pick number net mid.before after mid.has_task

  pub stays_as : (new : Tables) (pick : ℕ) (v : Wait) → after.wait ≡ v → Nobody pick → new.tasks.items ≡ slice_set old.tasks.items number (Some (ready_with (made_ready after) v)) → new.used ≡ old.used → new.trace ≡ old.trace → Sound new now.noted → Sized p new → SettlesTo p kb pick number after net new
  stays_as new pick v w none tasks used trace sound sized =
      record {
        next = now;
        settles = stays (λ b h. nothing p.bodies pick number net mid.before after mid.has_task none h);
        holds = record {
          tasks = sym (tasks ∙ as_after v w);
          bytes = bytes_same new used;
          trace = mid.trace ∙ (sym trace);
          sound = sound;
          sized = sized;
        };
      }

  pub offer_waits : (new : Tables) (pick c : ℕ) (m : Message) → after.wait ≡ W.Offers c m → outer_taker c ≡ None → entry_in old.awaiting.items c ≡ None → new.tasks.items ≡ slice_set old.tasks.items number (Some (ready_with (made_ready after) (W.Offers c m))) → new.used ≡ old.used → new.trace ≡ old.trace → Sound new net.noted → Sized p new → SettlesTo p kb pick number after net new
  offer_waits new pick c m w unread empty tasks used trace sound sized = stays_as new pick (W.Offers c m) w none tasks used trace (kept_quiet new (W.Offers c m) w refl sound) sized
    where
      none : Nobody pick
      none =
          record {
            offers = λ d x e.
                let same : d ≡ c = (let q = sym e ∙ w in cc) in
                (ap is_read same ∙ none_read c unread, λ i u h v. let v' : IsTrue (listens_on u.wait c) = ap (listens_on u.wait) (sym same) ∙ v in no_entry old.awaiting.items c i empty (mid.sound.awaits.whole c i u (waiting_net i u h (listens_only u.wait (listener_is u.wait c v')).still) v'));
            awaits = λ d e. let q = sym w ∙ e in absurd cc;
            unforked = λ ns e. let q = sym w ∙ e in cc;
            unjoined = λ e. let q = sym w ∙ e in absurd cc;
            unchosen = λ pri arms a e f. let q = sym w ∙ e in cc;
          }

  -- ---- the keyboard gives a byte

  pub was_byte : (new : Tables) (pick c b : ℕ) (a : Arm) → TakesBy pick (standing now) c after.wait a → byte_on c kb old.used ≡ Some b → TookByte old number a b new → SettlesTo p kb pick number after net new
  was_byte new pick c b a t e g =
      let x = byte_given c kb old.used b e in
      let rest = drop (old.used + 1) kb in
      let tasks = g.tasks (made_ready after) there_old in
      let m = byte_message b in
      let s = takes old.tasks.items old.ready.items old.offering.items old.awaiting.items old.parents.items old.unfinished.items old.fault mid.sound number (made_ready after) there_old refl a.number a.indices (Some m) in
      let given : Net = record now { keyboard = rest; output = one_more net.output 0 m } in
      record {
        next = traced (record (with_task given number (took_arm after a (Some m))) { input = one_more net.input 0 m }) (communication 0 Keyboard (OfProcess number) m);
        settles = settles (meets (inr refl) (joined (keyboard_gives (mid.bytes ∙ x.1) refl refl) (gets_by pick 0 (standing now) m given number after after.wait a (mine p.bodies pick number net mid.before after mid.has_task) refl (subst (λ z. TakesBy pick (standing now) z after.wait a) x.0 t))));
        holds = record {
          tasks = as_took a (Some m) ∙ sym tasks;
          bytes = ap (λ n. drop n kb) (sym g.used);
          trace = traced_by new (communicated 0 Keyboard (OfProcess number) m) g.trace;
          sound = kept_quiet new after.wait refl (takes_quietly t) (true_as tasks (ap (λ z. z.items) g.ready) (ap (λ z. z.items) g.offering) (ap (λ z. z.items) g.awaiting) (ap (λ z. z.items) g.parents) (ap (λ z. z.items) g.unfinished) g.fault s);
          sized = record {
            tasks_are = ap length tasks ∙ set_length old.tasks.items number (Some (took_arm (made_ready after) a (Some m))) ∙ mid.sized.tasks_are;
            offering_is = ap (λ z. length z.items) g.offering ∙ mid.sized.offering_is;
            awaiting_is = ap (λ z. length z.items) g.awaiting ∙ mid.sized.awaiting_is;
            parents_are = ap (λ z. length z.items) g.parents ∙ mid.sized.parents_are;
            unfinished_are = ap (λ z. length z.items) g.unfinished ∙ mid.sized.unfinished_are;
          };
        };
      }

  -- ---- what another process offers is taken

  pub record Giver (c giver : ℕ) : Type 0 where
    pub offering : IsOffering old.tasks.items giver c
    pub apart : giver ≡ number → ⊥

  pub giver_of : (c giver : ℕ) → entry_in old.offering.items c ≡ Some giver → Giver c giver
  giver_of c giver e =
      let x = mid.sound.offers.sound c giver (entry_there old.offering.items c giver e) in
      let w = offers_is x.task.wait c x.is in
      record { offering = record { task = x.task; there = x.there; message = w.0; waits = w.1 }; apart = (waiting_old giver x.task x.there (ap may_go w.1)).0 }

  pub was_taken : (new : Tables) (pick c giver : ℕ) (a : Arm) → TakesBy pick (standing now) c after.wait a → entry_in old.offering.items c ≡ Some giver → ((t : Task) (m : Message) → HasTask old.tasks.items giver t → t.wait ≡ W.Offers c m → TookFrom old number giver c a t m new) → SettlesTo p kb pick number after net new
  was_taken new pick c giver a by e took =
      let x = giver_of c giver e in
      let o = x.offering in
      let m = o.message in
      let g = took o.task m o.there o.waits in
      let tasks = g.tasks (made_ready after) there_old in
      let s = wake_offerer old.tasks.items old.ready.items old.offering.items old.awaiting.items old.parents.items old.unfinished.items old.fault mid.sound giver o.task o.there c m o.waits in
      let still : HasTask (slice_set old.tasks.items giver (Some (made_ready o.task))) number (made_ready after) = set_other old.tasks.items giver number (Some (made_ready o.task)) (λ q. x.apart (sym q)) ∙ there_old in
      let s' = takes (slice_set old.tasks.items giver (Some (made_ready o.task))) (put_in giver old.ready.items) (slice_set old.offering.items c None) old.awaiting.items old.parents.items old.unfinished.items old.fault s number (made_ready after) still refl a.number a.indices (Some m) in
      let given : HasTask now.tasks giver o.task = set_other net.tasks number giver (Some after) x.apart ∙ (waiting_old giver o.task o.there (ap may_go o.waits)).1 in
      let got : HasTask (slice_set now.tasks giver (Some (made_ready o.task))) number after = set_other now.tasks giver number (Some (made_ready o.task)) (λ q. x.apart (sym q)) ∙ mine p.bodies pick number net mid.before after mid.has_task in
      let after_giving : Net = record (with_task now giver (made_ready o.task)) { output = one_more net.output c m } in
      record {
        next = traced (record (with_task after_giving number (took_arm after a (Some m))) { input = one_more net.input c m }) (communication c (OfProcess giver) (OfProcess number) m);
        settles = settles (meets (inr refl) (joined (task_gives given o.waits) (gets_by pick c (standing now) m after_giving number after after.wait a got refl by)));
        holds = record {
          tasks =
              set_swap (slice_set net.tasks number (Some after)) giver number (Some (made_ready o.task)) (Some (took_arm after a (Some m))) x.apart
              ∙ ap (λ l. slice_set l giver (Some (made_ready o.task))) (as_took a (Some m))
              ∙ set_swap old.tasks.items number giver (Some (took_arm after a (Some m))) (Some (made_ready o.task)) (λ q. x.apart (sym q)) ∙ sym tasks;
          bytes = bytes_same new g.used;
          trace = traced_by new (communicated c (OfProcess giver) (OfProcess number) m) g.trace;
          sound = kept_quiet new after.wait refl (takes_quietly by) (true_as tasks g.ready g.offering (ap (λ z. z.items) g.awaiting) (ap (λ z. z.items) g.parents) (ap (λ z. z.items) g.unfinished) g.fault s');
          sized = record {
            tasks_are = ap length tasks ∙ set_length (slice_set old.tasks.items giver (Some (made_ready o.task))) number (Some (took_arm (made_ready after) a (Some m))) ∙ set_length old.tasks.items giver (Some (made_ready o.task)) ∙ mid.sized.tasks_are;
            offering_is = ap length g.offering ∙ set_length old.offering.items c None ∙ mid.sized.offering_is;
            awaiting_is = ap (λ z. length z.items) g.awaiting ∙ mid.sized.awaiting_is;
            parents_are = ap (λ z. length z.items) g.parents ∙ mid.sized.parents_are;
            unfinished_are = ap (λ z. length z.items) g.unfinished ∙ mid.sized.unfinished_are;
          };
        };
      }

  -- ---- the process waits for a message

  pub await_waits : (new : Tables) (pick c : ℕ) → after.wait ≡ W.Awaits c → byte_on c kb old.used ≡ None → entry_in old.offering.items c ≡ None → new.tasks.items ≡ slice_set old.tasks.items number (Some (ready_with (made_ready after) (W.Awaits c))) → new.used ≡ old.used → new.trace ≡ old.trace → Sound new net.noted → Sized p new → SettlesTo p kb pick number after net new
  await_waits new pick c w no_byte empty tasks used trace sound sized = stays_as new pick (W.Awaits c) w none tasks used trace (kept_quiet new (W.Awaits c) w refl sound) sized
    where
      none : Nobody pick
      none =
          record {
            offers = λ d x e. let q = sym w ∙ e in absurd cc;
            awaits = λ d e.
                let same : d ≡ c = (let q = sym e ∙ w in cc) in
                (ap (has_byte net.keyboard) same ∙ ap (λ l. has_byte l c) mid.bytes ∙ none_given c kb old.used no_byte, λ i u x h v. no_entry old.offering.items c i empty (mid.sound.offers.whole c i u (waiting_net i u h (ap may_go v)) (ap (λ z. offers_on z c) v ∙ eq-eqb d c same)));
            unforked = λ ns e. let q = sym w ∙ e in cc;
            unjoined = λ e. let q = sym w ∙ e in absurd cc;
            unchosen = λ pri arms a e f. let q = sym w ∙ e in cc;
          }

  -- ---- the process halted, or failed

  pub halts : (new : Tables) (pick : ℕ) → after.wait ≡ W.Halted → new.tasks.items ≡ slice_set old.tasks.items number (Some (ready_with (made_ready after) W.Halted)) → new.used ≡ old.used → new.trace ≡ old.trace → Sound new net.noted → Sized p new → SettlesTo p kb pick number after net new
  halts new pick w tasks used trace sound sized = stays_as new pick W.Halted w (record { offers = λ d x e. let q = sym w ∙ e in absurd cc; awaits = λ d e. let q = sym w ∙ e in absurd cc; unforked = λ ns e. let q = sym w ∙ e in cc; unjoined = λ e. let q = sym w ∙ e in absurd cc; unchosen = λ pri arms a e f. let q = sym w ∙ e in cc }) tasks used trace (kept_quiet new W.Halted w refl sound) sized

  pub fails : (new : Tables) (pick : ℕ) (x : Fault) → after.wait ≡ W.Faulted x → new.tasks.items ≡ slice_set old.tasks.items number (Some (ready_with (made_ready after) (W.Faulted x))) → new.used ≡ old.used → new.trace ≡ old.trace → Sound new (net.noted ++ x ∷ []) → Sized p new → SettlesTo p kb pick number after net new
  fails new pick x w tasks used trace sound sized = stays_as new pick (W.Faulted x) w (record { offers = λ d y e. let q = sym w ∙ e in absurd cc; awaits = λ d e. let q = sym w ∙ e in absurd cc; unforked = λ ns e. let q = sym w ∙ e in cc; unjoined = λ e. let q = sym w ∙ e in absurd cc; unchosen = λ pri arms a e f. let q = sym w ∙ e in cc }) tasks used trace (subst (λ z. Sound new (net.noted ++ noted_at z)) (sym w) sound) sized

  pub goes_on : (new : Tables) (pick : ℕ) → after.wait ≡ W.Ready → new.tasks.items ≡ old.tasks.items → new.used ≡ old.used → new.trace ≡ old.trace → Sound new net.noted → Sized p new → SettlesTo p kb pick number after net new
  goes_on new pick w tasks used trace sound sized = stays_as new pick W.Ready w (record { offers = λ d x e. let q = sym w ∙ e in absurd cc; awaits = λ d e. let q = sym w ∙ e in absurd cc; unforked = λ ns e. let q = sym w ∙ e in cc; unjoined = λ e. let q = sym w ∙ e in absurd cc; unchosen = λ pri arms a e f. let q = sym w ∙ e in cc }) (tasks ∙ mid.tasks ∙ sym (set_twice net.tasks number (Some (made_ready after)) (Some (made_ready after))) ∙ ap (λ l. slice_set l number (Some (made_ready after))) (sym mid.tasks)) used trace (kept_quiet new W.Ready w refl sound) sized
