-- After a turn: what happens at once in the network happens in the system.
use Rattle.std.proofs.Common.{◌≡◌, ◌∙◌, refl, sym, ap, subst, Bool, true, false, IsTrue, IsFalse, ℕ, ◌+◌, ◌⊎◌, inl, inr, List, [], ◌∷◌, ◌++◌, Option, Some, None, append-nil}
use Rattle.std.specs.Prelude.{slice_set, nat_eq, ◌||◌}
use Rattle.std.proofs.lemmas.Bool.{eqb-true}
use mathlib.Core.Bool.{true≢false}
use Rattle.occ_term.specs.Messages.{Fits}
use Rattle.occ_term.specs.declared.fault.Fault.{Fault}
use Rattle.occ_term.specs.declared.message.Message.{Message}
use Rattle.occ_term.specs.declared.primitive.Primitive.TheVariants.{Byte}
use Rattle.occ_term.specs.declared.protocol.Protocol.TheVariants.{Simple}
use Rattle.occ_term.specs.Frames.{is_held}
use Rattle.occ_term.specs.Processes.{Numbered}
use Rattle.occ_term.specs.Runs.{TakesPart, messages_on, MeetsAtMost, meets_none, meets_one, meets_skip}
use Rattle.occ_term.specs.declared.communication.Communication.{Communication}
use Rattle.occ_term.specs.declared.communication.End.{End}
use Rattle.occ_term.specs.declared.communication.End.TheVariants.{Process as OfProcess, Keyboard, Screen, Error}
use Rattle.occ_term.specs.System.{Process, System, system, MayGo, SystemTurn, communication, has_byte, offers as offers_of, process_sends, keyboard_sends, Receives, process_receives, screen_receives, error_receives, Meets, meets as meets_in, passes_skip}
use Rattle.occ_term.specs.TermTyping.{Declared}
use Rattle.occ_term.specs.Values.{Store}
use Rattle.occ_machine.specs.SameStop.{FitsProtocol, joined_with}
use Rattle.occ_machine.specs.Compiled.{Program}
use Rattle.occ_machine.specs.declared.task.Arm.{Arm}
use Rattle.occ_machine.specs.declared.task.Task.{Task}
use Rattle.occ_machine.specs.declared.task.Wait.{Wait}
use Rattle.occ_machine.specs.declared.task.Wait.TheVariants as W
use Rattle.occ_net_replay.specs.Following.{AreBytes}
use Rattle.occ_net_replay.specs.Replay.{Net, Tasks, HasTask, may_go, made_ready, has_taken, took_arm, byte_message, took_turn, with_task, standing, arm_chosen, task_gives, keyboard_gives, Gets, task_gets, arm_gets, screen_gets, error_gets, PassesOn, joined, traced, one_more, noted_at, is_done, AreDone, merged, Happens, meets, skips, forks, joins, Settled, settles, stays}
use Rattle.occ_net_replay.specs.Moments.{Quiet}
use Rattle.occ_net_replay.proofs.Faults.{uncalm_no_fault, part_waits}
use Rattle.occ_net_replay.proofs.Holding.{Stands, branches_placed}
use Rattle.occ_net_replay.proofs.Meeting.{gives_on, offered_fits, gets_on, arm_gets_by, arm_skips_by, chosen_same, offers_same}
use Rattle.occ_net_replay.proofs.Quiet.{is_calm, still_not, done_at, done_map, done_is, done_has, done_still, quiet_again, quiet_stays}
use Rattle.occ_net_replay.proofs.Runs.{listed, one_more_at, FitAll, byte_fits}
use Rattle.occ_net_replay.proofs.States.{State, Live, live_at}
use Rattle.occ_net_replay.proofs.Joining.{joins_as, has_joined}
use Rattle.occ_net_replay.proofs.Parents.{HasBranch, parent_once}
use Rattle.occ_net_replay.proofs.Placed.{size}
use Rattle.occ_net_replay.proofs.TakingTurns.{done_wait}
use Rattle.occ_net_replay.proofs.Still.{meets_nobody}
use Rattle.occ_net_replay.proofs.Tables.{set_same, set_other, set_back, task_once, or_else}

-- a branch of those that are all done
pub done_among : (tasks : Tasks) (ns : List ℕ) → AreDone tasks ns → (i : ℕ) → IsTrue (is_held ns i) → IsTrue (done_at tasks i)
done_among tasks [] g i h = absurd (true≢false (sym h))
done_among tasks (x ∷ ns) g i h = by (or_else (nat_eq x i) (is_held ns i) h) (done_among tasks ns g.1 i)
  where
    by : IsTrue (nat_eq x i) ⊎ IsTrue (is_held ns i) → (IsTrue (is_held ns i) → IsTrue (done_at tasks i)) → IsTrue (done_at tasks i)
    by (inl e) r = subst (λ z. IsTrue (done_at tasks z)) (eqb-true x i e) g.0
    by (inr e) r = r e

-- ---- where the process that took the turn may go on, and no task but those that may was changed

module _ (old new : Net) (n : ℕ) (quiet : Quiet old) (tasks : (i : ℕ) (t : Task) → HasTask new.tasks i t → IsTrue (may_go t.wait) ⊎ ((i ≡ n → ⊥) × HasTask old.tasks i t)) (bytes : (c : ℕ) → IsTrue (has_byte new.keyboard c) → IsTrue (has_byte old.keyboard c)) where
  was : (i : ℕ) (t : Task) → HasTask new.tasks i t → IsFalse (may_go t.wait) → (i ≡ n → ⊥) × HasTask old.tasks i t
  was i t h f = by (tasks i t h)
    where
      by : IsTrue (may_go t.wait) ⊎ ((i ≡ n → ⊥) × HasTask old.tasks i t) → (i ≡ n → ⊥) × HasTask old.tasks i t
      by (inl g) = absurd (true≢false (sym g ∙ f))
      by (inr x) = x

  mine_calm : (t : Task) → HasTask new.tasks n t → IsTrue (is_calm t.wait)
  mine_calm t h = by (tasks n t h)
    where
      calm : (w : Wait) → IsTrue (may_go w) → IsTrue (is_calm w)
      calm W.Ready g = refl
      calm (W.Took arm is m) g = refl
      calm (W.Offers c m) g = absurd (true≢false (sym g))
      calm (W.Awaits c) g = absurd (true≢false (sym g))
      calm (W.Chooses pri arms) g = absurd (true≢false (sym g))
      calm (W.Joins ns) g = refl
      calm W.Halted g = refl
      calm W.Done g = refl
      calm (W.Faulted e) g = refl

      by : IsTrue (may_go t.wait) ⊎ ((n ≡ n → ⊥) × HasTask old.tasks n t) → IsTrue (is_calm t.wait)
      by (inl g) = calm t.wait g
      by (inr x) = absurd (x.0 refl)

  done_before : (ns : List ℕ) → AreDone new.tasks ns → AreDone old.tasks ns
  done_before ns h = done_map old.tasks new.tasks ns (λ i m e. let x = done_is new.tasks i e in done_has old.tasks i x.0 (was i x.0 x.1 (done_still x.0.wait x.2)).1 x.2) h

  pub quiet_ready : Quiet new
  quiet_ready =
      quiet_again old new n quiet (λ i t h f k. (was i t h f).1) bytes mine_calm
      (λ i t ns h w g. quiet.unjoined i t ns (was i t h (still_not w refl)).1 w (done_before ns g))

-- ---- the steps of the replay

module _ (d : Declared) (p : Program) (procs : List Numbered) (protocol : d.protocols 0 ≡ Some (Simple [] Byte)) (quantum : ℕ) where
  -- the network and the system hold the same
  pub record Follows (k : ℕ) (net : Net) (sys : System) : Type 0 where
    pub proc : Process
    pub store : Store
    pub noted : List Fault
    pub is : sys ≡ system net.keyboard proc store noted
    pub state : State d p procs k net.tasks proc store
    pub quiet : Quiet net
    pub bytes : AreBytes net.keyboard
    pub faults : noted ≡ net.noted

  -- the lists of all channels, after what was met
  abbrev pub Lists : (ℕ → List Message) → (ℕ → List Message) → Option Communication → Type 0
  Lists old new met = (c : ℕ) → new c ≡ old c ++ messages_on c (listed met)

  pub record Next (k n : ℕ) (net next : Net) (sys : System) : Type 0 where
    pub met : Option Communication
    pub mid : System
    pub after : System
    pub turn : SystemTurn p.errors quantum n sys mid
    pub meets_at : MeetsAtMost p.errors n mid met after
    pub follows : Follows k next after
    pub trace : next.trace ≡ net.trace ++ listed met
    pub turns : next.turns ≡ net.turns ++ n ∷ []
    pub fits : FitAll d.protocols (listed met)
    pub output : Lists net.output next.output met
    pub input : Lists net.input next.input met

  -- what the system has come to, and the network with it
  pub record Comes (k n : ℕ) (net next : Net) (met : Option Communication) (after : System) : Type 0 where
    pub follows : Follows k next after
    pub trace : next.trace ≡ net.trace ++ listed met
    pub turns : next.turns ≡ net.turns ++ n ∷ []
    pub fits : FitAll d.protocols (listed met)
    pub output : Lists net.output next.output met
    pub input : Lists net.input next.input met

  -- by some pick the network comes to the same
  pub record Happened (k n : ℕ) (net now : Net) (met : Option Communication) (after : System) : Type 0 where
    pub pick : ℕ
    pub next : Net
    pub settled : Settled p.bodies n pick now next
    pub comes : Comes k n net next met after

  module _ (k n pick : ℕ) (net : Net) (sys : System) (before after : Task) (proc : Process) (s : Store) (noted : List Fault) (there : HasTask net.tasks n before) (quiet : Quiet net) (may : MayGo p.errors net.noted) (bytes : AreBytes net.keyboard) (turn : SystemTurn p.errors quantum n sys (system net.keyboard proc s noted)) (noted_is : noted ≡ net.noted ++ noted_at after.wait) (st : State d p procs k (slice_set net.tasks n (Some after)) proc s) where
    abbrev now : Net
    now = took_turn net n after

    abbrev mid : System
    mid = system net.keyboard proc s noted

    pub mine : HasTask now.tasks n after
    mine = set_same net.tasks n (Some before) (Some after) there

    pub other : (i : ℕ) (t : Task) → HasTask now.tasks i t → (i ≡ n → ⊥) → HasTask net.tasks i t
    other i t h e = sym (set_other net.tasks n i (Some after) e) ∙ h

    pub standing_mid : (c : ℕ) → standing now c ≡ offers_of mid c
    standing_mid c = ap (λ b. has_byte net.keyboard c || b) (offers_same d p procs k now.tasks proc s st c)

    -- where the turn ended with no fault, the system may go on
    pub may_again : noted_at after.wait ≡ [] → MayGo p.errors noted
    may_again e = subst (MayGo p.errors) (sym (noted_is ∙ ap (λ x. net.noted ++ x) e ∙ append-nil net.noted)) may

    -- ---- nothing happens

    pub next_stays : ((b : Net) → Happens p.bodies n pick now b → ⊥) → Next k n net now sys
    next_stays none =
        let q = quiet_stays p.bodies net n pick before after quiet there none in
        record {
          met = None;
          mid = mid;
          after = mid;
          turn = turn;
          meets_at = meets_none (λ g m. meets_nobody d p procs k now proc s noted st q m);
          follows = record {
            proc = proc;
            store = s;
            noted = noted;
            is = refl;
            state = st;
            quiet = q;
            bytes = bytes;
            faults = noted_is;
          };
          trace = sym (append-nil net.trace);
          turns = refl;
          fits = tt;
          output = λ c. sym (append-nil (net.output c));
          input = λ c. sym (append-nil (net.input c));
        }

    -- ---- a communication

    next_met : (c : ℕ) (x y : End) (m : Message) (next : Net) (proc' : Process) → next.trace ≡ net.trace ++ communication c x y m ∷ [] → next.turns ≡ net.turns ++ n ∷ [] → next.output ≡ one_more net.output c m → next.input ≡ one_more net.input c m → MayGo p.errors noted → TakesPart n (communication c x y m) → Meets mid (communication c x y m) (system next.keyboard proc' s noted) → State d p procs k next.tasks proc' s → Quiet next → next.noted ≡ net.noted ++ noted_at after.wait → AreBytes next.keyboard → FitsProtocol (d.protocols c) m → Next k n net next sys
    next_met c x y m next proc' trace turns output input again part meets_mid state q kept bs fits =
        record {
          met = Some (communication c x y m);
          mid = mid;
          after = system next.keyboard proc' s noted;
          turn = turn;
          meets_at = meets_one again part meets_mid;
          follows = record { proc = proc'; store = s; noted = noted; is = refl; state = state; quiet = q; bytes = bs; faults = noted_is ∙ sym kept };
          trace = trace;
          turns = turns;
          fits = (fits, tt);
          output = λ i. ap (λ f. f i) output ∙ one_more_at net.output c m x y i;
          input = λ i. ap (λ f. f i) input ∙ one_more_at net.input c m x y i;
        }

    -- tasks of which two, or one, were made to go on
    pub two_ready : (z w : ℕ) (u v a b : Task) → HasTask now.tasks z u → IsTrue (may_go a.wait) → HasTask (slice_set now.tasks z (Some a)) w v → IsTrue (may_go b.wait) → (z ≡ n) ⊎ (w ≡ n) → (i : ℕ) (t : Task) → HasTask (slice_set (slice_set now.tasks z (Some a)) w (Some b)) i t → IsTrue (may_go t.wait) ⊎ ((i ≡ n → ⊥) × HasTask net.tasks i t)
    two_ready z w u v a b hz ga hw gb part i t h = by (set_back (slice_set now.tasks z (Some a)) w i hw h)
      where
        apart : (z ≡ n) ⊎ (w ≡ n) → (i ≡ z → ⊥) → (i ≡ w → ⊥) → i ≡ n → ⊥
        apart (inl e) f g q = f (q ∙ sym e)
        apart (inr e) f g q = g (q ∙ sym e)

        first : (i ≡ w → ⊥) → ((i ≡ z) × (t ≡ a)) ⊎ ((i ≡ z → ⊥) × HasTask now.tasks i t) → IsTrue (may_go t.wait) ⊎ ((i ≡ n → ⊥) × HasTask net.tasks i t)
        first g (inl e) = inl (subst (λ x. IsTrue (may_go x.wait)) (sym e.1) ga)
        first g (inr e) = inr (apart part e.0 g, other i t e.1 (apart part e.0 g))

        by : ((i ≡ w) × (t ≡ b)) ⊎ ((i ≡ w → ⊥) × HasTask (slice_set now.tasks z (Some a)) i t) → IsTrue (may_go t.wait) ⊎ ((i ≡ n → ⊥) × HasTask net.tasks i t)
        by (inl e) = inl (subst (λ x. IsTrue (may_go x.wait)) (sym e.1) gb)
        by (inr e) = first e.0 (set_back now.tasks z i hz e.1)

    pub one_ready : (z : ℕ) (u a : Task) → HasTask now.tasks z u → IsTrue (may_go a.wait) → z ≡ n → (i : ℕ) (t : Task) → HasTask (slice_set now.tasks z (Some a)) i t → IsTrue (may_go t.wait) ⊎ ((i ≡ n → ⊥) × HasTask net.tasks i t)
    one_ready z u a hz ga part i t h = by (set_back now.tasks z i hz h)
      where
        by : ((i ≡ z) × (t ≡ a)) ⊎ ((i ≡ z → ⊥) × HasTask now.tasks i t) → IsTrue (may_go t.wait) ⊎ ((i ≡ n → ⊥) × HasTask net.tasks i t)
        by (inl e) = inl (subst (λ x. IsTrue (may_go x.wait)) (sym e.1) ga)
        by (inr e) = inr ((λ q. e.0 (q ∙ sym part)), other i t e.1 (λ q. e.0 (q ∙ sym part)))

    pub number_is : {i j : ℕ} → OfProcess i ≡ OfProcess j → i ≡ j
    number_is e = cc

    pub sides : (c z w : ℕ) (m : Message) → TakesPart n (communication c (OfProcess z) (OfProcess w) m) → (z ≡ n) ⊎ (w ≡ n)
    sides c z w m (inl e) = inl (number_is e)
    sides c z w m (inr e) = inr (number_is e)

    pub no_bytes_more : (c : ℕ) → IsTrue (has_byte net.keyboard c) → IsTrue (has_byte net.keyboard c)
    no_bytes_more c h = h

    pub fewer_bytes : (b : ℕ) (kb : List ℕ) → net.keyboard ≡ b ∷ kb → (c : ℕ) → IsTrue (has_byte kb c) → IsTrue (has_byte net.keyboard c)
    fewer_bytes b kb e c h = subst (λ x. IsTrue (has_byte x c)) (sym e) (more kb h)
      where
        more : (kb : List ℕ) → IsTrue (has_byte kb c) → IsTrue (has_byte (b ∷ kb) c)
        more [] h = absurd (true≢false (sym h))
        more (x ∷ kb) h = h

    pub byte_fit : (c b : ℕ) (kb : List ℕ) (m : Message) → net.keyboard ≡ b ∷ kb → c ≡ 0 → m ≡ byte_message b → FitsProtocol (d.protocols c) m
    byte_fit c b kb m e z q = subst (λ i. FitsProtocol (d.protocols i) m) (sym z) (subst (λ o. FitsProtocol o m) (sym protocol) (subst (Fits (Simple [] Byte)) (sym q) (byte_fits b (subst AreBytes e bytes).0)))

    pub getter : (c : ℕ) (m : Message) (w : ℕ) → TakesPart n (communication c Keyboard (OfProcess w) m) → w ≡ n
    getter c m w (inl e) = absurd cc
    getter c m w (inr e) = number_is e

    pub by_byte : (c b : ℕ) (kb : List ℕ) (m : Message) → net.keyboard ≡ b ∷ kb → c ≡ 0 → m ≡ byte_message b → (y : End) (proc' : Process) → Receives (offers_of mid) c m y (system kb proc s noted) (system kb proc' s noted) → Meets mid (communication c Keyboard y m) (system kb proc' s noted)
    by_byte c b kb m e z q y proc' r =
        subst (λ x. Receives (offers_of (system x proc s noted)) c m y (system kb proc s noted) (system kb proc' s noted) → Meets (system x proc s noted) (communication c Keyboard y m) (system kb proc' s noted)) (sym e) (λ g. meets_in (keyboard_sends z q) g) r

    module _ (again : MayGo p.errors noted) where
      -- a task gives
      given_to : (z c : ℕ) (u : Task) (m : Message) → (hz : HasTask now.tasks z u) → (wz : u.wait ≡ W.Offers c m) → (y : End) (b e : Net) → b ≡ record now { tasks = slice_set now.tasks z (Some (made_ready u)); output = one_more net.output c m } → Gets pick (standing now) c m y b e → TakesPart n (communication c (OfProcess z) y m) → Next k n net (traced e (communication c (OfProcess z) y m)) sys
      given_to z c u m hz wz y b e is (task_gets {n = w} {t = v} hw ww) part =
          let one = gives_on d p procs k now.tasks proc s st z c u m hz wz in
          let fits = offered_fits d p procs k now.tasks proc s st z c u m hz wz in
          let there' : HasTask (slice_set now.tasks z (Some (made_ready u))) w v = subst (λ x. HasTask x.tasks w v) is hw in
          let two = gets_on d p procs k (slice_set now.tasks z (Some (made_ready u))) one.proc' s one.state w c v m (offers_of mid) there' ww fits in
          let ready = two_ready z w u v (made_ready u) (has_taken v m) hz refl there' refl (sides c z w m part) in
          let goal : Net → Net = λ x. traced (record x { tasks = slice_set x.tasks w (Some (has_taken v m)); input = one_more x.input c m }) (communication c (OfProcess z) (OfProcess w) m) in
          let new : Net = goal (record now { tasks = slice_set now.tasks z (Some (made_ready u)); output = one_more net.output c m }) in
          subst (λ x. Next k n net (goal x) sys) (sym is)
          (next_met c (OfProcess z) (OfProcess w) m new two.proc' refl refl refl refl again part
          (meets_in (process_sends one.changes) (process_receives two.changes)) two.state
          (quiet_ready net new n quiet ready no_bytes_more) refl bytes fits)
      given_to z c u m hz wz y b e is (arm_gets {n = w} {t = v} {pri = pri} {arms = arms} {a = arm} hw ww q f) part =
          let one = gives_on d p procs k now.tasks proc s st z c u m hz wz in
          let fits = offered_fits d p procs k now.tasks proc s st z c u m hz wz in
          let there' : HasTask (slice_set now.tasks z (Some (made_ready u))) w v = subst (λ x. HasTask x.tasks w v) is hw in
          let chosen : arm_chosen pri pick (offers_of mid) arms ≡ Some arm = sym (chosen_same (λ a. a.chan) (standing now) (offers_of mid) standing_mid pri pick arms) ∙ q in
          let two = arm_gets_by d p procs k (slice_set now.tasks z (Some (made_ready u))) one.proc' s one.state w v pri pick arms arm (offers_of mid) there' ww chosen c m f fits in
          let ready = two_ready z w u v (made_ready u) (took_arm v arm (Some m)) hz refl there' refl (sides c z w m part) in
          let goal : Net → Net = λ x. traced (record x { tasks = slice_set x.tasks w (Some (took_arm v arm (Some m))); input = one_more x.input c m }) (communication c (OfProcess z) (OfProcess w) m) in
          let new : Net = goal (record now { tasks = slice_set now.tasks z (Some (made_ready u)); output = one_more net.output c m }) in
          subst (λ x. Next k n net (goal x) sys) (sym is)
          (next_met c (OfProcess z) (OfProcess w) m new two.proc' refl refl refl refl again part
          (meets_in (process_sends one.changes) (process_receives two.changes)) two.state
          (quiet_ready net new n quiet ready no_bytes_more) refl bytes fits)
      given_to z c u m hz wz y b e is (screen_gets g) part =
          let one = gives_on d p procs k now.tasks proc s st z c u m hz wz in
          let fits = offered_fits d p procs k now.tasks proc s st z c u m hz wz in
          let ready = one_ready z u (made_ready u) hz refl (giver part) in
          let goal : Net → Net = λ x. traced (record x { input = one_more x.input c m }) (communication c (OfProcess z) Screen m) in
          let new : Net = goal (record now { tasks = slice_set now.tasks z (Some (made_ready u)); output = one_more net.output c m }) in
          subst (λ x. Next k n net (goal x) sys) (sym is)
          (next_met c (OfProcess z) Screen m new one.proc' refl refl refl refl again part
          (meets_in (process_sends one.changes) (screen_receives g)) one.state
          (quiet_ready net new n quiet ready no_bytes_more) refl bytes fits)
        where
          giver : TakesPart n (communication c (OfProcess z) Screen m) → z ≡ n
          giver (inl e) = number_is e
          giver (inr e) = absurd cc
      given_to z c u m hz wz y b e is (error_gets g) part =
          let one = gives_on d p procs k now.tasks proc s st z c u m hz wz in
          let fits = offered_fits d p procs k now.tasks proc s st z c u m hz wz in
          let ready = one_ready z u (made_ready u) hz refl (giver part) in
          let goal : Net → Net = λ x. traced (record x { input = one_more x.input c m }) (communication c (OfProcess z) Error m) in
          let new : Net = goal (record now { tasks = slice_set now.tasks z (Some (made_ready u)); output = one_more net.output c m }) in
          subst (λ x. Next k n net (goal x) sys) (sym is)
          (next_met c (OfProcess z) Error m new one.proc' refl refl refl refl again part
          (meets_in (process_sends one.changes) (error_receives g)) one.state
          (quiet_ready net new n quiet ready no_bytes_more) refl bytes fits)
        where
          giver : TakesPart n (communication c (OfProcess z) Error m) → z ≡ n
          giver (inl e) = number_is e
          giver (inr e) = absurd cc

      -- the keyboard gives
      byte_to : (c b : ℕ) (kb : List ℕ) (m : Message) → (e : net.keyboard ≡ b ∷ kb) → (z : c ≡ 0) → (q : m ≡ byte_message b) → (y : End) (a next : Net) → a ≡ record now { keyboard = kb; output = one_more net.output c m } → Gets pick (standing now) c m y a next → TakesPart n (communication c Keyboard y m) → Next k n net (traced next (communication c Keyboard y m)) sys
      byte_to c b kb m e z q y a next is (task_gets {n = w} {t = v} hw ww) part =
          let fits = byte_fit c b kb m e z q in
          let there' : HasTask now.tasks w v = subst (λ x. HasTask x.tasks w v) is hw in
          let two = gets_on d p procs k now.tasks proc s st w c v m (offers_of mid) there' ww fits in
          let ready = one_ready w v (has_taken v m) there' refl (getter c m w part) in
          let goal : Net → Net = λ x. traced (record x { tasks = slice_set x.tasks w (Some (has_taken v m)); input = one_more x.input c m }) (communication c Keyboard (OfProcess w) m) in
          let new : Net = goal (record now { keyboard = kb; output = one_more net.output c m }) in
          subst (λ x. Next k n net (goal x) sys) (sym is)
          (next_met c Keyboard (OfProcess w) m new two.proc' refl refl refl refl again part
          (by_byte c b kb m e z q (OfProcess w) two.proc' (process_receives two.changes)) two.state
          (quiet_ready net new n quiet ready (fewer_bytes b kb e)) refl (subst AreBytes e bytes).1 fits)
      byte_to c b kb m e z q y a next is (arm_gets {n = w} {t = v} {pri = pri} {arms = arms} {a = arm} hw ww g f) part =
          let fits = byte_fit c b kb m e z q in
          let there' : HasTask now.tasks w v = subst (λ x. HasTask x.tasks w v) is hw in
          let chosen : arm_chosen pri pick (offers_of mid) arms ≡ Some arm = sym (chosen_same (λ a. a.chan) (standing now) (offers_of mid) standing_mid pri pick arms) ∙ g in
          let two = arm_gets_by d p procs k now.tasks proc s st w v pri pick arms arm (offers_of mid) there' ww chosen c m f fits in
          let ready = one_ready w v (took_arm v arm (Some m)) there' refl (getter c m w part) in
          let goal : Net → Net = λ x. traced (record x { tasks = slice_set x.tasks w (Some (took_arm v arm (Some m))); input = one_more x.input c m }) (communication c Keyboard (OfProcess w) m) in
          let new : Net = goal (record now { keyboard = kb; output = one_more net.output c m }) in
          subst (λ x. Next k n net (goal x) sys) (sym is)
          (next_met c Keyboard (OfProcess w) m new two.proc' refl refl refl refl again part
          (by_byte c b kb m e z q (OfProcess w) two.proc' (process_receives two.changes)) two.state
          (quiet_ready net new n quiet ready (fewer_bytes b kb e)) refl (subst AreBytes e bytes).1 fits)
      byte_to c b kb m e z q y a next is (screen_gets g) part = let x = sym z ∙ g in absurd cc
      byte_to c b kb m e z q y a next is (error_gets g) part = let x = sym z ∙ g in absurd cc

    -- ---- the choice of SKIP

    next_skips : (t : Task) (pri : Bool) (arms : List Arm) (arm : Arm) → HasTask now.tasks n t → t.wait ≡ W.Chooses pri arms → arm_chosen pri pick (standing now) arms ≡ Some arm → arm.chan ≡ None → Next k n net (with_task now n (took_arm t arm None)) sys
    next_skips t pri arms arm h w q f =
        let same : after ≡ t = task_once now.tasks n mine h in
        let again : MayGo p.errors noted = may_again (ap (λ x. noted_at x.wait) same ∙ ap noted_at w) in
        let chosen : arm_chosen pri pick (offers_of mid) arms ≡ Some arm = sym (chosen_same (λ a. a.chan) (standing now) (offers_of mid) standing_mid pri pick arms) ∙ q in
        let one = arm_skips_by d p procs k now.tasks proc s st n t pri pick arms arm (offers_of mid) h w chosen f in
        let new : Net = with_task now n (took_arm t arm None) in
        let ready = one_ready n t (took_arm t arm None) h refl refl in
        record {
          met = None;
          mid = mid;
          after = system net.keyboard one.proc' s noted;
          turn = turn;
          meets_at = meets_skip again (passes_skip one.changes);
          follows = record { proc = one.proc'; store = s; noted = noted; is = refl; state = one.state; quiet = quiet_ready net new n quiet ready no_bytes_more; bytes = bytes; faults = noted_is };
          trace = sym (append-nil net.trace);
          turns = refl;
          fits = tt;
          output = λ c. sym (append-nil (net.output c));
          input = λ c. sym (append-nil (net.input c));
        }

    -- ---- a join

    branch_of : (i : ℕ) (t : Task) (ns : List ℕ) → HasTask now.tasks i t → t.wait ≡ W.Joins ns → IsTrue (is_held ns n) → (l : Live d p procs k now.tasks proc s i t) × HasBranch d p procs k s now.tasks n i l.branches
    branch_of i t ns h w m =
        let l = live_at d p procs k now.tasks proc s i t st h (λ e. let r = sym w ∙ e in cc) in
        let o = l.mine in
        let a = joins_as d p procs k o.belongs.body t l.own l.branches o.but ns (subst (λ u. Stands d p procs k o.belongs.body u l.own l.branches o.but) l.same o.stands) w in
        (l, record { term = o.belongs.term; entry = o.belongs.entry; branches = a.branches; same = a.same; placed = branches_placed d p procs (i + 1) (i + 1 + size o.belongs.term) a.own_is o.placed; among = ap (λ x. is_held x n) a.numbers ∙ m })

    one_parent : (i j : ℕ) (t u : Task) (ns ms : List ℕ) → HasTask now.tasks i t → t.wait ≡ W.Joins ns → IsTrue (is_held ns n) → HasTask now.tasks j u → u.wait ≡ W.Joins ms → IsTrue (is_held ms n) → i ≡ j
    one_parent i j t u ns ms hi wi mi hj wj mj =
        let x = branch_of i t ns hi wi mi in
        let y = branch_of j u ms hj wj mj in
        parent_once d p procs k s now.tasks n i j x.0.at y.0.at st.holds x.1 y.1

    module _ (m : ℕ) (t : Task) (ns : List ℕ) (h : HasTask now.tasks m t) (w : t.wait ≡ W.Joins ns) (among : IsTrue (is_held ns n)) (done : AreDone now.tasks ns) where
      abbrev with_join : Task
      with_join = joined_with t (merged p.bodies now.tasks ns t.frame)

      abbrev pub new : Net
      new = with_task now m with_join

      after_done : IsTrue (is_done after.wait)
      after_done = let x = done_is now.tasks n (done_among now.tasks ns done n among) in let same : after ≡ x.0 = task_once now.tasks n mine x.1 in subst (λ z. IsTrue (is_done z.wait)) (sym same) x.2

      apart : n ≡ m → ⊥
      apart e = let same : after ≡ t = task_once now.tasks n mine (subst (λ z. HasTask now.tasks z t) (sym e) h) in let q : W.Done ≡ W.Joins ns = sym (done_wait after.wait after_done) ∙ ap (λ z. z.wait) same ∙ w in absurd cc

      -- what may not go on was there
      still_there : (i : ℕ) (u : Task) → HasTask new.tasks i u → IsFalse (may_go u.wait) → HasTask now.tasks i u × (i ≡ m → ⊥)
      still_there i u g f = by (set_back now.tasks m i h g)
        where
          by : ((i ≡ m) × (u ≡ with_join)) ⊎ ((i ≡ m → ⊥) × HasTask now.tasks i u) → HasTask now.tasks i u × (i ≡ m → ⊥)
          by (inl e) = absurd (true≢false (sym (ap (λ z. may_go z.wait) e.1) ∙ f))
          by (inr e) = (e.1, e.0)

      mine_after : (u : Task) → HasTask new.tasks n u → u ≡ after
      mine_after u g = task_once now.tasks n (sym (set_other now.tasks m n (Some with_join) apart) ∙ g) mine

      join_unjoined : (i : ℕ) (u : Task) (ms : List ℕ) → HasTask new.tasks i u → u.wait ≡ W.Joins ms → AreDone new.tasks ms → ⊥
      join_unjoined i u ms g v all = by (is_held ms n) refl
        where
          there' : HasTask now.tasks i u × (i ≡ m → ⊥)
          there' = still_there i u g (still_not v refl)

          not_mine : i ≡ n → ⊥
          not_mine e = let same : u ≡ after = mine_after u (subst (λ z. HasTask new.tasks z u) e g) in let q : W.Joins ms ≡ W.Done = sym v ∙ ap (λ z. z.wait) same ∙ done_wait after.wait after_done in absurd cc

          before_done : is_held ms n ≡ false → (j : ℕ) → IsTrue (is_held ms j) → IsTrue (done_at new.tasks j) → IsTrue (done_at net.tasks j)
          before_done f j a e =
              let x = done_is new.tasks j e in
              let y = still_there j x.0 x.1 (done_still x.0.wait x.2) in
              done_has net.tasks j x.0 (other j x.0 y.0 (λ q. true≢false (sym a ∙ ap (is_held ms) q ∙ f))) x.2

          by : (b : Bool) → is_held ms n ≡ b → ⊥
          by true f = there'.1 (one_parent i m u t ms ns there'.0 v f h w among)
          by false f = quiet.unjoined i u ms (other i u there'.0 not_mine) v (done_map net.tasks new.tasks ms (before_done f) all)

      pub join_quiet : Quiet new
      join_quiet =
          quiet_again net new n quiet (λ i u g f e. other i u (still_there i u g f).0 e) no_bytes_more
          (λ u g. ap (λ z. is_calm z.wait) (mine_after u g) ∙ ap is_calm (done_wait after.wait after_done)) join_unjoined

      pub join_state : State d p procs k new.tasks proc s
      join_state = has_joined d p procs k now.tasks proc s st m t ns h w done

      next_joined : Next k n net new sys
      next_joined =
          record {
            met = None;
            mid = mid;
            after = mid;
            turn = turn;
            meets_at = meets_none (λ g x. meets_nobody d p procs k new proc s noted join_state join_quiet x);
            follows = record { proc = proc; store = s; noted = noted; is = refl; state = join_state; quiet = join_quiet; bytes = bytes; faults = noted_is };
            trace = sym (append-nil net.trace);
            turns = refl;
            fits = tt;
            output = λ c. sym (append-nil (net.output c));
            input = λ c. sym (append-nil (net.input c));
          }

    -- ---- what happens

    joined_next : {x : Communication} {next : Net} → PassesOn pick now x next → TakesPart n x → MayGo p.errors noted → Next k n net next sys
    joined_next (joined {c = c} {m = m} {y = y} {b = b} {d = e} (task_gives {n = z} {t = u} hz wz) g) part again = given_to again z c u m hz wz y b e refl g part
    joined_next (joined {c = c} {m = m} {y = y} {b = a} {d = e} (keyboard_gives {b = b} {kb = kb} q z r) g) part again = byte_to again c b kb m q z r y a e refl g part

    pub settle_next : {next : Net} → Settled p.bodies n pick now next → ((ns : List ℕ) → after.wait ≡ W.Joins ns → ⊥) → Next k n net next sys
    settle_next (stays none) no_fork = next_stays none
    settle_next (settles (meets part j)) no_fork = joined_next j part (may_again (uncalm_no_fault after.wait (part_waits now n after mine j part)))
    settle_next (settles (skips {t = t} {pri = pri} {arms = arms} {arm = arm} h w q f)) no_fork = next_skips t pri arms arm h w q f
    settle_next (settles (forks {t = t} {ns = ns} h w)) no_fork = let same : after ≡ t = task_once now.tasks n mine h in absurd (no_fork ns (ap (λ z. z.wait) same ∙ w))
    settle_next (settles (joins m {t = t} {ns = ns} h w among done)) no_fork = next_joined m t ns h w among done
