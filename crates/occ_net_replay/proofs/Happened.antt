-- After a turn: what happens at once in the system happens in the network, by some pick.
use Rattle.std.proofs.Common.{◌≡◌, ◌∙◌, refl, sym, ap, subst, Bool, IsTrue, ℕ, ◌+◌, ◌⊎◌, inl, inr, List, [], ◌∷◌, ◌++◌, Option, Some, None, append-nil}
use Rattle.std.specs.Prelude.{slice_set}
use Rattle.occ_term.specs.declared.fault.Fault.{Fault}
use Rattle.occ_term.specs.declared.message.Message.{Message}
use Rattle.occ_term.specs.declared.primitive.Primitive.TheVariants.{Byte}
use Rattle.occ_term.specs.declared.protocol.Protocol.TheVariants.{Simple}
use Rattle.occ_term.specs.Processes.{Numbered}
use Rattle.occ_term.specs.Runs.{TakesPart, Meeting, by_message, by_skip, MeetsAtMost, meets_none, meets_one, meets_skip}
use Rattle.occ_term.specs.declared.communication.Communication.{Communication}
use Rattle.occ_term.specs.declared.communication.End.{End}
use Rattle.occ_term.specs.declared.communication.End.TheVariants.{Process as OfProcess, Keyboard, Screen, Error}
use Rattle.occ_term.specs.System.{Process, System, system, MayGo, SystemTurn, communication, has_byte, offers as offers_of, ChangeIn, GetsOn, PassesBy, PassesSkip, process_sends, keyboard_sends, process_receives, screen_receives, error_receives, Meets, meets as meets_in, passes_skip, Receives}
use Rattle.occ_term.specs.Frames.{is_held}
use Rattle.occ_term.specs.TermTyping.{Declared}
use Rattle.occ_term.specs.Values.{Store}
use Rattle.occ_machine.specs.SameStop.{FitsProtocol}
use Rattle.occ_machine.specs.Compiled.{Program}
use Rattle.occ_machine.specs.declared.task.Arm.{Arm}
use Rattle.occ_machine.specs.declared.task.Task.{Task}
use Rattle.occ_machine.specs.declared.task.Wait.TheVariants as W
use Rattle.occ_net_replay.specs.Following.{AreBytes}
use Rattle.occ_net_replay.specs.Replay.{Net, HasTask, may_go, made_ready, has_taken, took_arm, byte_message, took_turn, with_task, standing, arm_chosen, task_gives, keyboard_gives, Gets, task_gets, arm_gets, screen_gets, error_gets, PassesOn, joined, traced, one_more, noted_at, Happens, meets, skips, forks, joins, settles, stays, AreDone}
use Rattle.occ_net_replay.specs.Moments.{Quiet}
use Rattle.occ_net_replay.proofs.Faults.{uncalm_no_fault, part_waits}
use Rattle.occ_net_replay.proofs.Joinable.{Joinable, NoneJoins, joinable}
use Rattle.occ_net_replay.proofs.Meeting.{gives_on, offered_fits, gets_on, arm_gets_by, arm_skips_by, chosen_same}
use Rattle.occ_net_replay.proofs.Quiet.{quiet_stays}
use Rattle.occ_net_replay.proofs.Runs.{one_more_at}
use Rattle.occ_net_replay.proofs.Sending.{Gave, gave, Got, got_input, got_arm, got, Skipped, skipped}
use Rattle.occ_net_replay.proofs.States.{State}
use Rattle.occ_net_replay.proofs.Tables.{task_once}
use Rattle.occ_net_replay.proofs.Settling as settling
use Rattle.occ_net_replay.proofs.Settling.{quiet_ready}

module _ (d : Declared) (p : Program) (procs : List Numbered) (protocol : d.protocols 0 ≡ Some (Simple [] Byte)) (quantum : ℕ) where
  abbrev Comes : (k n : ℕ) (net next : Net) → Option Communication → System → Type 0
  Comes k n net next met after = settling.Comes d p procs protocol quantum k n net next met after

  abbrev Happened : (k n : ℕ) (net now : Net) → Option Communication → System → Type 0
  Happened k n net now met after = settling.Happened d p procs protocol quantum k n net now met after

  module _ (k n pick : ℕ) (net : Net) (sys : System) (before after : Task) (proc : Process) (s : Store) (noted : List Fault) (there : HasTask net.tasks n before) (quiet : Quiet net) (may : MayGo p.errors net.noted) (bytes : AreBytes net.keyboard) (turn : SystemTurn p.errors quantum n sys (system net.keyboard proc s noted)) (noted_is : noted ≡ net.noted ++ noted_at after.wait) (st : State d p procs k (slice_set net.tasks n (Some after)) proc s) where
    abbrev now : Net
    now = took_turn net n after

    abbrev mid : System
    mid = system net.keyboard proc s noted

    mine : HasTask now.tasks n after
    mine = settling.mine d p procs protocol quantum k n pick net sys before after proc s noted there quiet may bytes turn noted_is st

    other : (i : ℕ) (t : Task) → HasTask now.tasks i t → (i ≡ n → ⊥) → HasTask net.tasks i t
    other = settling.other d p procs protocol quantum k n pick net sys before after proc s noted there quiet may bytes turn noted_is st

    standing_mid : (c : ℕ) → standing now c ≡ offers_of mid c
    standing_mid = settling.standing_mid d p procs protocol quantum k n pick net sys before after proc s noted there quiet may bytes turn noted_is st

    may_again : noted_at after.wait ≡ [] → MayGo p.errors noted
    may_again = settling.may_again d p procs protocol quantum k n pick net sys before after proc s noted there quiet may bytes turn noted_is st

    two_ready : (z w : ℕ) (u v a b : Task) → HasTask now.tasks z u → IsTrue (may_go a.wait) → HasTask (slice_set now.tasks z (Some a)) w v → IsTrue (may_go b.wait) → (z ≡ n) ⊎ (w ≡ n) → (i : ℕ) (t : Task) → HasTask (slice_set (slice_set now.tasks z (Some a)) w (Some b)) i t → IsTrue (may_go t.wait) ⊎ ((i ≡ n → ⊥) × HasTask net.tasks i t)
    two_ready = settling.two_ready d p procs protocol quantum k n pick net sys before after proc s noted there quiet may bytes turn noted_is st

    one_ready : (z : ℕ) (u a : Task) → HasTask now.tasks z u → IsTrue (may_go a.wait) → z ≡ n → (i : ℕ) (t : Task) → HasTask (slice_set now.tasks z (Some a)) i t → IsTrue (may_go t.wait) ⊎ ((i ≡ n → ⊥) × HasTask net.tasks i t)
    one_ready = settling.one_ready d p procs protocol quantum k n pick net sys before after proc s noted there quiet may bytes turn noted_is st

    number_is : {i j : ℕ} → OfProcess i ≡ OfProcess j → i ≡ j
    number_is = settling.number_is d p procs protocol quantum k n pick net sys before after proc s noted there quiet may bytes turn noted_is st

    sides : (c z w : ℕ) (m : Message) → TakesPart n (communication c (OfProcess z) (OfProcess w) m) → (z ≡ n) ⊎ (w ≡ n)
    sides = settling.sides d p procs protocol quantum k n pick net sys before after proc s noted there quiet may bytes turn noted_is st

    no_bytes_more : (c : ℕ) → IsTrue (has_byte net.keyboard c) → IsTrue (has_byte net.keyboard c)
    no_bytes_more = settling.no_bytes_more d p procs protocol quantum k n pick net sys before after proc s noted there quiet may bytes turn noted_is st

    fewer_bytes : (b : ℕ) (kb : List ℕ) → net.keyboard ≡ b ∷ kb → (c : ℕ) → IsTrue (has_byte kb c) → IsTrue (has_byte net.keyboard c)
    fewer_bytes = settling.fewer_bytes d p procs protocol quantum k n pick net sys before after proc s noted there quiet may bytes turn noted_is st

    byte_fit : (c b : ℕ) (kb : List ℕ) (m : Message) → net.keyboard ≡ b ∷ kb → c ≡ 0 → m ≡ byte_message b → FitsProtocol (d.protocols c) m
    byte_fit = settling.byte_fit d p procs protocol quantum k n pick net sys before after proc s noted there quiet may bytes turn noted_is st

    getter : (c : ℕ) (m : Message) (w : ℕ) → TakesPart n (communication c Keyboard (OfProcess w) m) → w ≡ n
    getter = settling.getter d p procs protocol quantum k n pick net sys before after proc s noted there quiet may bytes turn noted_is st

    by_byte : (c b : ℕ) (kb : List ℕ) (m : Message) → net.keyboard ≡ b ∷ kb → c ≡ 0 → m ≡ byte_message b → (y : End) (proc' : Process) → Receives (offers_of mid) c m y (system kb proc s noted) (system kb proc' s noted) → Meets mid (communication c Keyboard y m) (system kb proc' s noted)
    by_byte = settling.by_byte d p procs protocol quantum k n pick net sys before after proc s noted there quiet may bytes turn noted_is st

    module _ (m : ℕ) (t : Task) (ns : List ℕ) (h : HasTask now.tasks m t) (w : t.wait ≡ W.Joins ns) (among : IsTrue (is_held ns n)) (done : AreDone now.tasks ns) where
      abbrev new : Net
      new = settling.new d p procs protocol quantum k n pick net sys before after proc s noted there quiet may bytes turn noted_is st m t ns h w among done

      join_quiet : Quiet new
      join_quiet = settling.join_quiet d p procs protocol quantum k n pick net sys before after proc s noted there quiet may bytes turn noted_is st m t ns h w among done

      join_state : State d p procs k new.tasks proc s
      join_state = settling.join_state d p procs protocol quantum k n pick net sys before after proc s noted there quiet may bytes turn noted_is st m t ns h w among done

    -- a communication of the network is one of the system
    given_meets : (z c : ℕ) (u : Task) (m : Message) → HasTask now.tasks z u → u.wait ≡ W.Offers c m → (y : End) (b e : Net) → b.tasks ≡ slice_set now.tasks z (Some (made_ready u)) → Gets pick (standing now) c m y b e → (a : System) × Meets mid (communication c (OfProcess z) y m) a
    given_meets z c u m hz wz y b e is (task_gets {n = w} {t = v} hw ww) =
        let one = gives_on d p procs k now.tasks proc s st z c u m hz wz in
        let fits = offered_fits d p procs k now.tasks proc s st z c u m hz wz in
        let there' : HasTask (slice_set now.tasks z (Some (made_ready u))) w v = subst (λ x. HasTask x w v) is hw in
        let two = gets_on d p procs k (slice_set now.tasks z (Some (made_ready u))) one.proc' s one.state w c v m (offers_of mid) there' ww fits in
        (system net.keyboard two.proc' s noted, meets_in (process_sends one.changes) (process_receives two.changes))
    given_meets z c u m hz wz y b e is (arm_gets {n = w} {t = v} {pri = pri} {arms = arms} {a = arm} hw ww q f) =
        let one = gives_on d p procs k now.tasks proc s st z c u m hz wz in
        let fits = offered_fits d p procs k now.tasks proc s st z c u m hz wz in
        let there' : HasTask (slice_set now.tasks z (Some (made_ready u))) w v = subst (λ x. HasTask x w v) is hw in
        let chosen : arm_chosen pri pick (offers_of mid) arms ≡ Some arm = sym (chosen_same (λ a. a.chan) (standing now) (offers_of mid) standing_mid pri pick arms) ∙ q in
        let two = arm_gets_by d p procs k (slice_set now.tasks z (Some (made_ready u))) one.proc' s one.state w v pri pick arms arm (offers_of mid) there' ww chosen c m f fits in
        (system net.keyboard two.proc' s noted, meets_in (process_sends one.changes) (process_receives two.changes))
    given_meets z c u m hz wz y b e is (screen_gets g) =
        let one = gives_on d p procs k now.tasks proc s st z c u m hz wz in
        (system net.keyboard one.proc' s noted, meets_in (process_sends one.changes) (screen_receives g))
    given_meets z c u m hz wz y b e is (error_gets g) =
        let one = gives_on d p procs k now.tasks proc s st z c u m hz wz in
        (system net.keyboard one.proc' s noted, meets_in (process_sends one.changes) (error_receives g))

    byte_meets : (c b : ℕ) (kb : List ℕ) (m : Message) → net.keyboard ≡ b ∷ kb → c ≡ 0 → m ≡ byte_message b → (y : End) (a e : Net) → a.tasks ≡ now.tasks → Gets pick (standing now) c m y a e → (a : System) × Meets mid (communication c Keyboard y m) a
    byte_meets c b kb m e z q y a next is (task_gets {n = w} {t = v} hw ww) =
        let there' : HasTask now.tasks w v = subst (λ x. HasTask x w v) is hw in
        let two = gets_on d p procs k now.tasks proc s st w c v m (offers_of mid) there' ww (byte_fit c b kb m e z q) in
        (system kb two.proc' s noted, by_byte c b kb m e z q (OfProcess w) two.proc' (process_receives two.changes))
    byte_meets c b kb m e z q y a next is (arm_gets {n = w} {t = v} {pri = pri} {arms = arms} {a = arm} hw ww g f) =
        let there' : HasTask now.tasks w v = subst (λ x. HasTask x w v) is hw in
        let chosen : arm_chosen pri pick (offers_of mid) arms ≡ Some arm = sym (chosen_same (λ a. a.chan) (standing now) (offers_of mid) standing_mid pri pick arms) ∙ g in
        let two = arm_gets_by d p procs k now.tasks proc s st w v pri pick arms arm (offers_of mid) there' ww chosen c m f (byte_fit c b kb m e z q) in
        (system kb two.proc' s noted, by_byte c b kb m e z q (OfProcess w) two.proc' (process_receives two.changes))
    byte_meets c b kb m e z q y a next is (screen_gets g) = let x = sym z ∙ g in absurd cc
    byte_meets c b kb m e z q y a next is (error_gets g) = let x = sym z ∙ g in absurd cc

    passes_meets : {x : Communication} {next : Net} → PassesOn pick now x next → (a : System) × Meets mid x a
    passes_meets (joined {c = c} {m = m} {y = y} {b = b} {d = e} (task_gives {n = z} {t = u} hz wz) g) = given_meets z c u m hz wz y b e refl g
    passes_meets (joined {c = c} {m = m} {y = y} {b = a} {d = e} (keyboard_gives {b = b} {kb = kb} q z r) g) = byte_meets c b kb m q z r y a e refl g

    skip_meets : (t : Task) (pri : Bool) (arms : List Arm) (arm : Arm) → HasTask now.tasks n t → t.wait ≡ W.Chooses pri arms → arm_chosen pri pick (standing now) arms ≡ Some arm → arm.chan ≡ None → (a : System) × PassesSkip n mid a
    skip_meets t pri arms arm h w q f =
        let chosen : arm_chosen pri pick (offers_of mid) arms ≡ Some arm = sym (chosen_same (λ a. a.chan) (standing now) (offers_of mid) standing_mid pri pick arms) ∙ q in
        let one = arm_skips_by d p procs k now.tasks proc s st n t pri pick arms arm (offers_of mid) h w chosen f in
        (system net.keyboard one.proc' s noted, passes_skip one.changes)

    -- where the system has no meeting, nothing happens in the network but a join
    module _ (unmet : MayGo p.errors noted → Meeting n mid → ⊥) (no_fork : (ns : List ℕ) → after.wait ≡ W.Joins ns → ⊥) where
      none_happens : NoneJoins now.tasks n → (b : Net) → Happens p.bodies n pick now b → ⊥
      none_happens g b (meets part j) = unmet (may_again (uncalm_no_fault after.wait (part_waits now n after mine j part))) (by_message part (passes_meets j).1)
      none_happens g b (skips {t = t} {pri = pri} {arms = arms} {arm = arm} h w q f) =
          let same : after ≡ t = task_once now.tasks n mine h in
          unmet (may_again (ap (λ x. noted_at x.wait) same ∙ ap noted_at w)) (by_skip (skip_meets t pri arms arm h w q f).1)
      none_happens g b (forks {t = t} {ns = ns} h w) = let same : after ≡ t = task_once now.tasks n mine h in no_fork ns (ap (λ z. z.wait) same ∙ w)
      none_happens g b (joins m {t = t} {ns = ns} h w among done) = g m t ns h w among done

      happened_none : Joinable now.tasks n ⊎ NoneJoins now.tasks n → Happened k n net now None mid
      happened_none (inl x) =
          record {
            pick = pick;
            next = new x.number x.task x.branches x.there x.waits x.among x.done;
            settled = settles (joins x.number x.there x.waits x.among x.done);
            comes = record {
              follows = record {
                proc = proc;
                store = s;
                noted = noted;
                is = refl;
                state = join_state x.number x.task x.branches x.there x.waits x.among x.done;
                quiet = join_quiet x.number x.task x.branches x.there x.waits x.among x.done;
                bytes = bytes;
                faults = noted_is;
              };
              trace = sym (append-nil net.trace);
              turns = refl;
              fits = tt;
              output = λ c. sym (append-nil (net.output c));
              input = λ c. sym (append-nil (net.input c));
            };
          }
      happened_none (inr g) =
          record {
            pick = pick;
            next = now;
            settled = stays (none_happens g);
            comes = record {
              follows = record { proc = proc; store = s; noted = noted; is = refl; state = st; quiet = quiet_stays p.bodies net n pick before after quiet there (none_happens g); bytes = bytes; faults = noted_is };
              trace = sym (append-nil net.trace);
              turns = refl;
              fits = tt;
              output = λ c. sym (append-nil (net.output c));
              input = λ c. sym (append-nil (net.input c));
            };
          }

    comes_met : (c : ℕ) (x y : End) (m : Message) (next : Net) (proc' : Process) → next.trace ≡ net.trace ++ communication c x y m ∷ [] → next.turns ≡ net.turns ++ n ∷ [] → next.output ≡ one_more net.output c m → next.input ≡ one_more net.input c m → State d p procs k next.tasks proc' s → Quiet next → next.noted ≡ net.noted ++ noted_at after.wait → AreBytes next.keyboard → FitsProtocol (d.protocols c) m → Comes k n net next (Some (communication c x y m)) (system next.keyboard proc' s noted)
    comes_met c x y m next proc' trace turns output input state q kept bs fits =
        record {
          follows = record { proc = proc'; store = s; noted = noted; is = refl; state = state; quiet = q; bytes = bs; faults = noted_is ∙ sym kept };
          trace = trace;
          turns = turns;
          fits = (fits, tt);
          output = λ i. ap (λ f. f i) output ∙ one_more_at net.output c m x y i;
          input = λ i. ap (λ f. f i) input ∙ one_more_at net.input c m x y i;
        }

    chosen_now : (pri : Bool) (pk : ℕ) (arms : List Arm) (arm : Arm) → arm_chosen pri pk (offers_of mid) arms ≡ Some arm → arm_chosen pri pk (standing now) arms ≡ Some arm
    chosen_now pri pk arms arm e = chosen_same (λ a. a.chan) (standing now) (offers_of mid) standing_mid pri pk arms ∙ e

    giver : (c z : ℕ) (y : End) (m : Message) → (OfProcess n ≡ y → ⊥) → TakesPart n (communication c (OfProcess z) y m) → z ≡ n
    giver c z y m f (inl e) = number_is e
    giver c z y m f (inr e) = absurd (f (sym e))

    -- from a process to a process
    to_process : (z w c : ℕ) (m : Message) (one two : Process) → (a : Gave d p procs k now.tasks proc s st z c m one) → TakesPart n (communication c (OfProcess z) (OfProcess w) m) → Got d p procs k (slice_set now.tasks z (Some (made_ready a.task))) one s a.state w c m (offers_of mid) two → Happened k n net now (Some (communication c (OfProcess z) (OfProcess w) m)) (system net.keyboard two s noted)
    to_process z w c m one two a part (got_input {t = v} hw ww st') =
        let b : Net = record now { tasks = slice_set now.tasks z (Some (made_ready a.task)); output = one_more net.output c m } in
        let e : Net = record b { tasks = slice_set b.tasks w (Some (has_taken v m)); input = one_more net.input c m } in
        let next : Net = traced e (communication c (OfProcess z) (OfProcess w) m) in
        let ready = two_ready z w a.task v (made_ready a.task) (has_taken v m) a.there refl hw refl (sides c z w m part) in
        record {
          pick = pick;
          next = next;
          settled = settles (meets part (joined {b = b} {d = e} (task_gives a.there a.waits) (task_gets hw ww)));
          comes = comes_met c (OfProcess z) (OfProcess w) m next two refl refl refl refl st' (quiet_ready net next n quiet ready no_bytes_more) refl bytes a.fits;
        }
    to_process z w c m one two a part (got_arm {t = v} {pri = pri} {arms = arms} {a = arm} pk hw ww q f st') =
        let b : Net = record now { tasks = slice_set now.tasks z (Some (made_ready a.task)); output = one_more net.output c m } in
        let e : Net = record b { tasks = slice_set b.tasks w (Some (took_arm v arm (Some m))); input = one_more net.input c m } in
        let next : Net = traced e (communication c (OfProcess z) (OfProcess w) m) in
        let ready = two_ready z w a.task v (made_ready a.task) (took_arm v arm (Some m)) a.there refl hw refl (sides c z w m part) in
        record {
          pick = pk;
          next = next;
          settled = settles (meets part (joined {b = b} {d = e} (task_gives a.there a.waits) (arm_gets hw ww (chosen_now pri pk arms arm q) f)));
          comes = comes_met c (OfProcess z) (OfProcess w) m next two refl refl refl refl st' (quiet_ready net next n quiet ready no_bytes_more) refl bytes a.fits;
        }

    -- from a process to the screen or to the error channel
    to_screen : (z c : ℕ) (m : Message) (one : Process) → Gave d p procs k now.tasks proc s st z c m one → TakesPart n (communication c (OfProcess z) Screen m) → c ≡ 1 → Happened k n net now (Some (communication c (OfProcess z) Screen m)) (system net.keyboard one s noted)
    to_screen z c m one a part g =
        let b : Net = record now { tasks = slice_set now.tasks z (Some (made_ready a.task)); output = one_more net.output c m } in
        let e : Net = record b { input = one_more net.input c m } in
        let next : Net = traced e (communication c (OfProcess z) Screen m) in
        let ready = one_ready z a.task (made_ready a.task) a.there refl (giver c z Screen m (λ q. cc) part) in
        record {
          pick = pick;
          next = next;
          settled = settles (meets part (joined {b = b} {d = e} (task_gives a.there a.waits) (screen_gets g)));
          comes = comes_met c (OfProcess z) Screen m next one refl refl refl refl a.state (quiet_ready net next n quiet ready no_bytes_more) refl bytes a.fits;
        }

    to_error : (z c : ℕ) (m : Message) (one : Process) → Gave d p procs k now.tasks proc s st z c m one → TakesPart n (communication c (OfProcess z) Error m) → c ≡ 2 → Happened k n net now (Some (communication c (OfProcess z) Error m)) (system net.keyboard one s noted)
    to_error z c m one a part g =
        let b : Net = record now { tasks = slice_set now.tasks z (Some (made_ready a.task)); output = one_more net.output c m } in
        let e : Net = record b { input = one_more net.input c m } in
        let next : Net = traced e (communication c (OfProcess z) Error m) in
        let ready = one_ready z a.task (made_ready a.task) a.there refl (giver c z Error m (λ q. cc) part) in
        record {
          pick = pick;
          next = next;
          settled = settles (meets part (joined {b = b} {d = e} (task_gives a.there a.waits) (error_gets g)));
          comes = comes_met c (OfProcess z) Error m next one refl refl refl refl a.state (quiet_ready net next n quiet ready no_bytes_more) refl bytes a.fits;
        }

    -- from the keyboard
    from_keyboard : (w c b : ℕ) (kb : List ℕ) (m : Message) (two : Process) → (e : net.keyboard ≡ b ∷ kb) → (z : c ≡ 0) → (q : m ≡ byte_message b) → TakesPart n (communication c Keyboard (OfProcess w) m) → Got d p procs k now.tasks proc s st w c m (offers_of mid) two → Happened k n net now (Some (communication c Keyboard (OfProcess w) m)) (system kb two s noted)
    from_keyboard w c b kb m two e z q part (got_input {t = v} hw ww st') =
        let a : Net = record now { keyboard = kb; output = one_more net.output c m } in
        let g : Net = record a { tasks = slice_set a.tasks w (Some (has_taken v m)); input = one_more net.input c m } in
        let next : Net = traced g (communication c Keyboard (OfProcess w) m) in
        let ready = one_ready w v (has_taken v m) hw refl (getter c m w part) in
        record {
          pick = pick;
          next = next;
          settled = settles (meets part (joined {b = a} {d = g} (keyboard_gives e z q) (task_gets hw ww)));
          comes = comes_met c Keyboard (OfProcess w) m next two refl refl refl refl st' (quiet_ready net next n quiet ready (fewer_bytes b kb e)) refl (subst AreBytes e bytes).1 (byte_fit c b kb m e z q);
        }
    from_keyboard w c b kb m two e z q part (got_arm {t = v} {pri = pri} {arms = arms} {a = arm} pk hw ww h f st') =
        let a : Net = record now { keyboard = kb; output = one_more net.output c m } in
        let g : Net = record a { tasks = slice_set a.tasks w (Some (took_arm v arm (Some m))); input = one_more net.input c m } in
        let next : Net = traced g (communication c Keyboard (OfProcess w) m) in
        let ready = one_ready w v (took_arm v arm (Some m)) hw refl (getter c m w part) in
        record {
          pick = pk;
          next = next;
          settled = settles (meets part (joined {b = a} {d = g} (keyboard_gives e z q) (arm_gets hw ww (chosen_now pri pk arms arm h) f)));
          comes = comes_met c Keyboard (OfProcess w) m next two refl refl refl refl st' (quiet_ready net next n quiet ready (fewer_bytes b kb e)) refl (subst AreBytes e bytes).1 (byte_fit c b kb m e z q);
        }

    happened_one : (kb : List ℕ) → kb ≡ net.keyboard → {x : Communication} {e : System} → TakesPart n x → Meets (system kb proc s noted) x e → Happened k n net now (Some x) e
    happened_one kb q part (meets_in {c = c} {m = m} (process_sends {n = z} {p' = one} f) (process_receives {n = w} {p' = two} g)) =
        let a = gave d p procs k now.tasks proc s st z c m one f in
        subst (λ y. Happened k n net now (Some (communication c (OfProcess z) (OfProcess w) m)) (system y two s noted)) (sym q)
        (to_process z w c m one two a part (got d p procs k (slice_set now.tasks z (Some (made_ready a.task))) one s a.state w c m (offers_of mid) two a.fits (subst (λ y. ChangeIn (GetsOn (offers_of (system y proc s noted)) c m) w one two) q g)))
    happened_one kb q part (meets_in {c = c} {m = m} (process_sends {n = z} {p' = one} f) (screen_receives g)) =
        subst (λ y. Happened k n net now (Some (communication c (OfProcess z) Screen m)) (system y one s noted)) (sym q) (to_screen z c m one (gave d p procs k now.tasks proc s st z c m one f) part g)
    happened_one kb q part (meets_in {c = c} {m = m} (process_sends {n = z} {p' = one} f) (error_receives g)) =
        subst (λ y. Happened k n net now (Some (communication c (OfProcess z) Error m)) (system y one s noted)) (sym q) (to_error z c m one (gave d p procs k now.tasks proc s st z c m one f) part g)
    happened_one kb q part (meets_in {c = c} {m = m} (keyboard_sends {b = b} {kb = rest} z r) (process_receives {n = w} {p' = two} g)) =
        from_keyboard w c b rest m two (sym q) z r part
        (got d p procs k now.tasks proc s st w c m (offers_of mid) two (byte_fit c b rest m (sym q) z r) (subst (λ y. ChangeIn (GetsOn (offers_of (system y proc s noted)) c m) w proc two) q g))
    happened_one kb q part (meets_in (keyboard_sends z r) (screen_receives g)) = let y = sym z ∙ g in absurd cc
    happened_one kb q part (meets_in (keyboard_sends z r) (error_receives g)) = let y = sym z ∙ g in absurd cc

    to_skip : (two : Process) → Skipped d p procs k now.tasks proc s st n (offers_of mid) two → Happened k n net now None (system net.keyboard two s noted)
    to_skip two x =
        let next : Net = with_task now n (took_arm x.task x.arm None) in
        let ready = one_ready n x.task (took_arm x.task x.arm None) x.there refl refl in
        record {
          pick = x.pick;
          next = next;
          settled = settles (skips x.there x.waits (chosen_now x.pri x.pick x.arms x.arm x.chosen) x.none);
          comes = record {
            follows = record { proc = two; store = s; noted = noted; is = refl; state = x.state; quiet = quiet_ready net next n quiet ready no_bytes_more; bytes = bytes; faults = noted_is };
            trace = sym (append-nil net.trace);
            turns = refl;
            fits = tt;
            output = λ c. sym (append-nil (net.output c));
            input = λ c. sym (append-nil (net.input c));
          };
        }

    happened_skip : (kb : List ℕ) → kb ≡ net.keyboard → {e : System} → PassesSkip n (system kb proc s noted) e → Happened k n net now None e
    happened_skip kb q (passes_skip {p' = two} f) =
        subst (λ y. Happened k n net now None (system y two s noted)) (sym q)
        (to_skip two (skipped d p procs k now.tasks proc s st n (offers_of mid) two (subst (λ y. ChangeIn (PassesBy (offers_of (system y proc s noted))) n proc two) q f)))

    pub happened : {x : Option Communication} {e : System} → MeetsAtMost p.errors n mid x e → ((ns : List ℕ) → after.wait ≡ W.Joins ns → ⊥) → Happened k n net now x e
    happened (meets_none unmet) no_fork = happened_none unmet no_fork (joinable now.tasks n)
    happened (meets_one again part m) no_fork = happened_one net.keyboard refl part m
    happened (meets_skip again m) no_fork = happened_skip net.keyboard refl m
