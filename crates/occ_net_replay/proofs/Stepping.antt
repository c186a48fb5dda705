-- Each run by single steps has the communications of a run by turns.
use Rattle.std.proofs.Common.{Bool, true, false, IsTrue, IsFalse, ◌⊎◌, inl, inr, length-append, ◌≡◌, ◌∙◌, refl, sym, ap, subst, ℕ, suc, ◌+◌, ◌<◌, ◌^◌, List, [], ◌∷◌, ◌++◌, Option, Some, None, length, arith, append-nil, append_assoc}
use Rattle.std.specs.Prelude.{slice_get}
use Rattle.std.proofs.lemmas.Bool.{eq-eqb}
use mathlib.Core.Bool.{true≢false}
use Rattle.occ_term.specs.declared.communication.Communication.{Communication}
use Rattle.occ_term.specs.declared.fault.Fault.{Fault}
use Rattle.occ_term.specs.Processes.{Numbered, numbered, processes_of}
use Rattle.occ_term.specs.Runs.{MeetsAtMost, meets_none, IsStill, private_step, own_step, EndsBy, by_fault, by_end, by_standing, goes_on as still_goes_on, main_ended, Event, event, Run, no_turn, goes, communications}
use Rattle.occ_term.specs.declared.ending.Ending.{Ending}
use Rattle.occ_term.specs.declared.ending.Ending.TheVariants.{Limit}
use Rattle.occ_term.specs.Going.{IsGoing}
use Rattle.occ_term.specs.Steps.{Doing, Passing, Again, Offering, Awaiting, Choosing, Taking, Forking, Halted, Faulted, Done, status, status_of, is_ended, Do, Left, left}
use Rattle.occ_term.proofs.Going.{going}
use Rattle.occ_term.specs.StepRuns.{SystemStep, process_step, meeting, skipping, and_met, StepRun, no_step, steps}
use Rattle.occ_term.specs.declared.communication.End.TheVariants.{Process as OfProcess, Screen, Error}
use Rattle.occ_term.specs.System.{communication, Process, process, Processes, no_processes, System, system, MayGo, SystemTurn, start, offers, ChangeIn, GetsOn, process_sends, keyboard_sends, process_receives, screen_receives, error_receives, Meets, meets}
use Rattle.occ_term.specs.TermTyping.{Declared}
use Rattle.occ_term.specs.UnfoldedProgram.{UnfoldedProgram, IsWellFormed, Lawful, meaning, declared}
use Rattle.occ_term.specs.Values.{Store}
use Rattle.occ_machine.specs.Compiled.{Program, IsCompiledFrom}
use Rattle.occ_net_replay.specs.Following.{AreBytes}
use Rattle.occ_net_replay.specs.Moments.{At, here, below, main_process}
use Rattle.occ_net_replay.specs.Replay.{Net, first_net}
use Rattle.occ_net_replay.specs.Sharing.{store_of}
use Rattle.occ_net_replay.specs.StepConverse.{EndedStepRunsAreRuns, StepRunsAreRuns, steps_in}
use Rattle.occ_net_replay.proofs.Ahead.{Idle, facts_of}
use Rattle.occ_net_replay.proofs.Communicating.{skips_up, shows_up, errs_up, types_up}
use Rattle.occ_net_replay.proofs.Converse.{ended_runs_are_replays, further, runs_are_replays, takes}
use Rattle.occ_net_replay.proofs.Holding.{number_of, put}
use Rattle.occ_net_replay.proofs.Lagging.{NotIn, Distinct, Ahead, level, ahead}
use Rattle.occ_net_replay.proofs.Law.{AllFollowed, belongs, first_followed, keyboard_protocol}
use Rattle.occ_net_replay.proofs.Pairing.{arrives_by, pairs_up}
use Rattle.occ_net_replay.proofs.Parts.{Facts, facts_after, is_comm, is_live, live_unended}
use Rattle.occ_net_replay.proofs.Putting.{within}
use Rattle.occ_net_replay.proofs.Resting.{Alone, all_alone, meeting_now, stays_there}
use Rattle.occ_net_replay.proofs.Runs.{listed, met_more, run_more}
use Rattle.occ_net_replay.proofs.Simulating.{Lags, keeps_up}
use Rattle.occ_net_replay.proofs.Beginning.{step_at}
use Rattle.occ_net_replay.proofs.Trees.{OwnAfter, is_new, is_kid, is_old, own_after, at_now}

root_own : Process → Left
root_own (process n a ps) = a

root_back : {n : ℕ} {own : Left} {ps : Processes} {q : Process} → (x : At n own ps q) (rest : Left) → IsTrue (is_live (status rest)) → IsTrue (is_ended (status (root_own (put x rest no_processes)))) → IsTrue (is_ended (status (root_own q)))
unfolding root_own
root_back here rest h g = absurd (true≢false (sym g ∙ live_unended (status rest) h))
root_back (below x) rest h g = g

-- a main process that has ended is not ahead
root_ended : {d : Declared} {procs : List Numbered} {q : ℕ} {ns : List ℕ} {t t' : Process} {s s' : Store} → Ahead d procs q ns t s t' s' → IsTrue (is_ended (status (root_own t'))) → IsTrue (is_ended (status (root_own t)))
root_ended level g = g
root_ended (ahead {rest = rest} f r) g = root_back f.at rest f.by.1 (subst (λ z. IsTrue (is_ended (status (root_own z)))) f.is (root_ended r g))

main_is : (k : List ℕ) (t : Process) (s : Store) (noted : List Fault) → main_ended (system k t s noted) ≡ is_ended (status (root_own t))
unfolding root_own
main_is k (process n a ps) s noted = refl

live_kinds : (x : Doing) → IsTrue (is_live (status_of x)) → IsTrue (is_comm (status_of x)) ⊎ IsGoing x
live_kinds (Do t) h = inr refl
live_kinds (Passing l) h = inr refl
live_kinds (Again l) h = inr refl
live_kinds (Offering c m) h = inl refl
live_kinds (Awaiting c list) h = inl refl
live_kinds (Choosing pri es) h = inl refl
live_kinds (Taking xs what) h = inr refl
live_kinds (Forking bs) h = absurd (true≢false (sym h))
live_kinds Halted h = absurd (true≢false (sym h))
live_kinds (Faulted e) h = absurd (true≢false (sym h))
live_kinds Done h = absurd (true≢false (sym h))

abbrev more_than : List Event → ℕ → ℕ
more_than [] k = k
more_than (e ∷ es) k = suc (more_than es k)

more_is : (es : List Event) (k : ℕ) → more_than es k ≡ length es + k
more_is [] k = omega arith
more_is (e ∷ es) k = let r = more_is es k in omega (arith, r)

module _ (u : UnfoldedProgram) (p : Program) (q : ℕ) (kb : List ℕ) (w : IsWellFormed u) (lawful : Lawful u) (from : IsCompiledFrom u (suc q) p) (bytes : AreBytes kb) where
  abbrev d : Declared
  d = declared u

  abbrev procs : List Numbered
  procs = processes_of (meaning u)

  abbrev a0 : System
  a0 = start (meaning u) kb

  record AtRun (k : ℕ) (last : System) : Type 0 where
    pub net : Net
    pub x : AllFollowed u p (suc q) kb w lawful from bytes k net
    pub is : x.now ≡ last

  catch : {now last : System} {es : List Event} → Run p.errors (suc q) now es last → (k : ℕ) (net : Net) (x : AllFollowed u p (suc q) kb w lawful from bytes (more_than es k) net) → x.now ≡ now → AtRun k last
  catch no_turn k net x e = record { net = net; x = x; is = e }
  catch (goes {n = n} {x = met} {b = between} {c = after} {es = es} turn meeting_then rest) k net x e =
      let its_turn : SystemTurn p.errors (suc q) n x.now between = subst (λ z. SystemTurn p.errors (suc q) n z between) (sym e) turn in
      let t = takes d p procs (keyboard_protocol u w) (suc q) from.quanta (belongs u p (suc q) kb w lawful from bytes) (more_than es k) n net x.now between after met x.follows its_turn meeting_then in
      catch rest k t.next (further u p (suc q) kb w lawful from bytes (more_than es k) n net t.next x met between after its_turn meeting_then t.comes) refl

  facts : (es : List Event) (k : List ℕ) (t : Process) (s : Store) (noted : List Fault) → Run p.errors (suc q) a0 es (system k t s noted) → length es < 2 ^ 63 → Facts d procs t s
  facts es k t s noted run few =
      let many = more_is es 1 in
      let bound : more_than es 1 < 2 ^ 64 = omega (arith, few, many) in
      let y = catch run 1 (first_net p kb) (first_followed u p (suc q) kb w lawful from bytes (more_than es 1) bound) refl in
      let f = y.x.follows in
      let both = sym f.is ∙ y.is in
      subst (λ z. Facts d procs z s) (ap main_process both) (subst (λ z. Facts d procs f.proc z) (ap store_of both)
      (facts_of d p procs 1 y.net.tasks f.proc f.store f.state (λ n own ps v x e c i.
      let entry : slice_get procs (number_of f.proc) ≡ Some (numbered (number_of f.proc) (meaning u)) = subst (λ z. slice_get procs z ≡ Some (numbered z (meaning u))) (sym f.state.root) refl in
      let inside = within d p procs 1 f.store y.net.tasks x f.state.holds v (meaning u) e entry in
      (λ g. lawful.beside_screen.inputs c (inside.part.ins c i) (eq-eqb 1 c (sym g)), λ g. lawful.beside_error.inputs c (inside.part.ins c i) (eq-eqb 2 c (sym g))))))

  abbrev Lagging : ℕ → List Communication → System → Type 0
  Lagging most xs a = Lags d procs p.errors q a0 facts most xs a

  module _ {most : ℕ} {xs : List Communication} {a : System} (l : Lagging most xs a) (small : most < 2 ^ 63) where
    met_by : (k : List ℕ) → k ≡ l.keyboard → {x : Communication} {to : System} → MayGo p.errors l.noted → Meets (system k l.tree l.now l.noted) x to → Lagging (suc most) (xs ++ x ∷ []) to
    met_by k e may (meets {c = c} {m = m} (process_sends {n = z} {p' = one} f) (process_receives {n = v} {p' = two} g)) =
        subst (λ i. Lagging (suc most) (xs ++ communication c (OfProcess z) (OfProcess v) m ∷ []) (system i two l.now l.noted)) (sym e)
        (pairs_up d procs p.errors q a0 facts l small may c m z v one two f (subst (λ i. ChangeIn (GetsOn (offers (system i l.tree l.now l.noted)) c m) v one two) e g))
    met_by k e may (meets {c = c} {m = m} (process_sends {n = z} {p' = one} f) (screen_receives g)) = subst (λ i. Lagging (suc most) (xs ++ communication c (OfProcess z) Screen m ∷ []) (system i one l.now l.noted)) (sym e) (shows_up d procs p.errors q a0 facts l small may c m z one f g)
    met_by k e may (meets {c = c} {m = m} (process_sends {n = z} {p' = one} f) (error_receives g)) = subst (λ i. Lagging (suc most) (xs ++ communication c (OfProcess z) Error m ∷ []) (system i one l.now l.noted)) (sym e) (errs_up d procs p.errors q a0 facts l small may c m z one f g)
    met_by k e may (meets {c = c} {m = m} (keyboard_sends {b = byte} {kb = rest} o i) (process_receives {n = v} {p' = two} g)) = types_up d procs p.errors q a0 facts l small may c byte rest m v two (sym e) o i g
    met_by k e may (meets (keyboard_sends o i) (screen_receives g)) = let r = sym o ∙ g in absurd cc
    met_by k e may (meets (keyboard_sends o i) (error_receives g)) = let r = sym o ∙ g in absurd cc

    one_step : {x : Option Communication} {b : System} → SystemStep p.errors (system l.keyboard l.tree l.now l.noted) x b → Lagging (suc most) (xs ++ listed x) b
    one_step {b = b} (process_step may y) = subst (λ v. Lagging (suc most) v b) (sym (append-nil xs)) (keeps_up d procs p.errors q a0 facts l small may y)
    one_step (meeting may m) = met_by l.keyboard refl may m
    one_step (skipping may m) = skips_up d procs p.errors q a0 facts l small may l.keyboard refl m

  and_listed : (xs : List Communication) (x : Option Communication) (ys : List Communication) → (xs ++ listed x) ++ ys ≡ xs ++ and_met x ys
  and_listed xs None ys = ap (λ z. z ++ ys) (append-nil xs)
  and_listed xs (Some x) ys = append_assoc xs (x ∷ []) ys

  record Reached (xs : List Communication) (b : System) : Type 0 where
    pub most : ℕ
    pub lags : Lagging most xs b
    pub small : most < 2 ^ 63

  all_steps : {a b : System} {ys : List Communication} → (r : StepRun p.errors a ys b) → (most : ℕ) (xs : List Communication) → Lagging most xs a → most + steps_in r < 2 ^ 62 → Reached (xs ++ ys) b
  all_steps {b = b} no_step most xs l few = record { most = most; lags = subst (λ z. Lagging most z b) (sym (append-nil xs)) l; small = omega (arith, few) }
  all_steps {b = b} (steps {b = c} {x = x} {xs = ys} s r) most xs l few =
      let bound : most < 2 ^ 63 = omega (arith, few) in
      let next : Lagging (suc most) (xs ++ listed x) c = one_step l bound (subst (λ z. SystemStep p.errors z x c) l.is s) in
      subst (λ z. Reached z b) (and_listed xs x ys) (all_steps r (suc most) (xs ++ listed x) next (omega (arith, few)))

  first_lags : Lagging 0 [] a0
  first_lags =
      record {
        events = [];
        ahead_by = [];
        keyboard = kb;
        base = process 0 (left (Do (meaning u)) []) no_processes;
        store = _;
        noted = [];
        tree = process 0 (left (Do (meaning u)) []) no_processes;
        now = _;
        run = no_turn;
        are_ahead = level;
        distinct = tt;
        idle = alone_idle;
        is = refl;
        said = refl;
        few = omega arith;
      }
    where
      alone_idle : Idle (process 0 (left (Do (meaning u)) []) no_processes)
      alone_idle n own ps here = refl
      alone_idle n own ps (below y) = elim y [ ]

  -- ---- the end

  record Rested (xs : List Communication) (ending : Ending) : Type 0 where
    pub events : List Event
    pub last : System
    pub run : Run p.errors (suc q) a0 events last
    pub said : communications events ≡ xs
    pub ends : EndsBy p.errors last ending
    pub few : length events < 2 ^ 63

  module _ (k : List ℕ) (tree : Process) (now : Store) (noted : List Fault) (may : MayGo p.errors noted) (still : IsStill (system k tree now noted)) (lone : Alone tree) (known : Facts d procs tree now) where
    -- those who are ahead take their turns, one after another, and meet nobody
    drained : {ns : List ℕ} {base : Process} {s : Store} → Ahead d procs (suc q) ns base s tree now → Distinct ns → (events : List Event) → Run p.errors (suc q) a0 events (system k base s noted) → ((i : ℕ) (own : Left) (ps : Processes) → At i own ps base → IsTrue (is_comm (status own)) → NotIn i ns × At i own no_processes tree) → (xs : List Communication) (ending : Ending) → communications events ≡ xs → EndsBy p.errors (system k tree now noted) ending → length events + length ns < 2 ^ 63 → Rested xs ending
    drained level h events run there xs ending said ends few = record { events = events; last = system k tree now noted; run = run; said = said; ends = ends; few = omega (arith, few) }
    drained {base = base} {s = s} (ahead {n = n} {rest = end} {ns = ns} {p1 = p1} {s1 = s1} f r) h events run there xs ending said ends few =
        let longer : length (events ++ event n None ∷ []) ≡ length events + 1 = length-append events (event n None ∷ []) in
        drained r h.1 (events ++ event n None ∷ []) (run_more run turn unmet) there' xs ending (met_more events n None ∙ append-nil (communications events) ∙ said) ends (omega (arith, few, longer))
      where
        stood : At n end no_processes tree
        stood = stays_there r (subst (At n end no_processes) (sym f.is) (at_now f.at end no_processes)) f.by.1 h.0

        by_kind : (a : Left) → At n a no_processes tree → IsTrue (is_live (status a)) → IsTrue (is_comm (status a))
        by_kind (left x c) y g = kind (live_kinds x g)
          where
            kind : IsTrue (is_comm (status_of x)) ⊎ IsGoing x → IsTrue (is_comm (status_of x))
            kind (inl e) = e
            kind (inr e) = absurd (still (private_step (step_at d p procs (keyboard_protocol u w) (suc q) y (own_step (going x c now e).2))))

        comm : IsTrue (is_comm (status end))
        comm = by_kind end stood f.by.1

        not_true : (x : Bool) → (IsTrue x → ⊥) → x ≡ false
        not_true true g = absurd (g refl)
        not_true false g = refl

        calm : IsFalse (is_comm (status f.own))
        calm = not_true (is_comm (status f.own)) (λ g. (there n f.own f.branches f.at g).0.0 refl)

        turn : SystemTurn p.errors (suc q) n (system k base s noted) (system k p1 s1 noted)
        turn = arrives_by d procs p.errors q k noted may f calm comm

        there' : (i : ℕ) (own : Left) (ps : Processes) → At i own ps p1 → IsTrue (is_comm (status own)) → NotIn i ns × At i own no_processes tree
        there' i own ps y g = by (own_after end no_processes f.at (subst (At i own ps) f.is y))
          where
            by : OwnAfter n i own end no_processes base → NotIn i ns × At i own no_processes tree
            by (is_new e o) = (subst (λ v. NotIn v ns) (sym e) h.0, subst (λ v. At v own no_processes tree) (sym e) (subst (λ v. At n v no_processes tree) (sym o) stood))
            by (is_kid v) = elim v [ ]
            by (is_old {ps = ts} v) = let z = there i own ts v g in (z.0.1, z.1)

        unmet : MeetsAtMost p.errors n (system k p1 s1 noted) None (system k p1 s1 noted)
        unmet = meets_none (λ g m. still (meeting_now k tree now noted lone known.beside_once known.inside_once (λ i own ps y c. (there' i own ps y c).1) m))

  all_known : {ns : List ℕ} {t t' : Process} {s s' : Store} → Ahead d procs (suc q) ns t s t' s' → Facts d procs t s → Facts d procs t' s'
  all_known level x = x
  all_known (ahead f r) x = all_known r (facts_after d procs (suc q) x f)

  rested : {most : ℕ} {xs : List Communication} {b : System} (l : Lagging most xs b) → most < 2 ^ 63 → (ending : Ending) → EndsBy p.errors (system l.keyboard l.tree l.now l.noted) ending → (ending ≡ Limit → ⊥) → Rested xs ending
  rested {xs = xs} l small ending ends unless = by ending ends unless
    where
      few : length l.events < 2 ^ 63
      few = let z = l.few in omega (arith, z, small)

      ended_so : (ending : Ending) → EndsBy p.errors (system l.keyboard l.base l.store l.noted) ending → Rested xs ending
      ended_so ending e = record { events = l.events; last = system l.keyboard l.base l.store l.noted; run = l.run; said = l.said; ends = e; few = few }

      by : (ending : Ending) → EndsBy p.errors (system l.keyboard l.tree l.now l.noted) ending → (ending ≡ Limit → ⊥) → Rested xs ending
      by ending (by_fault h e) g = ended_so ending (by_fault h e)
      by ending (by_end may h) g = ended_so ending (by_end may (main_is l.keyboard l.base l.store l.noted ∙ root_ended l.are_ahead (sym (main_is l.keyboard l.tree l.now l.noted) ∙ h)))
      by ending (by_standing may h still) g =
          let z = l.few in
          let known = facts l.events l.keyboard l.base l.store l.noted l.run (omega (arith, z, small)) in
          drained l.keyboard l.tree l.now l.noted may still (all_alone l.are_ahead (λ n own ps y c. absurd (true≢false (sym c ∙ l.idle n own ps y)))) (all_known l.are_ahead known) l.are_ahead l.distinct l.events l.run
          (λ i own ps y c. absurd (true≢false (sym c ∙ l.idle i own ps y))) xs ending l.said (by_standing may h still) (omega (arith, z, small))
      by ending (still_goes_on may h s) g = absurd (g refl)

pub step_runs_are_runs : StepRunsAreRuns
step_runs_are_runs u p quantum kb xs last w lawful from bytes r few =
    let zero_more : 0 + steps_in r < 2 ^ 62 = omega (arith, few) in
    let y = all_steps u p quantum kb w lawful from bytes r 0 [] (first_lags u p quantum kb w lawful from bytes) zero_more in
    let l = y.lags in
    let small = y.small in
    let at_most = l.few in
    let bound : length l.events < 2 ^ 63 = omega (arith, small, at_most) in
    let x = runs_are_replays u p (suc quantum) kb l.events (system l.keyboard l.base l.store l.noted) w lawful from bytes (omega (arith, bound)) l.run in
    record {
      events = l.events;
      system = system l.keyboard l.base l.store l.noted;
      run = l.run;
      few = bound;
      said = l.said;
      choices = x.choices;
      net = x.net;
      replays = x.replays;
      trace = sym x.one.follows.communicates ∙ ap communications x.same ∙ l.said;
    }

pub ended_step_runs_are_runs : EndedStepRunsAreRuns
ended_step_runs_are_runs u p quantum kb xs last ending w lawful from bytes r few ends unless =
    let zero_more : 0 + steps_in r < 2 ^ 62 = omega (arith, few) in
    let y = all_steps u p quantum kb w lawful from bytes r 0 [] (first_lags u p quantum kb w lawful from bytes) zero_more in
    let l = y.lags in
    let z = rested u p quantum kb w lawful from bytes l y.small ending (subst (λ v. EndsBy p.errors v ending) l.is ends) unless in
    let few_turns = z.few in
    let x = ended_runs_are_replays u p (suc quantum) kb z.events z.last ending w lawful from bytes (omega (arith, few_turns)) z.run z.ends unless in
    record {
      events = z.events;
      system = z.last;
      run = z.run;
      few = z.few;
      said = z.said;
      ends = z.ends;
      choices = x.choices;
      net = x.net;
      replays = x.replays;
      trace = x.communicates ∙ z.said;
      replay_ends = x.ends;
    }
