-- Where the network is quiet and nobody is ready, the system stands still.
use Rattle.std.proofs.Common.{◌≡◌, ◌∙◌, refl, sym, ap, subst, Bool, true, IsTrue, ℕ, ◌%◌, ◌⊎◌, inl, inr, List, [], Some, length}
use Rattle.std.specs.Prelude.{slice_get, if◌then◌else◌, ◌||◌}
use Rattle.std.proofs.lemmas.Bool.{eq-eqb}
use mathlib.Core.Bool.{true≢false}
use Rattle.occ_term.specs.declared.fault.Fault.{Fault}
use Rattle.occ_term.specs.declared.message.Message.{Message}
use Rattle.occ_term.specs.Processes.{Numbered}
use Rattle.occ_term.specs.Selecting.{Enabled, waits_for, ready_among, chosen}
use Rattle.occ_term.specs.Steps.{Do, Offering, Awaiting, Choosing, Forking, Context, Left, left, Step, faults}
use Rattle.occ_term.specs.declared.communication.Communication.{Communication}
use Rattle.occ_term.specs.System.{Process, process, Processes, no_processes, and_process, AllEnded, System, system, has_byte, offers as offers_of, ChangeIn, change_here, change_below, ChangeAmong, change_first, change_later, GivesOn, offer_ends, GetsOn, input_gets, arm_gets as arm_gets_on, PassesBy, arm_skips, process_sends, keyboard_sends, process_receives, screen_receives, error_receives, Meets, meets, PassesSkip, passes_skip}
use Rattle.occ_term.specs.Runs.{Meeting, by_message, by_skip, CanStep, own_step, join_step, branch_step, AnyCanStep, first_can, later_can, private_step, meeting_step, skip_step, IsStill}
use Rattle.occ_term.specs.TermTyping.{Declared}
use Rattle.occ_term.specs.Terms.{Skip, Branches, no_branches, and_branch, Reception}
use Rattle.occ_term.specs.Uses.{Numbers}
use Rattle.occ_term.specs.Values.{Store}
use Rattle.occ_machine.specs.SameStop.{SameArms, numbers_of}
use Rattle.occ_machine.specs.Alike.{Alike}
use Rattle.occ_machine.specs.Compiled.{Program}
use Rattle.occ_machine.specs.Machine.{Body}
use Rattle.occ_machine.specs.declared.task.Arm.{Arm}
use Rattle.occ_machine.specs.declared.task.Task.{Task}
use Rattle.occ_machine.specs.declared.task.Wait.TheVariants as W
use Rattle.occ_net_replay.specs.Replay.{Net, HasTask, may_go, offers_on, offers_among, standing, AreDone}
use Rattle.occ_net_replay.specs.Moments.{At, here, below, Among, first, later, Quiet, is_read}
use Rattle.occ_net_replay.proofs.Holding.{SameNumbers, put, put_among, Stands, may_turn, may_join, offers, awaits, chooses, waits, is_halted, has_failed, has_ended, Holds, AllHold}
use Rattle.occ_net_replay.proofs.Meeting.{chosen_same, none_both, offers_same}
use Rattle.occ_net_replay.proofs.Putting.{mine}
use Rattle.occ_net_replay.proofs.Quiet.{done_at, done_has}
use Rattle.occ_net_replay.proofs.States.{State, ended_done}
use Rattle.occ_net_replay.proofs.Tables.{none_among, offers_there, or_first, or_second}

-- ---- changes of one process are at a path

pub record ChangesAt (R : Left → Left → Type 0) (n : ℕ) (q q' : Process) : Type 0 where
  pub own : Left
  pub next : Left
  pub at : At n own no_processes q
  pub rel : R own next
  pub is : q' ≡ put at next no_processes

record ChangesAmong (R : Left → Left → Type 0) (n : ℕ) (qs qs' : Processes) : Type 0 where
  pub own : Left
  pub next : Left
  pub at : Among n own no_processes qs
  pub rel : R own next
  pub is : qs' ≡ put_among at next no_processes

mutual
  pub changes_at : {R : Left → Left → Type 0} {n : ℕ} {q q' : Process} → ChangeIn R n q q' → ChangesAt R n q q'
  changes_at (change_here {a = a} {b = b} r) = record { own = a; next = b; at = here; rel = r; is = refl }
  changes_at (change_below {m = m} {a = a} x) = let y = changes_among x in record { own = y.own; next = y.next; at = below y.at; rel = y.rel; is = ap (process m a) y.is }

  changes_among : {R : Left → Left → Type 0} {n : ℕ} {qs qs' : Processes} → ChangeAmong R n qs qs' → ChangesAmong R n qs qs'
  changes_among (change_first {ps = ps} x) = let y = changes_at x in record { own = y.own; next = y.next; at = first y.at; rel = y.rel; is = ap (λ z. and_process z ps) y.is }
  changes_among (change_later {p = p} x) = let y = changes_among x in record { own = y.own; next = y.next; at = later y.at; rel = y.rel; is = ap (and_process p) y.is }

under : {m i : ℕ} {a b next : Left} {qs : Processes} → (b ≡ next) ⊎ Among m b no_processes qs → (b ≡ next) ⊎ At m b no_processes (process i a qs)
under (inl e) = inl e
under (inr x) = inr (below x)

in_first : {m : ℕ} {b next : Left} {q : Process} {qs : Processes} → (b ≡ next) ⊎ At m b no_processes q → (b ≡ next) ⊎ Among m b no_processes (and_process q qs)
in_first (inl e) = inl e
in_first (inr x) = inr (first x)

in_later : {m : ℕ} {b next : Left} {q : Process} {qs : Processes} → (b ≡ next) ⊎ Among m b no_processes qs → (b ≡ next) ⊎ Among m b no_processes (and_process q qs)
in_later (inl e) = inl e
in_later (inr x) = inr (later x)

-- a process that stands alone after the change of another one stood so before
mutual
  back : {n m : ℕ} {own b : Left} {q : Process} → (next : Left) → (x : At n own no_processes q) → At m b no_processes (put x next no_processes) → (b ≡ next) ⊎ At m b no_processes q
  back next here here = inl refl
  back next here (below y) = elim y [ ]
  back next (below (first x)) (below y) = under (back_among next (first x) y)
  back next (below (later x)) (below y) = under (back_among next (later x) y)

  back_among : {n m : ℕ} {own b : Left} {qs : Processes} → (next : Left) → (x : Among n own no_processes qs) → Among m b no_processes (put_among x next no_processes) → (b ≡ next) ⊎ Among m b no_processes qs
  back_among next (first x) (first y) = in_first (back next x y)
  back_among next (first x) (later y) = inr (later y)
  back_among next (later x) (first y) = inr (first y)
  back_among next (later x) (later y) = in_later (back_among next x y)

no_get : {X : Type 0} {x : X} (i : ℕ) → slice_get [] i ≡ Some x → ⊥
no_get i e = cc

module _ (d : Declared) (p : Program) (procs : List Numbered) where
  -- ---- what a task waits for, by what is left of its process

  offering_waits : (k : ℕ) (body : Body) (t : Task) (c : ℕ) (m : Message) (j : List Context) (ps : Processes) (but : Numbers) → Stands d p procs k body t (left (Offering c m) j) ps but → t.wait ≡ W.Offers c m
  offering_waits k body t c m j ps but (may_turn g h y a) = absurd (true≢false (sym h))
  offering_waits k body t c m j ps but (offers w a) = w

  awaiting_waits : (k : ℕ) (body : Body) (t : Task) (c : ℕ) (list : Reception) (j : List Context) (ps : Processes) (but : Numbers) → Stands d p procs k body t (left (Awaiting c list) j) ps but → t.wait ≡ W.Awaits c
  awaiting_waits k body t c list j ps but (may_turn g h y a) = absurd (true≢false (sym h))
  awaiting_waits k body t c list j ps but (awaits w a) = w

  record ChoosesBy (k : ℕ) (body : Body) (t : Task) (pri : Bool) (es : List Enabled) (j : List Context) : Type 0 where
    pub arms : List Arm
    pub waits : t.wait ≡ W.Chooses pri arms
    pub same : SameArms d (Alike k d body) t j arms es

  choosing_waits : (k : ℕ) (body : Body) (t : Task) (pri : Bool) (es : List Enabled) (j : List Context) (ps : Processes) (but : Numbers) → Stands d p procs k body t (left (Choosing pri es) j) ps but → ChoosesBy k body t pri es j
  choosing_waits k body t pri es j ps but (may_turn g h y a) = absurd (true≢false (sym h))
  choosing_waits k body t pri es j ps but (chooses {arms = arms} w a) = record { arms = arms; waits = w; same = a }

  module _ (k : ℕ) (net : Net) (proc : Process) (s : Store) (noted : List Fault) (st : State d p procs k net.tasks proc s) (quiet : Quiet net) where
    abbrev sys : System
    sys = system net.keyboard proc s noted

    pub standing_is : (c : ℕ) → standing net c ≡ offers_of sys c
    standing_is c = ap (λ b. has_byte net.keyboard c || b) (offers_same d p procs k net.tasks proc s st c)

    -- no arm of a process that chooses is ready
    none_taken : (n : ℕ) (pri : Bool) (pick : ℕ) (es : List Enabled) (e : Enabled) (j : List Context) → At n (left (Choosing pri es) j) no_processes proc → chosen pri pick (offers_of sys) es ≡ Some e → ⊥
    none_taken n pri pick es e j x q =
        let y = mine d p procs k s net.tasks x st.holds in
        let c = choosing_waits k y.0.belongs.body y.0.task pri es j no_processes y.0.but y.0.stands in
        let none = quiet.unready n y.0.task pri c.arms y.0.has_task c.waits in
        let empty = none_both d (Alike k d y.0.belongs.body) y.0.task j (standing net) c.arms es c.same (none_among (λ a. a.chan) (standing net) c.arms none) in
        let there : chosen pri pick (standing net) es ≡ Some e = chosen_same waits_for (standing net) (offers_of sys) standing_is pri pick es ∙ q in
        no_get (if pri then 0 else pick % length (ready_among waits_for (standing net) es)) (ap (λ xs. slice_get xs (if pri then 0 else pick % length (ready_among waits_for (standing net) es))) (sym empty) ∙ there)

    -- nobody gets what stands on the channel
    none_gets : {c : ℕ} {m : Message} {own next : Left} (n : ℕ) → GetsOn (offers_of sys) c m own next → At n own no_processes proc → IsTrue (standing net c) → ⊥
    none_gets n (input_gets {k = j} {list = list}) x h =
        let y = mine d p procs k s net.tasks x st.holds in
        quiet.unheard n y.0.task _ y.0.has_task (awaiting_waits k y.0.belongs.body y.0.task _ list j no_processes y.0.but y.0.stands) h
    none_gets n (arm_gets_on {k = j} {pri = pri} {arms = es} pick q) x h = none_taken n pri pick es _ j x q

    -- what does not run can not be what gets
    got_from : {o : ℕ → Bool} {c : ℕ} {m : Message} {own next : Left} {j : List Context} → GetsOn o c m own next → own ≡ left (Do Skip) j → ⊥
    got_from input_gets e = cc
    got_from (arm_gets_on pick q) e = cc

    sender_stands : {c : ℕ} {m : Message} {own next : Left} (n : ℕ) → GivesOn c m own next → At n own no_processes proc → (t : Task) × HasTask net.tasks n t × (t.wait ≡ W.Offers c m)
    sender_stands n (offer_ends {k = j}) x =
        let y = mine d p procs k s net.tasks x st.holds in
        (y.0.task, y.0.has_task, offering_waits k y.0.belongs.body y.0.task _ _ j no_processes y.0.but y.0.stands)

    given_next : {c : ℕ} {m : Message} {own next : Left} → GivesOn c m own next → (j : List Context) × (next ≡ left (Do Skip) j)
    given_next (offer_ends {k = j}) = (j, refl)

    stood : {c : ℕ} {m : Message} (n : ℕ) (t : Task) → HasTask net.tasks n t → t.wait ≡ W.Offers c m → IsTrue (standing net c)
    stood {c = c} n t h w = or_second (has_byte net.keyboard c) (offers_among net.tasks c) (offers_there net.tasks c n t h (subst (λ z. IsTrue (offers_on z c)) (sym w) (eq-eqb c c refl)))

    none_after : {c : ℕ} {m : Message} {proc' proc'' : Process} (n i : ℕ) → ChangeIn (GivesOn c m) n proc proc' → ChangeIn (GetsOn (offers_of sys) c m) i proc' proc'' → ⊥
    none_after {c = c} {m = m} {proc' = proc'} {proc'' = proc''} n i f g =
        let x = changes_at f in
        let y = changes_at (subst (λ z. ChangeIn (GetsOn (offers_of sys) c m) i z proc'') x.is g) in
        let t = sender_stands n x.rel x.at in
        by y.own y.next y.rel (back x.next x.at y.at) (given_next x.rel) (stood {m = m} n t.0 t.1 t.2)
      where
        by : {next : Left} (own after : Left) → GetsOn (offers_of sys) c m own after → (own ≡ next) ⊎ At i own no_processes proc → (j : List Context) × (next ≡ left (Do Skip) j) → IsTrue (standing net c) → ⊥
        by own after r (inl e) nx h = got_from r (e ∙ nx.1)
        by own after r (inr z) nx h = none_gets i r z h

    none_by_byte : {c i : ℕ} {m : Message} {proc' : Process} → ChangeIn (GetsOn (offers_of sys) c m) i proc proc' → IsTrue (has_byte net.keyboard c) → ⊥
    none_by_byte {c = c} {i = i} g h = let y = changes_at g in none_gets i y.rel y.at (or_first (has_byte net.keyboard c) (offers_among net.tasks c) h)

    unread_by : {c : ℕ} {m : Message} {proc' : Process} (n : ℕ) → ChangeIn (GivesOn c m) n proc proc' → is_read c ≡ true → ⊥
    unread_by {c = c} {m = m} n f e = let x = changes_at f in let t = sender_stands n x.rel x.at in true≢false (sym e ∙ quiet.unread n t.0 c m t.1 t.2)

    read_one : (c : ℕ) → c ≡ 1 → is_read c ≡ true
    read_one c e = ap is_read e

    read_two : (c : ℕ) → c ≡ 2 → is_read c ≡ true
    read_two c e = ap is_read e

    meeting_at : (kb : List ℕ) → kb ≡ net.keyboard → {x : Communication} {b : System} → Meets (system kb proc s noted) x b → ⊥
    meeting_at kb e (meets {c = c} {m = m} (process_sends {n = n} {p' = mid} f) (process_receives {n = i} {p' = after} g)) = none_after n i f (subst (λ z. ChangeIn (GetsOn (offers_of (system z proc s noted)) c m) i mid after) e g)
    meeting_at kb e (meets (process_sends {n = n} f) (screen_receives q)) = unread_by n f (read_one _ q)
    meeting_at kb e (meets (process_sends {n = n} f) (error_receives q)) = unread_by n f (read_two _ q)
    meeting_at kb e (meets {c = c} {m = m} (keyboard_sends {b = b} {kb = rest} z q) (process_receives {n = i} {p' = after} g)) =
        none_by_byte {i = i} (subst (λ y. ChangeIn (GetsOn (offers_of (system y proc s noted)) c m) i proc after) e g) (subst (λ y. IsTrue (has_byte y c)) e (eq-eqb c 0 z))
    meeting_at kb e (meets (keyboard_sends z q) (screen_receives r)) = let y = sym z ∙ r in absurd cc
    meeting_at kb e (meets (keyboard_sends z q) (error_receives r)) = let y = sym z ∙ r in absurd cc

    -- no communication is possible, and no choice of SKIP
    pub no_meeting : {x : Communication} {b : System} → Meets sys x b → ⊥
    no_meeting h = meeting_at net.keyboard refl h

    skip_at : (kb : List ℕ) → kb ≡ net.keyboard → {n : ℕ} {b : System} → PassesSkip n (system kb proc s noted) b → ⊥
    skip_at kb e {n = n} (passes_skip {p' = after} f) = by (changes_at (subst (λ z. ChangeIn (PassesBy (offers_of (system z proc s noted))) n proc after) e f))
      where
        taken_by : {own next : Left} → PassesBy (offers_of sys) own next → At n own no_processes proc → ⊥
        taken_by (arm_skips {k = j} {pri = pri} {arms = es} pick q) x = none_taken n pri pick es _ j x q

        by : {q : Process} → ChangesAt (PassesBy (offers_of sys)) n proc q → ⊥
        by y = taken_by y.rel y.at

    pub no_skip : {n : ℕ} {b : System} → PassesSkip n sys b → ⊥
    no_skip h = skip_at net.keyboard refl h

    pub meets_nobody : {n : ℕ} → Meeting n sys → ⊥
    meets_nobody (by_message part m) = no_meeting m
    meets_nobody (by_skip m) = no_skip m

    -- branches that have all ended are done
    pub all_done : (bs : Branches) (ps : Processes) → SameNumbers bs ps → AllHold d p procs k s net.tasks ps → AllEnded ps → AreDone net.tasks (numbers_of bs)
    all_done no_branches no_processes m h e = tt
    all_done no_branches (and_process q qs) m h e = absurd m
    all_done (and_branch i b bs) no_processes m h e = absurd m
    all_done (and_branch i b bs) (and_process (process j own no_processes) ps) m h e =
        let o = h.0.0 in (
          subst (λ z. IsTrue (done_at net.tasks z)) m.0 (done_has net.tasks j o.task o.has_task (ended_done d p procs k o.belongs.body o.task own no_processes o.but o.stands e.0)),
          all_done bs ps m.1 h.1 e.1,
        )
    all_done (and_branch i b bs) (and_process (process j own (and_process q qs)) ps) m h e = absurd e

    -- ---- no private step

    module _ (none : (i : ℕ) (t : Task) → HasTask net.tasks i t → IsTrue (may_go t.wait) → ⊥) where
      no_step : (n : ℕ) (body : Body) (t : Task) (own : Left) (ps : Processes) (but : Numbers) → HasTask net.tasks n t → Stands d p procs k body t own ps but → {b : Left} {s' : Store} → Step own s b s' → ⊥
      no_step n body t own ps but h (may_turn g x y a) z = none n t h g
      no_step n body t own ps but h (may_join g m e a) z = none n t h (ap may_go g)
      no_step n body t own ps but h (offers w a) (faults f) = elim f [ ]
      no_step n body t own ps but h (awaits w a) (faults f) = elim f [ ]
      no_step n body t own ps but h (chooses w a) (faults f) = elim f [ ]
      no_step n body t own ps but h (waits w m e a) (faults f) = elim f [ ]
      no_step n body t own ps but h (is_halted w) (faults f) = elim f [ ]
      no_step n body t own ps but h (has_failed w) (faults f) = elim f [ ]
      no_step n body t own ps but h (has_ended w) (faults f) = elim f [ ]

      no_join : (n : ℕ) (body : Body) (t : Task) (bs : Branches) (j : List Context) (ps : Processes) (but : Numbers) → HasTask net.tasks n t → Stands d p procs k body t (left (Forking bs) j) ps but → AllHold d p procs k s net.tasks ps → AllEnded ps → ⊥
      no_join n body t bs j ps but h (may_turn g x y a) all e = none n t h g
      no_join n body t bs j ps but h (may_join g m z a) all e = none n t h (ap may_go g)
      no_join n body t bs j ps but h (waits {ns = ns} w m z a) all e = quiet.unjoined n t ns h w (subst (AreDone net.tasks) m (all_done bs ps z all e))

      mutual
        cannot_step : {q : Process} → Holds d p procs k s net.tasks q → CanStep q s → ⊥
        cannot_step {q = process n own ps} h (own_step x) = no_step n h.0.belongs.body h.0.task own no_processes h.0.but h.0.has_task h.0.stands x
        cannot_step {q = process n own ps} h (join_step e) = no_join n h.0.belongs.body h.0.task _ _ ps h.0.but h.0.has_task h.0.stands h.1 e
        cannot_step {q = process n own ps} h (branch_step x) = none_can h.1 x

        none_can : {qs : Processes} → AllHold d p procs k s net.tasks qs → AnyCanStep qs s → ⊥
        none_can h (first_can x) = cannot_step h.0 x
        none_can h (later_can x) = none_can h.1 x

      pub stands_still : IsStill sys
      stands_still (private_step x) = cannot_step st.holds x
      stands_still (meeting_step m) = no_meeting m
      stands_still (skip_step m) = no_skip m
