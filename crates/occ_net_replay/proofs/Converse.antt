-- Each run of the source is that of some choices.
use Rattle.std.proofs.Common.{◌≡◌, ◌∙◌, refl, sym, ap, subst, Bool, true, false, IsTrue, ℕ, zero, suc, ◌+◌, ◌<◌, ◌≤◌, ◌^◌, ◌⊎◌, inl, inr, List, [], ◌∷◌, ◌++◌, Option, Some, None, length, arith, append-nil, append_assoc, length-append}
use Rattle.std.specs.Prelude.{All, slice_get, ◌-◌}
use Rattle.std.proofs.Math.Nat.{mod-eq_of_lt}
use Rattle.std.proofs.lemmas.Option.{slice_get_within}
use Rattle.std.proofs.lemmas.Bool.{cases_lt}
use mathlib.Core.Bool.{true≢false}
use Rattle.occ_term.specs.declared.ending.Ending.{Ending}
use Rattle.occ_term.specs.declared.ending.Ending.TheVariants.{Limit}
use Rattle.occ_term.specs.declared.fault.Errors.{Errors}
use Rattle.occ_term.specs.declared.fault.Errors.TheVariants.{Halt, Stop}
use Rattle.occ_term.specs.declared.fault.Fault.{Fault}
use Rattle.occ_term.specs.declared.primitive.Primitive.TheVariants.{Byte}
use Rattle.occ_term.specs.declared.protocol.Protocol.TheVariants.{Simple}
use Rattle.occ_term.specs.declared.communication.Communication.{Communication}
use Rattle.occ_term.specs.Processes.{Numbered, numbered, processes_of}
use Rattle.occ_term.specs.Runs.{communications, EndsBy, Event, event, Run, no_turn, goes, Meeting, by_message, by_skip, MeetsAtMost, meets_none, meets_one, meets_skip, messages_on}
use Rattle.occ_term.specs.Steps.{Forking, Left, left, status, Status}
use Rattle.occ_term.specs.System.{Process, process, Processes, no_processes, System, system, MayGo, begun, branches_of, fault_noted, SystemTurn}
use Rattle.occ_term.specs.TermTyping.{Declared}
use Rattle.occ_term.specs.Terms.{Term, Branches, no_branches, and_branch}
use Rattle.occ_term.specs.Turns.{Turn}
use Rattle.occ_term.specs.UnfoldedProgram.{UnfoldedProgram, IsWellFormed, Lawful, meaning, declared}
use Rattle.occ_term.specs.Uses.{Numbers, empty_set}
use Rattle.occ_term.specs.Values.{Store}
use Rattle.occ_term.proofs.OneResult.{one_ending, one_turn as one_result}
use Rattle.occ_machine.specs.Compiled.{Program, IsCompiledFrom}
use Rattle.occ_machine.specs.Machine.{Stopping}
use Rattle.occ_machine.specs.declared.task.Task.{Task}
use Rattle.occ_machine.specs.declared.task.Wait.TheVariants as W
use Rattle.occ_net_replay.specs.declared.choice.Choice.{Choice}
use Rattle.occ_net_replay.specs.Converse.{EndedRunsAreReplays, IsOfChoices, RunsAreAsShort, RunsAreReplays}
use Rattle.occ_net_replay.specs.Following.{AreBytes, Followed, or_limit}
use Rattle.occ_net_replay.specs.Moments.{At, here, below, Among, Accompanies, at_start, after_turn}
use Rattle.occ_net_replay.specs.Replay.{Net, Tasks, HasTask, may_go, is_done, ready_from, took_turn, with_branches, noted_at, first_noted, main_done, AreDone, ending_by, ending_of, OneTurn, settles, forks, Replays, begins, first_net, goes_on as replays_on}
use Rattle.occ_net_replay.proofs.Faults.{stands_noted}
use Rattle.occ_net_replay.proofs.Holding.{SameNumbers, number_of, put, Belongs, AgreesBut, agrees_all, Stands, Own, Holds}
use Rattle.occ_net_replay.proofs.Joining.{JoinsAs, joins_as}
use Rattle.occ_net_replay.proofs.Law.{AllFollowed, belongs, first_followed, followed_by, is_moment, keyboard_protocol}
use Rattle.occ_net_replay.proofs.Merging.{done_stands}
use Rattle.occ_net_replay.proofs.Placed.{size, AreSome, LeftPlaced}
use Rattle.occ_net_replay.proofs.Putting.{mine}
use Rattle.occ_net_replay.proofs.Runs.{listed, run_more, met_more, turns_more, on-append, FitAll, fit_append}
use Rattle.occ_net_replay.proofs.Happened.{happened}
use Rattle.occ_net_replay.proofs.Settling.{Follows, Comes, Happened}
use Rattle.occ_net_replay.proofs.States.{Live}
use Rattle.occ_net_replay.proofs.Still.{all_done, meets_nobody}
use Rattle.occ_net_replay.proofs.Tables.{ready_place, set_same, task_once}
use Rattle.occ_net_replay.proofs.TakingTurns.{Ran, turned, Arrived, arrived, at_fork, arrives, Begins, begins_alone, begins_joined, begins_as, done_wait}
use Rattle.occ_net_replay.proofs.Turned.{TurnedAt, turn_parts, first_step, from_once, may_take}
use Rattle.occ_net_replay.proofs.Whole.{its_quantum, its_stop, r, system_turns, st, fork_quiet}

-- where nothing can be met, nothing is
alone_at : {errors : Errors} {n : ℕ} {a e : System} {x : Option Communication} → MeetsAtMost errors n a x e → (Meeting n a → ⊥) → (x ≡ None) × (e ≡ a)
alone_at (meets_none g) f = (refl, refl)
alone_at (meets_one g part m) f = absurd (f (by_message part m))
alone_at (meets_skip g m) f = absurd (f (by_skip m))

-- the process of a tree of one
only_one : {n i : ℕ} {own a : Left} {ps qs : Processes} → qs ≡ no_processes → At n own ps (process i a qs) → n ≡ i
only_one e here = refl
only_one {n = n} {own = own} {ps = ps} e (below x) = absurd (nobody (subst (Among n own ps) e x))
  where
    nobody : Among n own ps no_processes → ⊥
    nobody x = elim x [ ]

-- where a fault ends nothing, the main process has not ended and somebody is ready, there is no ending
ending_none : (e : Errors) (noted : List Fault) (m : Bool) (ready : List ℕ) (i n : ℕ) → MayGo e noted → m ≡ false → slice_get ready i ≡ Some n → ending_by e (first_noted noted) m ready ≡ None
ending_none e noted true ready i n g f q = absurd (true≢false f)
ending_none Halt (x ∷ noted) false ready i n g f q = absurd cc
ending_none Halt [] false [] i n g f q = absurd cc
ending_none Halt [] false (x ∷ ready) i n g f q = refl
ending_none Stop noted false [] i n g f q = absurd cc
ending_none Stop noted false (x ∷ ready) i n g f q = refl

head_done : (tasks : Tasks) → main_done tasks ≡ true → (t : Task) × HasTask tasks 0 t × IsTrue (is_done t.wait)
head_done [] e = absurd (true≢false (sym e))
head_done (None ∷ ts) e = absurd (true≢false (sym e))
head_done (Some t ∷ ts) e = (t, refl, e)

not_true : (b : Bool) → (b ≡ true → ⊥) → b ≡ false
not_true true f = absurd (f refl)
not_true false f = refl

module _ (d : Declared) (p : Program) (procs : List Numbered) (protocol : d.protocols 0 ≡ Some (Simple [] Byte)) (quantum : ℕ) (same_quantum : All (λ b. b.quantum ≡ quantum) p.bodies) (belongs_at : (n : ℕ) (t : Term) → slice_get procs n ≡ Some (numbered n t) → Belongs d p procs n) where
  -- a turn of the network that comes to the same
  pub record Taken (k n : ℕ) (net : Net) (met : Option Communication) (after : System) : Type 0 where
    pub choice : Choice
    pub next : Net
    pub turn : OneTurn p choice net next
    pub ending : ending_of p.errors net ≡ None
    pub comes : Comes d p procs protocol quantum k n net next met after

  module _ (k n : ℕ) (net : Net) (sys : System) (f : Follows d p procs protocol quantum (suc k) net sys) (going : MayGo p.errors net.noted) (q' : Process) (s' : Store) (stop' : Status) (t : TurnedAt quantum n f.proc f.store q' s' stop') where
    abbrev m : Holds d p procs (suc k) f.store net.tasks (process n t.own t.branches)
    m = mine d p procs (suc k) f.store net.tasks t.at f.state.holds

    abbrev o : Own d p procs (suc k) f.store net.tasks n t.own t.branches
    o = m.0

    abbrev live : Live d p procs (suc k) net.tasks f.proc f.store n o.task
    live = record { own = t.own; branches = t.branches; at = t.at; mine = o; all = m.1; same = refl }

    may : IsTrue (may_go o.task.wait)
    may =
        may_take d p procs (suc k) o.belongs.body o.task t.own t.branches o.but o.stands t.goes (first_step t.turn).step
        (λ ns bs w e z all. f.quiet.unjoined n o.task ns o.has_task w (subst (AreDone net.tasks) e (all_done d p procs (suc k) net f.proc f.store f.noted f.state f.quiet bs t.branches z m.1 all)))

    stopping : (after : Task) × Stopping o.belongs.body o.task after
    stopping = by t.own t.branches o.but (begins_as d p procs (suc k) o.belongs.body o.task t.own t.branches o.but o.stands may) o.agrees
      where
        by : (own : Left) (ps : Processes) (but : Numbers) → Begins d p procs (suc k) o.belongs.body o.task own ps but → AgreesBut o.belongs.body.cells but o.task.frame f.store → (after : Task) × Stopping o.belongs.body o.task after
        by own ps but (begins_alone h al) ag = let y = al f.store (agrees_all d o.belongs.body.cells o.task.frame f.store f.state.typed_store ag) in (y.after, y.stops)
        by own ps but (begins_joined e al) ag = let y = al f.store (agrees_all d o.belongs.body.cells o.task.frame f.store f.state.typed_store ag) in (y.after, y.stops)

    -- the main process has not ended
    main_goes : main_done net.tasks ≡ false
    main_goes = not_true (main_done net.tasks) (λ e. ended_main f.proc f.state.root f.state.holds t.at (head_done net.tasks e))
      where
        ended_main : (q : Process) → number_of q ≡ 0 → Holds d p procs (suc k) f.store net.tasks q → At n t.own t.branches q → (u : Task) × HasTask net.tasks 0 u × IsTrue (is_done u.wait) → ⊥
        ended_main (process i own ps) e h x (u, there, done) =
            let its_task : h.0.task ≡ u = task_once net.tasks 0 (subst (λ z. HasTask net.tasks z h.0.task) e h.0.has_task) there in
            let alone : ps ≡ no_processes = (done_stands d p procs (suc k) f.store net.tasks h.0.belongs.body h.0.task own ps h.0.but h.0.stands (ap (λ z. z.wait) its_task ∙ done_wait u.wait done)).1 in
            let same : o.task ≡ u = task_once net.tasks 0 (subst (λ z. HasTask net.tasks z o.task) (only_one alone x ∙ e) o.has_task) there in
            true≢false (sym may ∙ ap (λ z. may_go z.wait) same ∙ ap may_go (done_wait u.wait done))

    no_ending : ending_of p.errors net ≡ None
    no_ending =
        let y = ready_place 0 net.tasks n o.task o.has_task may in
        ending_none p.errors net.noted (main_done net.tasks) (ready_from 0 net.tasks) y.place (0 + n) going main_goes y.is

    -- ---- where the turn comes to

    abbrev its : Ran d p procs k quantum n net.tasks o.belongs.body o.belongs.term t.own t.branches f.store stopping.0
    its = r d p procs protocol quantum same_quantum belongs_at k n 0 net sys f going o.task stopping.0 o.has_task may o.belongs.body o.belongs.code stopping.1 live

    same_from : t.from ≡ its.from
    same_from = from_once t.goes its.goes (first_step t.turn) (first_step its.turn)

    same_turn : (t.rest ≡ its.rest) × (s' ≡ its.store)
    same_turn = one_result quantum its.from t.rest its.rest f.store s' its.store (subst (λ z. Turn quantum z f.store t.rest s') same_from t.turn) its.turn

    abbrev placed : Left → Process
    placed z = put t.at z (begun (status z))

    abbrev mid : System
    mid = system net.keyboard (placed its.rest) its.store (net.noted ++ fault_noted (status its.rest))

    mid_is : system net.keyboard q' s' (f.noted ++ fault_noted stop') ≡ mid
    mid_is =
        ap (λ z. system net.keyboard z s' (f.noted ++ fault_noted stop')) (t.is ∙ ap placed same_turn.0)
        ∙ ap (λ z. system net.keyboard (placed its.rest) z (f.noted ++ fault_noted stop')) same_turn.1
        ∙ ap (λ z. system net.keyboard (placed its.rest) its.store (f.noted ++ fault_noted z)) (t.stop ∙ ap status same_turn.0)
        ∙ ap (λ z. system net.keyboard (placed its.rest) its.store (z ++ fault_noted (status its.rest))) f.faults

    taken_by : {x : Option Communication} {e : System} → Happened d p procs protocol quantum k n net (took_turn net n stopping.0) x e → Taken k n net x e
    taken_by h =
        let y = ready_place 0 net.tasks n o.task o.has_task may in
        let number : 0 + n ≡ n = omega arith in
        record {
          choice = record { which = y.place; pick = h.pick };
          next = h.next;
          turn = record {
            number = n;
            body = o.belongs.body;
            before = o.task;
            after = stopping.0;
            selects = ap (slice_get (ready_from 0 net.tasks)) (mod-eq_of_lt (slice_get_within (ready_from 0 net.tasks) y.place (0 + n) y.is)) ∙ y.is ∙ ap Some number;
            has_body = o.belongs.code;
            has_task = o.has_task;
            stops = stopping.1;
            settles = h.settled;
          };
          ending = no_ending;
          comes = h.comes;
        }

    no_fork : (rest : Left) → its.rest ≡ rest → Stands d p procs k o.belongs.body stopping.0 rest no_processes empty_set → (ns : List ℕ) → stopping.0.wait ≡ W.Joins ns → ⊥
    no_fork rest e stands ns w = some_not x.branches x.same (subst (LeftPlaced procs (n + 1) (n + 1 + size o.belongs.term)) (e ∙ x.own_is) its.placed).0.1
      where
        x : JoinsAs d p procs k o.belongs.body stopping.0 rest no_processes empty_set ns
        x = joins_as d p procs k o.belongs.body stopping.0 rest no_processes empty_set ns stands w

        some_not : (bs : Branches) → SameNumbers bs no_processes → AreSome bs → ⊥
        some_not no_branches a b = absurd b
        some_not (and_branch i u bs) a b = absurd a

    arriving : {x : Option Communication} {e : System} → MeetsAtMost p.errors n mid x e → (rest : Left) → its.rest ≡ rest → Arrived d p procs k o.belongs.body stopping.0 rest → Taken k n net x e
    arriving {x = x} {e = e} met rest e' (arrived q stands) =
        let here_stands : Stands d p procs k o.belongs.body stopping.0 its.rest no_processes empty_set = subst (λ z. Stands d p procs k o.belongs.body stopping.0 z no_processes empty_set) (sym e') stands in
        let none : begun (status its.rest) ≡ no_processes = ap (λ z. begun (status z)) e' ∙ q in
        let now_state = turned d p procs k quantum n net.tasks f.proc f.store f.state t.own t.branches t.at o m.1 o.task stopping.0 refl o.has_task may (its_quantum d p procs protocol quantum same_quantum belongs_at k n 0 net sys f going o.task stopping.0 o.has_task may o.belongs.body o.belongs.code stopping.1 live) (its_stop d p procs protocol quantum same_quantum belongs_at k n 0 net sys f going o.task stopping.0 o.has_task may o.belongs.body o.belongs.code stopping.1 live) its here_stands in
        taken_by
        (happened d p procs protocol quantum k n 0 net sys o.task stopping.0 (put t.at its.rest no_processes) its.store (net.noted ++ fault_noted (status its.rest)) o.has_task f.quiet going f.bytes
        (subst (λ z. SystemTurn p.errors quantum n sys (system net.keyboard (put t.at its.rest z) its.store (net.noted ++ fault_noted (status its.rest)))) none (system_turns d p procs protocol quantum same_quantum belongs_at k n 0 net sys f going o.task stopping.0 o.has_task may o.belongs.body o.belongs.code stopping.1 live))
        (ap (λ z. net.noted ++ z) (stands_noted d p procs k o.belongs.body stopping.0 its.rest no_processes empty_set here_stands)) now_state
        (subst (λ z. MeetsAtMost p.errors n (system net.keyboard (put t.at its.rest z) its.store (net.noted ++ fault_noted (status its.rest))) x e) none met) (no_fork rest e' stands))
    arriving {x = x} {e = e} met rest e' (at_fork {ns = ns} {bs = bs} {j = j} w numbers go) =
        let forking : Process = put t.at (left (Forking bs) j) (branches_of bs) in
        let now_state = st d p procs protocol quantum same_quantum belongs_at k n 0 net sys f going o.task stopping.0 o.has_task may o.belongs.body o.belongs.code stopping.1 live bs j e' ns w numbers go in
        let now_quiet = fork_quiet d p procs protocol quantum same_quantum belongs_at k n 0 net sys f going o.task stopping.0 o.has_task may o.belongs.body o.belongs.code stopping.1 live bs j e' ns w numbers go in
        let met_there : MeetsAtMost p.errors n (system net.keyboard forking its.store (net.noted ++ [])) x e = subst (λ z. MeetsAtMost p.errors n (system net.keyboard (placed z) its.store (net.noted ++ fault_noted (status z))) x e) e' met in
        let now : Net = record (took_turn net n stopping.0) { tasks = with_branches p.bodies stopping.0.frame ns (took_turn net n stopping.0).tasks } in
        let only = alone_at met_there (λ y. meets_nobody d p procs k now forking its.store (net.noted ++ []) now_state now_quiet y) in
        let forked_there : Happened d p procs protocol quantum k n net (took_turn net n stopping.0) None (system net.keyboard forking its.store (net.noted ++ [])) =
        record {
          pick = 0;
          next = now;
          settled = settles (forks (set_same net.tasks n (Some o.task) (Some stopping.0) o.has_task) w);
          comes = record {
            follows = record { proc = forking; store = its.store; noted = net.noted ++ []; is = refl; state = now_state; quiet = now_quiet; bytes = f.bytes; faults = ap (λ z. net.noted ++ noted_at z) (sym w) };
            trace = sym (append-nil net.trace);
            turns = refl;
            fits = tt;
            output = λ c. sym (append-nil (net.output c));
            input = λ c. sym (append-nil (net.input c));
          };
        } in
        taken_by (subst (λ z. Happened d p procs protocol quantum k n net (took_turn net n stopping.0) x z) (sym only.1) (subst (λ z. Happened d p procs protocol quantum k n net (took_turn net n stopping.0) z (system net.keyboard forking its.store (net.noted ++ []))) (sym only.0) forked_there))

    comes_to : {x : Option Communication} {e : System} → MeetsAtMost p.errors n (system net.keyboard q' s' (f.noted ++ fault_noted stop')) x e → Taken k n net x e
    comes_to {x = x} {e = e} met = arriving (subst (λ z. MeetsAtMost p.errors n z x e) mid_is met) its.rest refl (arrives d p procs k o.belongs.body stopping.0 its.rest stopping.0.wait refl its.same)

  -- each turn of the system, with what it meets, is one of the network
  pub takes : (k n : ℕ) (net : Net) (sys mid after : System) (met : Option Communication) → Follows d p procs protocol quantum (suc k) net sys → SystemTurn p.errors quantum n sys mid → MeetsAtMost p.errors n mid met after → Taken k n net met after
  takes k n net sys mid after met f turn meets =
      let y = turn_parts (subst (λ z. SystemTurn p.errors quantum n z mid) f.is turn) in
      comes_to k n net sys f (subst (MayGo p.errors) f.faults y.may) y.after y.store y.stop y.turned (subst (λ z. MeetsAtMost p.errors n z met after) y.is meets)

-- ---- the whole run

-- as many turns as there are events, and some to spare
abbrev with_spare : List Event → ℕ → ℕ
with_spare [] spare = spare
with_spare (e ∷ es) spare = suc (with_spare es spare)

spared : (es : List Event) (spare : ℕ) → with_spare es spare ≡ length es + spare
spared [] spare = omega arith
spared (e ∷ es) spare = let same = spared es spare in omega (arith, same)

module _ (u : UnfoldedProgram) (p : Program) (quantum : ℕ) (kb : List ℕ) (w : IsWellFormed u) (lawful : Lawful u) (from : IsCompiledFrom u quantum p) (bytes : AreBytes kb) where
  abbrev pub Followed_to : ℕ → Net → Type 0
  Followed_to k net = AllFollowed u p quantum kb w lawful from bytes k net

  abbrev pub Next_to : ℕ → ℕ → Net → Net → Option Communication → System → Type 0
  Next_to k n net next met after = Comes (declared u) p (processes_of (meaning u)) (keyboard_protocol u w) quantum k n net next met after

  -- the run goes on by a turn
  abbrev pub further : (k n : ℕ) (net next : Net) (x : Followed_to (suc k) net) (met : Option Communication) (between after : System) → SystemTurn p.errors quantum n x.now between → MeetsAtMost p.errors n between met after → Next_to k n net next met after → Followed_to k next
  further k n net next x met between after turn meets c =
      record {
        events = x.events ++ event n met ∷ [];
        now = after;
        run = run_more x.run turn meets;
        turns = turns_more x.events n met ∙ ap (λ l. l ++ n ∷ []) x.turns ∙ sym c.turns;
        communicates = met_more x.events n met ∙ ap (λ l. l ++ listed met) x.communicates ∙ sym c.trace;
        follows = c.follows;
        fits = subst (FitAll (declared u).protocols) (sym c.trace) (fit_append (declared u).protocols net.trace (listed met) x.fits c.fits);
        output = λ i. c.output i ∙ ap (λ l. l ++ messages_on i (listed met)) (x.output i) ∙ sym (on-append i net.trace (listed met)) ∙ ap (messages_on i) (sym c.trace);
        input = λ i. c.input i ∙ ap (λ l. l ++ messages_on i (listed met)) (x.input i) ∙ sym (on-append i net.trace (listed met)) ∙ ap (messages_on i) (sym c.trace);
      }

  abbrev run_of : (k : ℕ) (net : Net) → Followed_to k net → Followed u kb quantum p.errors net
  run_of k net x = followed_by u p quantum kb w lawful from bytes k net x

  along : {now last : System} {es : List Event} → Run p.errors quantum now es last → (spare : ℕ) (cs : List Choice) (net : Net) (x : Followed_to (with_spare es spare) net) → x.now ≡ now → Replays p kb cs net
      → (before : List System) → Accompanies u p quantum kb cs net x.events before x.now → length cs ≡ length x.events → with_spare es spare + length x.events + 1 ≡ 2 ^ 64 → IsOfChoices u p quantum kb (x.events ++ es) last
  along no_turn spare cs net x q replays before a many exact =
      record { choices = cs; net = net; replays = replays; one = record { follows = run_of spare net x; before = before; accompanies = a }; same = sym (append-nil x.events); here = q; as_many = many ∙ ap length (sym (append-nil x.events)) }
  along {last = last} (goes {n = n} {x = met} {b = between} {c = after} {es = es} turn meets rest) spare cs net x q replays before a many exact =
      let its_turn : SystemTurn p.errors quantum n x.now between = subst (λ z. SystemTurn p.errors quantum n z between) (sym q) turn in
      let t = takes (declared u) p (processes_of (meaning u)) (keyboard_protocol u w) quantum from.quanta (belongs u p quantum kb w lawful from bytes) (with_spare es spare) n net x.now between after met x.follows its_turn meets in
      let y : Followed_to (with_spare es spare) t.next = further (with_spare es spare) n net t.next x met between after its_turn meets t.comes in
      let one_more : length (x.events ++ event n met ∷ []) ≡ length x.events + 1 = length-append x.events (event n met ∷ []) in
      let exactly : with_spare es spare + length (x.events ++ event n met ∷ []) + 1 ≡ 2 ^ 64 = omega (arith, exact, one_more) in
      let more = after_turn (event n met) a t.turn (goes its_turn meets no_turn) (is_moment u p quantum kb w lawful from bytes (with_spare es spare) t.next y exactly) in
      let as_many : length (cs ++ t.choice ∷ []) ≡ length (x.events ++ event n met ∷ []) = length-append cs (t.choice ∷ []) ∙ ap (λ (i : ℕ). i + 1) many ∙ sym one_more in
      subst (λ l. IsOfChoices u p quantum kb l last) (append_assoc x.events (event n met ∷ []) es) (along rest spare (cs ++ t.choice ∷ []) t.next y refl (replays_on replays t.ending t.turn) (before ++ x.now ∷ []) more as_many exactly)

pub runs_are_replays : RunsAreReplays
runs_are_replays u p quantum kb events last w lawful from bytes few run =
    let spare : ℕ = 2 ^ 64 - 1 - length events in
    let same = spared events spare in
    let all : with_spare events spare + 0 + 1 ≡ 2 ^ 64 = omega (arith, few, same) in
    let within : with_spare events spare < 2 ^ 64 = omega (arith, few, same) in
    let x = first_followed u p quantum kb w lawful from bytes (with_spare events spare) within in
    along u p quantum kb w lawful from bytes run spare [] (first_net p kb) x refl begins []
    (at_start (is_moment u p quantum kb w lawful from bytes (with_spare events spare) (first_net p kb) x all)) refl all

-- ---- what of all lists of choices is so of all runs

ended_at : (o : Option Ending) (ending : Ending) → or_limit o ≡ ending → (ending ≡ Limit → ⊥) → o ≡ Some ending
ended_at None ending e f = absurd (f (sym e))
ended_at (Some x) ending e f = ap Some e

pub ended_runs_are_replays : EndedRunsAreReplays
ended_runs_are_replays u p quantum kb events last ending w lawful from bytes few run ends going =
    let x = runs_are_replays u p quantum kb events last w lawful from bytes few run in
    let same : or_limit (ending_of p.errors x.net) ≡ ending = one_ending p.errors last (or_limit (ending_of p.errors x.net)) ending (subst (λ z. EndsBy p.errors z (or_limit (ending_of p.errors x.net))) x.here x.one.follows.ends) ends in
    record {
      choices = x.choices;
      net = x.net;
      replays = x.replays;
      ends = ended_at (ending_of p.errors x.net) ending same going;
      communicates = sym x.one.follows.communicates ∙ ap communications x.same;
      as_many = x.as_many;
    }

-- the first turns of a run are a run
record Begun (errors : Errors) (quantum : ℕ) (a : System) (many : ℕ) : Type 0 where
  pub events : List Event
  pub system : System
  pub run : Run errors quantum a events system
  pub is : length events ≡ many

begun_by : {errors : Errors} {quantum : ℕ} {a b : System} {es : List Event} → Run errors quantum a es b → (many : ℕ) → many ≤ length es → Begun errors quantum a many
begun_by run zero h = record { events = []; system = _; run = no_turn; is = refl }
begun_by no_turn (suc many) h = absurd (omega (arith, h))
begun_by (goes {n = n} {x = x} turn meets rest) (suc many) h =
    let y = begun_by rest many (omega (arith, h)) in
    record { events = event n x ∷ y.events; system = y.system; run = goes turn meets y.run; is = ap suc y.is }

pub runs_are_as_short : RunsAreAsShort
runs_are_as_short u p quantum kb most w lawful from bytes few within events last run = by (cases_lt most (length events))
  where
    no_more : most + 1 ≤ length events → ⊥
    no_more h =
        let y = begun_by run (most + 1) h in
        let many : length y.events ≡ most + 1 = y.is in
        let x = runs_are_replays u p quantum kb y.events y.system w lawful from bytes (subst (λ i. i < 2 ^ 64) (sym many) few) y.run in
        let bound = within x.choices x.net x.replays in
        let as_many = x.as_many in
        omega (arith, many, bound, as_many)

    by : (most < length events) ⊎ (length events ≤ most) → length events ≤ most
    by (inl h) = absurd (no_more (omega (arith, h)))
    by (inr h) = h
