-- Each replay of the code of a program is followed by a run of the program.
use Rattle.std.proofs.Common.{◌≡◌, ◌∙◌, refl, sym, ap, subst, IsTrue, ℕ, zero, suc, ◌+◌, ◌<◌, ◌^◌, List, [], ◌∷◌, ◌++◌, Some, None, length, map, arith, length-append}
use Rattle.std.proofs.lemmas.List.{length-map}
use Rattle.std.specs.Prelude.{slice_get, ◌-◌}
use Rattle.std.proofs.Math.Bridge.{le_prop}
use Rattle.std.proofs.Math.Nat.{ℕ_set}
use mathlib.Core.Bool.{true≢false}
use Rattle.occ_term.specs.declared.primitive.Primitive.TheVariants.{Byte}
use Rattle.occ_term.specs.declared.protocol.Protocol.TheVariants.{Simple}
use Rattle.occ_term.specs.Processes.{Numbered, numbered, processes_of}
use Rattle.occ_term.specs.Runs.{EndsBy, Event, event, Run, no_turn, goes, communications, messages_on}
use Rattle.occ_term.specs.System.{System, start, noted_in}
use Rattle.occ_term.specs.TermTyping.{Declared}
use Rattle.occ_term.specs.Terms.{Term, Branches, no_branches, and_branch}
use Rattle.occ_term.specs.UnfoldedProgram.{UnfoldedProgram, IsWellFormed, Lawful, meaning, declared}
use Rattle.occ_machine.specs.SameStop.{Agrees, SameStop}
use Rattle.occ_machine.specs.Alike.{Alike, DoesAs}
use Rattle.occ_machine.specs.Compiled.{Program, IsCompiledFrom, AllDo}
use Rattle.occ_machine.specs.Machine.{Body, Stopping}
use Rattle.occ_machine.specs.declared.task.Task.{Task}
use Rattle.occ_machine.specs.declared.task.Wait.TheVariants.{Joins}
use Rattle.occ_net_replay.specs.declared.choice.Choice.{Choice}
use Rattle.occ_net_replay.specs.Following.{AreBytes, Followed, NotedNeverEnd, OneNeverForks, ReplaysAreRuns, ReadyTasksStop, or_limit, process_in}
use Rattle.occ_net_replay.specs.Replay.{Net, HasTask, OneTurn, ending_of, may_go, Replays, begins, first_net, goes_on as replays_on}
use Rattle.occ_net_replay.specs.Moments.{At, DoesAhead, StandAlike, IsMoment, IsOneRun, Accompanies, OneFurther, OneRunForAll, ReplaysAreOneRun, RunsOfAll, at_start, after_turn, keyboard_in, main_process}
use Rattle.occ_net_replay.proofs.Moments.{goes_ahead, stand_alike}
use Rattle.occ_net_replay.proofs.Beginning.{first_follows, ends_as}
use Rattle.occ_net_replay.proofs.EndedRuns.{ended_clean}
use Rattle.occ_net_replay.proofs.Fewer.{alike_at_most}
use Rattle.occ_net_replay.proofs.Holding.{AgreesBut, agrees_all, Belongs, Stands, one_term}
use Rattle.occ_net_replay.proofs.Runs.{listed, run_more, met_more, turns_more, on-append, FitAll, fit_append, fit_on}
use Rattle.occ_net_replay.proofs.Settling.{Follows}
use Rattle.occ_net_replay.proofs.Sharing.{shares_store}
use Rattle.occ_net_replay.specs.Sharing.{ReplaysShareStore, SharesStore, store_of}
use Rattle.occ_net_replay.proofs.States.{live_at}
use Rattle.occ_net_replay.proofs.Placed.{AreSome, BranchesPlaced, LeftPlaced, size}
use Rattle.occ_net_replay.proofs.TakingTurns.{ran, Begins, begins_alone, begins_joined, begins_as}
use Rattle.occ_net_replay.proofs.Whole.{all_at, one_turn}

-- ---- what belongs to a process number

record DoesAt (d : Declared) (bs : List Body) (n i : ℕ) (q : Numbered) : Type 0 where
  pub body : Body
  pub code : slice_get bs i ≡ Some body
  pub does : DoesAs d body q.term

does_at : (d : Declared) (n : ℕ) (bs : List Body) (ps : List Numbered) (i : ℕ) (q : Numbered) → AllDo d n bs ps → slice_get ps i ≡ Some q → DoesAt d bs n i q
does_at d n [] [] i q h e = absurd cc
does_at d n [] (x ∷ ps) i q h e = absurd h
does_at d n (b ∷ bs) [] i q h e = absurd h
does_at d n (b ∷ bs) (x ∷ ps) zero q h e = let same : x ≡ q = cc in record { body = b; code = refl; does = subst (λ z. DoesAs d b z.term) same h.1 }
does_at d n (b ∷ bs) (x ∷ ps) (suc i) q h e = let y = does_at d (n + 1) bs ps i q h.2 e in record { body = y.body; code = y.code; does = y.does }

pub keyboard_protocol : (u : UnfoldedProgram) → IsWellFormed u → (declared u).protocols 0 ≡ Some (Simple [] Byte)
keyboard_protocol u w = ap (λ cs. slice_get (map (λ y. y.protocol) cs) 0) w.begins

-- the turn of the last choice can be counted too
for_one_more : (k : ℕ) (cs : List Choice) (c : Choice) → k + length (cs ++ c ∷ []) < 2 ^ 64 → suc k + length cs < 2 ^ 64
for_one_more k cs c small = omega (arith, small, length-append cs (c ∷ []))

module _ (u : UnfoldedProgram) (p : Program) (quantum : ℕ) (kb : List ℕ) (w : IsWellFormed u) (lawful : Lawful u) (from : IsCompiledFrom u quantum p) (bytes : AreBytes kb) where
  abbrev pub d : Declared
  d = declared u

  abbrev pub procs : List Numbered
  procs = processes_of (meaning u)

  pub belongs : (n : ℕ) (t : Term) → slice_get procs n ≡ Some (numbered n t) → Belongs d p procs n
  belongs n t e = let y = does_at d 0 p.bodies procs n (numbered n t) from.bodies e in record { term = t; body = y.body; entry = e; code = y.code; does = y.does }

  pub main_belongs : Belongs d p procs 0
  main_belongs = belongs 0 (meaning u) refl

  pub main_term : main_belongs.term ≡ meaning u
  main_term = one_term (sym main_belongs.entry)

  pub record AllFollowed (k : ℕ) (net : Net) : Type 0 where
    pub events : List Event
    pub now : System
    pub run : Run p.errors quantum (start (meaning u) kb) events now
    pub turns : map process_in events ≡ net.turns
    pub communicates : communications events ≡ net.trace
    pub follows : Follows d p procs (keyboard_protocol u w) quantum k net now
    pub fits : FitAll d.protocols net.trace
    pub output : (c : ℕ) → net.output c ≡ messages_on c net.trace
    pub input : (c : ℕ) → net.input c ≡ messages_on c net.trace

  -- the start
  abbrev pub first_followed : (k : ℕ) → k < 2 ^ 64 → AllFollowed k (first_net p kb)
  first_followed k few =
      record {
        events = [];
        now = start (meaning u) kb;
        run = no_turn;
        turns = refl;
        communicates = refl;
        follows = first_follows d p procs (keyboard_protocol u w) quantum k few kb (meaning u) bytes refl w.numbers lawful.branches w.typed main_belongs main_term;
        fits = tt;
        output = λ c. refl;
        input = λ c. refl;
      }

  pub all_followed : (cs : List Choice) (net : Net) (k : ℕ) → k + length cs < 2 ^ 64 → Replays p kb cs net → AllFollowed k net
  all_followed cs net k small begins = first_followed k (omega (arith, small))
  all_followed cs net k small (replays_on {cs = ds} {c = c} {a = a} r e o) =
      let bound : suc k + length ds < 2 ^ 64 = for_one_more k ds c small in
      let before = all_followed ds a (suc k) bound r in
      let x = one_turn d p procs (keyboard_protocol u w) quantum from.quanta belongs k c a net before.now before.follows e o in
      record {
        events = before.events ++ event o.number x.met ∷ [];
        now = x.after;
        run = run_more before.run x.turn x.meets_at;
        turns = turns_more before.events o.number x.met ∙ ap (λ l. l ++ o.number ∷ []) before.turns ∙ sym x.turns;
        communicates = met_more before.events o.number x.met ∙ ap (λ l. l ++ listed x.met) before.communicates ∙ sym x.trace;
        follows = x.follows;
        fits = subst (FitAll d.protocols) (sym x.trace) (fit_append d.protocols a.trace (listed x.met) before.fits x.fits);
        output = λ i. x.output i ∙ ap (λ l. l ++ messages_on i (listed x.met)) (before.output i) ∙ sym (on-append i a.trace (listed x.met)) ∙ ap (messages_on i) (sym x.trace);
        input = λ i. x.input i ∙ ap (λ l. l ++ messages_on i (listed x.met)) (before.input i) ∙ sym (on-append i a.trace (listed x.met)) ∙ ap (messages_on i) (sym x.trace);
      }

  abbrev pub followed_by : (k : ℕ) (net : Net) → AllFollowed k net → Followed u kb quantum p.errors net
  followed_by k net x =
      record { events = x.events; system = x.now; run = x.run; turns = x.turns; communicates = x.communicates; output = x.output; input = x.input; fits = λ c. fit_on d.protocols c net.trace x.fits; noted = ap noted_in x.follows.is ∙ x.follows.faults; ends = ends_as d p procs (keyboard_protocol u w) quantum k net x.now x.follows }

  from_start : (cs : List Choice) (net : Net) → length cs < 2 ^ 64 → Replays p kb cs net → AllFollowed 0 net
  from_start cs net small r = let bound : 0 + length cs < 2 ^ 64 = omega (arith, small) in all_followed cs net 0 bound r

  followed : (cs : List Choice) (net : Net) → length cs < 2 ^ 64 → Replays p kb cs net → Followed u kb quantum p.errors net
  followed cs net small r = followed_by 0 net (from_start cs net small r)

  shared : (cs : List Choice) (net : Net) → length cs < 2 ^ 64 → Replays p kb cs net → (f : Followed u kb quantum p.errors net) × SharesStore p net f.system
  shared cs net small r = let x = from_start cs net small r in (followed_by 0 net x, shares_store d p procs (keyboard_protocol u w) quantum belongs 0 net x.now x.follows)

  -- the turns of the replay are those of the run
  turns_counted : (k : ℕ) (net : Net) (x : AllFollowed k net) → length net.turns ≡ length x.events
  turns_counted k net x = ap length (sym x.turns) ∙ length-map x.events process_in

  -- as many turns as can be counted, and each number of turns below
  ahead : (k : ℕ) (net : Net) (x : AllFollowed k net) → k + length x.events + 1 ≡ 2 ^ 64 → DoesAhead u p net x.now
  ahead k net x exact n own next ps t turns at g there may few =
      let counted = turns_counted k net x in
      let all : k ≡ (k - turns) + turns = omega (arith, exact, counted, few) in
      let place = subst (λ z. At n own ps (main_process z)) x.follows.is at in
      let goes = goes_ahead d p procs k net.tasks x.follows.proc x.follows.store x.follows.state n own next ps t place g there may in (
        goes.0,
        goes.1,
        subst (λ z. Agrees d goes.0.cells t.frame (store_of z)) (sym x.follows.is) goes.2,
        alike_at_most (k - turns) turns d goes.0 t next (subst (λ j. Alike j d goes.0 t next) all goes.3),
      )

  pub is_moment : (k : ℕ) (net : Net) (x : AllFollowed k net) → k + length x.events + 1 ≡ 2 ^ 64 → IsMoment u p net x.now
  is_moment k net x exact =
      record {
        ahead = ahead k net x exact;
        alike = subst (λ z. StandAlike net.tasks (main_process z)) (sym x.follows.is) (stand_alike d p procs k net.tasks x.follows.proc x.follows.store x.follows.state);
        shares = shares_store d p procs (keyboard_protocol u w) quantum belongs k net x.now x.follows;
        keyboard = ap keyboard_in x.follows.is;
        noted = ap noted_in x.follows.is ∙ x.follows.faults;
        quiet = x.follows.quiet;
      }

  -- a turn for each choice
  events_counted : (cs : List Choice) (net : Net) (k : ℕ) (small : k + length cs < 2 ^ 64) (r : Replays p kb cs net) → length (all_followed cs net k small r).events ≡ length cs
  unfolding all_followed
  events_counted cs net k small begins = refl
  events_counted cs net k small (replays_on {cs = ds} {c = c} {a = a} r e o) =
      let bound : suc k + length ds < 2 ^ 64 = for_one_more k ds c small in
      let before = all_followed ds a (suc k) bound r in
      let x = one_turn d p procs (keyboard_protocol u w) quantum from.quanta belongs k c a net before.now before.follows e o in
      length-append before.events (event o.number x.met ∷ []) ∙ ap (λ (n : ℕ). n + 1) (events_counted ds a (suc k) bound r) ∙ sym (length-append ds (c ∷ []))

  exactly : (cs : List Choice) (net : Net) (k : ℕ) (small : k + length cs < 2 ^ 64) (r : Replays p kb cs net) → k + length cs + 1 ≡ 2 ^ 64 → k + length (all_followed cs net k small r).events + 1 ≡ 2 ^ 64
  exactly cs net k small r exact = subst (λ (n : ℕ). k + n + 1 ≡ 2 ^ 64) (sym (events_counted cs net k small r)) exact

  -- the turn of the last choice is one of those that can be counted
  one_earlier : (k : ℕ) (cs : List Choice) (c : Choice) → k + length (cs ++ c ∷ []) + 1 ≡ 2 ^ 64 → suc k + length cs + 1 ≡ 2 ^ 64
  one_earlier k cs c exact = omega (arith, exact, length-append cs (c ∷ []))

  accompanied : (cs : List Choice) (net : Net) (k : ℕ) (small : k + length cs < 2 ^ 64) (r : Replays p kb cs net) → k + length cs + 1 ≡ 2 ^ 64
      → (before : List System) × Accompanies u p quantum kb cs net (all_followed cs net k small r).events before (all_followed cs net k small r).now
  unfolding all_followed
  accompanied cs net k small begins exact =
      ([], at_start (is_moment k (first_net p kb) (all_followed [] (first_net p kb) k small begins) exact))
  accompanied cs net k small (replays_on {cs = ds} {c = c} {a = a} r e o) exact =
      let bound : suc k + length ds < 2 ^ 64 = for_one_more k ds c small in
      let before = all_followed ds a (suc k) bound r in
      let x = one_turn d p procs (keyboard_protocol u w) quantum from.quanta belongs k c a net before.now before.follows e o in
      let y = accompanied ds a (suc k) bound r (one_earlier k ds c exact) in
      let moment = is_moment k net (all_followed cs net k small (replays_on r e o)) (exactly cs net k small (replays_on r e o) exact) in
      (y.0 ++ before.now ∷ [], after_turn (event o.number x.met) y.1 o (goes x.turn x.meets_at no_turn) moment)

  abbrev one_run : (cs : List Choice) (net : Net) (k : ℕ) → k + length cs < 2 ^ 64 → k + length cs + 1 ≡ 2 ^ 64 → Replays p kb cs net → IsOneRun u p quantum kb cs net
  one_run cs net k small exact r = record { follows = followed_by k net (all_followed cs net k small r); before = (accompanied cs net k small r exact).0; accompanies = (accompanied cs net k small r exact).1 }

  -- ---- a run for each replay: the turns that it may still take are all that can be counted

  abbrev left_over : List Choice → ℕ
  left_over cs = 2 ^ 64 - 1 - length cs

  room : (cs : List Choice) → length cs < 2 ^ 64 → left_over cs + length cs < 2 ^ 64
  room cs few = omega (arith, few)

  all_room : (cs : List Choice) → length cs < 2 ^ 64 → left_over cs + length cs + 1 ≡ 2 ^ 64
  all_room cs few = omega (arith, few)

  abbrev run_at : (cs : List Choice) (net : Net) → length cs < 2 ^ 64 → Replays p kb cs net → IsOneRun u p quantum kb cs net
  run_at cs net few r = one_run cs net (left_over cs) (room cs few) (all_room cs few) r

  abbrev Further : {cs ds : List Choice} {a b : Net} → IsOneRun u p quantum kb cs a → IsOneRun u p quantum kb ds b → Type 0
  Further f g = OneFurther u p quantum kb f g

  next_run : (cs : List Choice) (c : Choice) (a b : Net) (k : ℕ) (s : suc k + length cs < 2 ^ 64) (x : suc k + length cs + 1 ≡ 2 ^ 64) (t : k + length (cs ++ c ∷ []) < 2 ^ 64) (y : k + length (cs ++ c ∷ []) + 1 ≡ 2 ^ 64)
      (r : Replays p kb cs a) (g : ending_of p.errors a ≡ None) (o : OneTurn p c a b) → Further (one_run cs a (suc k) s x r) (one_run (cs ++ c ∷ []) b k t y (replays_on r g o))
  unfolding all_followed accompanied
  next_run cs c a b k s x t y r g o =
      let bound : suc k + length cs < 2 ^ 64 = for_one_more k cs c t in
      let exact : suc k + length cs + 1 ≡ 2 ^ 64 = one_earlier k cs c y in
      let before = all_followed cs a (suc k) bound r in
      let z = one_turn d p procs (keyboard_protocol u w) quantum from.quanta belongs k c a b before.now before.follows g o in
      subst (λ i. Further (one_run cs a (suc k) i x r) (one_run (cs ++ c ∷ []) b k t y (replays_on r g o))) (le_prop bound s)
      (subst (λ i. Further (one_run cs a (suc k) bound i r) (one_run (cs ++ c ∷ []) b k t y (replays_on r g o))) (ℕ_set (suc k + length cs + 1) (2 ^ 64) exact x)
      (record { event = event o.number z.met; events = refl; systems = refl; turn = goes z.turn z.meets_at no_turn }))

  one_less : (cs : List Choice) (c : Choice) → length (cs ++ c ∷ []) < 2 ^ 64 → left_over cs ≡ suc (left_over (cs ++ c ∷ []))
  one_less cs c more = omega (arith, more, length-append cs (c ∷ []))

  further : (cs : List Choice) (c : Choice) (a b : Net) (few : length cs < 2 ^ 64) (more : length (cs ++ c ∷ []) < 2 ^ 64) (r : Replays p kb cs a) (g : ending_of p.errors a ≡ None) (o : OneTurn p c a b)
      → Further (run_at cs a few r) (run_at (cs ++ c ∷ []) b more (replays_on r g o))
  further cs c a b few more r g o =
      subst (λ j. (s : j + length cs < 2 ^ 64) (x : j + length cs + 1 ≡ 2 ^ 64) → Further (one_run cs a j s x r) (run_at (cs ++ c ∷ []) b more (replays_on r g o))) (sym (one_less cs c more))
      (λ s x. next_run cs c a b (left_over (cs ++ c ∷ [])) s x (room (cs ++ c ∷ []) more) (all_room (cs ++ c ∷ []) more) r g o) (room cs few) (all_room cs few)

  runs_of_all : RunsOfAll u p quantum kb
  runs_of_all = record { run_of = run_at; further = further }

  stop_of : (n : ℕ) (net : Net) (now : System) (body : Body) (t : Task) → Follows d p procs (keyboard_protocol u w) quantum 1 net now → slice_get p.bodies n ≡ Some body → HasTask net.tasks n t → IsTrue (may_go t.wait) → (after : Task) × Stopping body t after
  stop_of n net now body t f code there may =
      let l = live_at d p procs 1 net.tasks f.proc f.store n t f.state there (λ e. true≢false (sym may ∙ ap (λ z. may_go z) e)) in
      let same_body : l.mine.belongs.body ≡ body = one_body (sym l.mine.belongs.code ∙ code) in
      let x = by l.own l.branches l.mine.but (begins_as d p procs 1 l.mine.belongs.body t l.own l.branches l.mine.but (subst (λ z. Stands d p procs 1 l.mine.belongs.body z l.own l.branches l.mine.but) l.same l.mine.stands) may) (subst (λ z. AgreesBut l.mine.belongs.body.cells l.mine.but z.frame f.store) l.same l.mine.agrees) in
      (x.0, subst (λ b. Stopping b t x.0) same_body x.1)
    where
      one_body : {a b : Body} → Some a ≡ Some b → a ≡ b
      one_body e = cc

      by : {b : Body} (own : _) (ps : _) (but : _) → Begins d p procs 1 b t own ps but → AgreesBut b.cells but t.frame f.store → (after : Task) × Stopping b t after
      by {b} own ps but (begins_alone h al) ag = let y = al f.store (agrees_all d b.cells t.frame f.store f.state.typed_store ag) in (y.after, y.stops)
      by {b} own ps but (begins_joined e al) ag = let y = al f.store (agrees_all d b.cells t.frame f.store f.state.typed_store ag) in (y.after, y.stops)

  -- ---- one process

  one_program : (body : Body) (ps : List Numbered) → AllDo d 0 (body ∷ []) ps → (i : ℕ) (q : Numbered) → slice_get ps i ≡ Some q → i ≡ 0
  one_program body [] h i q e = absurd cc
  one_program body (x ∷ []) h zero q e = refl
  one_program body (x ∷ []) h (suc i) q e = absurd cc
  one_program body (x ∷ y ∷ ps) h i q e = absurd h.2

  no_branch : (n hi : ℕ) (bs : Branches) → ((i : ℕ) (q : Numbered) → slice_get procs i ≡ Some q → i ≡ 0) → BranchesPlaced procs (n + 1) hi bs → AreSome bs → ⊥
  no_branch n hi no_branches only b s = absurd s
  no_branch n hi (and_branch i t bs) only b s = let low = b.0 in let none = only i (numbered i t) b.1 in omega (arith, low, none)

  one_never_forks : (n : ℕ) (net : Net) (now : System) (body : Body) (t after : Task) (ns : List ℕ) → Follows d p procs (keyboard_protocol u w) quantum 1 net now → p.bodies ≡ body ∷ [] → HasTask net.tasks n t → IsTrue (may_go t.wait) → Stopping body t after → after.wait ≡ Joins ns → ⊥
  one_never_forks n net now body t after ns f one there may stops e =
      let l = live_at d p procs 1 net.tasks f.proc f.store n t f.state there (λ q. true≢false (sym may ∙ ap (λ z. may_go z) q)) in
      let here : n ≡ 0 = one_program body procs (subst (λ bs. AllDo d 0 bs procs) one from.bodies) n (numbered n l.mine.belongs.term) l.mine.belongs.entry in
      let same_body : l.mine.belongs.body ≡ body = one_body (sym l.mine.belongs.code ∙ ap (slice_get p.bodies) here ∙ ap (λ bs. slice_get bs 0) one) in
      let r = ran d p procs 0 quantum n net.tasks f.proc f.store f.state l.own l.branches l.at l.mine l.all t after l.same there may (all_at (λ b. b.quantum ≡ quantum) p.bodies n l.mine.belongs.body from.quanta l.mine.belongs.code) (subst (λ b. Stopping b t after) (sym same_body) stops) in
      let x : SameStop d (Alike 0 d l.mine.belongs.body) after r.rest (Joins ns) = subst (SameStop d (Alike 0 d l.mine.belongs.body) after r.rest) e r.same in
      let placed = subst (LeftPlaced procs (n + 1) (n + 1 + size l.mine.belongs.term)) x.2 r.placed in
      no_branch n (n + 1 + size l.mine.belongs.term) x.1 (one_program body procs (subst (λ bs. AllDo d 0 bs procs) one from.bodies)) placed.0.0 placed.0.1
    where
      one_body : {a b : Body} → Some a ≡ Some b → a ≡ b
      one_body q = cc

pub replays_are_runs : ReplaysAreRuns
replays_are_runs u p quantum kb cs net w lawful from bytes small r = followed u p quantum kb w lawful from bytes cs net small r

pub noted_never_end : NotedNeverEnd
noted_never_end u p quantum kb cs net w lawful from bytes small r e =
    let f = followed u p quantum kb w lawful from bytes cs net small r in
    sym f.noted ∙ ended_clean f.run (subst (λ z. EndsBy p.errors f.system (or_limit z)) e f.ends)

pub ready_tasks_stop : ReadyTasksStop
ready_tasks_stop u p quantum kb cs net n body t w lawful from bytes small r code there may =
    let x = all_followed u p quantum kb w lawful from bytes cs net 1 small r in
    stop_of u p quantum kb w lawful from bytes n net x.now body t x.follows code there may

pub one_never_forks_is : OneNeverForks
one_never_forks_is u p quantum kb cs net n body t after ns w lawful from bytes small r one there may stops e =
    let x = all_followed u p quantum kb w lawful from bytes cs net 1 small r in
    one_never_forks u p quantum kb w lawful from bytes n net x.now body t after ns x.follows one there may stops e

pub replays_share_store : ReplaysShareStore
replays_share_store u p quantum kb cs net w lawful from bytes small r = shared u p quantum kb w lawful from bytes cs net small r

pub replays_are_one_run : ReplaysAreOneRun
replays_are_one_run u p quantum kb cs net w lawful from bytes small r = run_at u p quantum kb w lawful from bytes cs net small r

pub one_run_for_all : OneRunForAll
one_run_for_all u p quantum kb w lawful from bytes = runs_of_all u p quantum kb w lawful from bytes
