-- A process is at its end, and another one may have waited for it.
use Rattle.std.proofs.Common.{◌≡◌, ◌∙◌, refl, sym, ap, subst, true, false, IsTrue, ℕ, ◌+◌, ◌⊎◌, inl, inr, List, Some, None, length, drop}
use Rattle.std.specs.Prelude.{slice_get, slice_set, remove}
use Rattle.std.specs.Option.{option_map_or}
use Rattle.std.proofs.lemmas.Option.{slice_get_within}
use mathlib.Core.Bool.{true≢false}
use Rattle.occ_term.specs.Frames.{Variables, is_held}
use Rattle.occ_machine.specs.SameStop.{IsRising, joined_with, ready_with}
use Rattle.occ_machine.specs.Compiled.{Program}
use Rattle.occ_machine.specs.declared.task.Task.{Task}
use Rattle.occ_machine.specs.declared.task.Wait.{Wait}
use Rattle.occ_machine.specs.declared.task.Wait.TheVariants as W
use Rattle.occ_net_replay.specs.Replay.{Net, Tasks, HasTask, AreDone, ended, first_noted, may_go, made_ready, merged, with_task, joins, settles}
use Rattle.occ_net_replay.proofs.Tables.{set_same, set_other, set_back, same_or_not, task_once}
use Rattle.occ_net_replay.proofs.Settling.{done_among}
use Rattle.occ_net_tables.specs.declared.tables.Tables.{Tables}
use Rattle.occ_net_tables.specs.Holding.{AreTrue, AreCounted, IsOrdinary, Sized, is_over, joins_on, undone}
use Rattle.occ_net_tables.specs.Settling.{Mid, SettlesTo, Joining, JoinsBranches}
use Rattle.occ_net_tables.specs.Keys.{entry_in}
use Rattle.occ_net_tables.proofs.Between.{Nobody, as_after, entry_there, kept_quiet, no_entry, now, stays_as, there_old, waiting_net, waiting_old}
use Rattle.occ_net_tables.proofs.Keys.{all_length}
use Rattle.occ_net_tables.proofs.OneChange.{either_way, set_length, set_within, true_as}
use Rattle.occ_net_tables.proofs.ReadyLists.{ready_rising}
use Rattle.occ_net_tables.proofs.Steps.{rejoins, rest_done}
use Rattle.occ_net_tables.proofs.Undone.{done_zero, one_less, undone_same, undone_zero}

pub joins_is : (w : Wait) (i : ℕ) → IsTrue (joins_on w i) → (ns : List ℕ) × (w ≡ W.Joins ns) × IsTrue (is_held ns i)
joins_is W.Ready i h = absurd (true≢false (sym h))
joins_is (W.Took arm is m) i h = absurd (true≢false (sym h))
joins_is (W.Offers d m) i h = absurd (true≢false (sym h))
joins_is (W.Awaits d) i h = absurd (true≢false (sym h))
joins_is (W.Chooses pri arms) i h = absurd (true≢false (sym h))
joins_is (W.Joins ns) i h = (ns, refl, h)
joins_is W.Halted i h = absurd (true≢false (sym h))
joins_is W.Done i h = absurd (true≢false (sym h))
joins_is (W.Faulted e) i h = absurd (true≢false (sym h))

module _ (p : Program) (kb : List ℕ) (old : Tables) (number place : ℕ) (after : Task) (net : Net) (mid : Mid p kb old number place after net) (w : after.wait ≡ W.Done) where
  abbrev ended_task : Task
  ended_task = ready_with (made_ready after) W.Done

  abbrev pub then_done : Tasks
  then_done = slice_set old.tasks.items number (Some ended_task)

  here : HasTask old.tasks.items number (made_ready after)
  here = there_old p kb old number place after net mid

  here_done : HasTask then_done number ended_task
  here_done = set_same old.tasks.items number (Some (made_ready after)) (Some ended_task) here

  over_before : is_over old.tasks.items number ≡ false
  over_before = ap (λ z. option_map_or ended z false) here

  over_then : is_over then_done number ≡ true
  over_then = ap (λ z. option_map_or ended z false) here_done

  over_other : (i : ℕ) → (i ≡ number → ⊥) → is_over old.tasks.items i ≡ is_over then_done i
  over_other i n = ap (λ z. option_map_or ended z false) (sym (set_other old.tasks.items number i (Some ended_task) n))

  -- ---- who waited for it

  pub record Parent (m : ℕ) : Type 0 where
    pub task : Task
    pub branches : List ℕ
    pub there : HasTask old.tasks.items m task
    pub waits : task.wait ≡ W.Joins branches
    pub among : IsTrue (is_held branches number)
    pub apart : m ≡ number → ⊥
    pub count : slice_get old.unfinished.items m ≡ Some (undone old.tasks.items branches)
    pub less : undone old.tasks.items branches ≡ undone then_done branches + 1

  pub parent_of : (m : ℕ) → entry_in old.parents.items number ≡ Some m → Parent m
  parent_of m e =
      let x = mid.sound.joins.sound number m (entry_there old.parents.items number m e) in
      let q = joins_is x.task.wait number x.is in
      let rising : IsRising q.0 = subst IsOrdinary q.1 (mid.sound.ordinary m x.task x.there) in
      record {
        task = x.task;
        branches = q.0;
        there = x.there;
        waits = q.1;
        among = q.2;
        apart = (waiting_old p kb old number place after net mid m x.task x.there (ap may_go q.1)).0;
        count = mid.sound.counted m x.task q.0 x.there q.1;
        less = one_less old.tasks.items then_done number q.0 rising q.2 over_before over_then over_other;
      }

  -- processes that do not wait for it count as before
  undone_still : (ns : List ℕ) → is_held ns number ≡ false → undone old.tasks.items ns ≡ undone then_done ns
  undone_still ns h = undone_same old.tasks.items then_done ns (λ i m. over_other i (λ e. true≢false (sym m ∙ ap (is_held ns) e ∙ h)))

  waits_then : (m : ℕ) (t : Task) (ns : List ℕ) → HasTask then_done m t → t.wait ≡ W.Joins ns → HasTask old.tasks.items m t
  waits_then m t ns h e = by (set_back old.tasks.items number m here h)
    where
      by : ((m ≡ number) × (t ≡ ended_task)) ⊎ ((m ≡ number → ⊥) × HasTask old.tasks.items m t) → HasTask old.tasks.items m t
      by (inl q) = let r : W.Done ≡ W.Joins ns = sym (ap (λ z. z.wait) q.1) ∙ e in absurd cc
      by (inr q) = q.1

  stands_there : (m : ℕ) (t : Task) (ns : List ℕ) → HasTask old.tasks.items m t → t.wait ≡ W.Joins ns → IsTrue (is_held ns number) → slice_get old.parents.items number ≡ Some (Some m)
  stands_there m t ns h e q = mid.sound.joins.whole number m t h (ap (λ z. joins_on z number) e ∙ q)

  counted_alone : entry_in old.parents.items number ≡ None → AreCounted then_done old.unfinished.items
  counted_alone none m t ns h e = by (either_way (is_held ns number)) (waits_then m t ns h e)
    where
      by : (is_held ns number ≡ true) ⊎ (is_held ns number ≡ false) → HasTask old.tasks.items m t → slice_get old.unfinished.items m ≡ Some (undone then_done ns)
      by (inl q) g = absurd (no_entry old.parents.items number m none (stands_there m t ns g e q))
      by (inr q) g = mid.sound.counted m t ns g e ∙ ap Some (undone_still ns q)

  counted_less : (m : ℕ) → entry_in old.parents.items number ≡ Some m → (x : Parent m) → AreCounted then_done (slice_set old.unfinished.items m (undone then_done x.branches))
  counted_less m some x j t ns h e = by (same_or_not j m) (waits_then j t ns h e)
    where
      k : ℕ
      k = undone then_done x.branches

      by : (j ≡ m) ⊎ (j ≡ m → ⊥) → HasTask old.tasks.items j t → slice_get (slice_set old.unfinished.items m (undone then_done x.branches)) j ≡ Some (undone then_done ns)
      by (inl q) g =
          let same : t ≡ x.task = task_once old.tasks.items m (subst (λ z. HasTask old.tasks.items z t) q g) x.there in
          let list : x.branches ≡ ns = (let r = sym x.waits ∙ ap (λ z. z.wait) (sym same) ∙ e in cc) in
          ap (slice_get (slice_set old.unfinished.items m (undone then_done x.branches))) q
          ∙ set_within old.unfinished.items m (undone then_done x.branches) (slice_get_within old.unfinished.items m (undone old.tasks.items x.branches) x.count) ∙ ap (λ l. Some (undone then_done l)) list
      by (inr q) g = set_other old.unfinished.items m j (undone then_done x.branches) q ∙ mid.sound.counted j t ns g e ∙ ap Some (undone_still ns (apart (either_way (is_held ns number))))
        where
          apart : (is_held ns number ≡ true) ⊎ (is_held ns number ≡ false) → is_held ns number ≡ false
          apart (inl r) = absurd (q (let a = sym (stands_there j t ns g e r) ∙ entry_there old.parents.items number m some in cc))
          apart (inr r) = r

  -- what is kept beside the tasks
  pub true_then : (counts : List ℕ) → AreCounted then_done counts → AreTrue then_done (remove old.ready.items place) old.offering.items old.awaiting.items old.parents.items counts old.fault (first_noted net.noted)
  true_then counts counted =
      rest_done old.tasks.items old.ready.items old.offering.items old.awaiting.items old.parents.items old.unfinished.items old.fault mid.sound number (made_ready after) here refl place mid.at_place ended_task refl counts counted

  nobody : ((m : ℕ) (u : Task) (ns : List ℕ) → HasTask net.tasks m u → u.wait ≡ W.Joins ns → IsTrue (is_held ns number) → AreDone then_done ns → ⊥) → (pick : ℕ) → Nobody p kb old number place after net mid pick
  nobody g pick =
      record {
        offers = λ d x e. let q = sym w ∙ e in absurd cc;
        awaits = λ d e. let q = sym w ∙ e in absurd cc;
        unforked = λ ns e. let q = sym w ∙ e in cc;
        unjoined = λ e m u ns h v a done. g m u ns h v a (subst (λ l. AreDone l ns) (sym (as_after p kb old number place after net mid W.Done w)) done);
        unchosen = λ pri arms a e f. let q = sym w ∙ e in cc;
      }

  -- ---- nobody waited

  pub ends_alone : (new : Tables) (pick : ℕ) → entry_in old.parents.items number ≡ None → new.tasks.items ≡ then_done → new.used ≡ old.used → new.trace ≡ old.trace → new.ready.items ≡ remove old.ready.items place → new.offering.items ≡ old.offering.items → new.awaiting.items ≡ old.awaiting.items → new.parents.items ≡ old.parents.items → new.unfinished.items ≡ old.unfinished.items → new.fault ≡ old.fault → Sized p new → SettlesTo p kb pick number after net new
  ends_alone new pick none tasks used trace e1 e2 e3 e4 e5 e6 sized =
      stays_as p kb old number place after net mid new pick W.Done w
      (nobody (λ m u ns h v a done. no_entry old.parents.items number m none (stands_there m u ns (waiting_net p kb old number place after net mid m u h (ap may_go v)) v a)) pick) tasks used trace
      (kept_quiet p kb old number place after net mid new W.Done w refl (true_as tasks e1 e2 e3 e4 e5 e6 (true_then old.unfinished.items (counted_alone none)))) sized

  -- ---- another process waits for others as well

  pub ends_before : (new : Tables) (pick m : ℕ) (some : entry_in old.parents.items number ≡ Some m) (x : Parent m) → (undone then_done x.branches ≡ 0 → ⊥) → new.tasks.items ≡ then_done → new.used ≡ old.used → new.trace ≡ old.trace → new.ready.items ≡ remove old.ready.items place → new.offering.items ≡ old.offering.items → new.awaiting.items ≡ old.awaiting.items → new.parents.items ≡ old.parents.items → new.unfinished.items ≡ slice_set old.unfinished.items m (undone then_done x.branches) → new.fault ≡ old.fault → Sized p new → SettlesTo p kb pick number after net new
  ends_before new pick m some x more tasks used trace e1 e2 e3 e4 e5 e6 sized =
      stays_as p kb old number place after net mid new pick W.Done w (nobody others pick) tasks used trace
      (kept_quiet p kb old number place after net mid new W.Done w refl (true_as tasks e1 e2 e3 e4 e5 e6 (true_then (slice_set old.unfinished.items m (undone then_done x.branches)) (counted_less m some x)))) sized
    where
      others : (j : ℕ) (u : Task) (ns : List ℕ) → HasTask net.tasks j u → u.wait ≡ W.Joins ns → IsTrue (is_held ns number) → AreDone then_done ns → ⊥
      others j u ns h v a done =
          let g = waiting_net p kb old number place after net mid j u h (ap may_go v) in
          let at : j ≡ m = (let r = sym (stands_there j u ns g v a) ∙ entry_there old.parents.items number m some in cc) in
          let same : u ≡ x.task = task_once old.tasks.items m (subst (λ z. HasTask old.tasks.items z u) at g) x.there in
          let list : ns ≡ x.branches = (let r = sym v ∙ ap (λ z. z.wait) same ∙ x.waits in cc) in
          more (done_zero then_done x.branches (subst (AreDone then_done) list done))

  -- ---- another process goes on

  pub may_join : (m : ℕ) (some : entry_in old.parents.items number ≡ Some m) (x : Parent m) → undone then_done x.branches ≡ 0 → (between : Tables) → between.tasks.items ≡ then_done → between.ready.items ≡ remove old.ready.items place → Joining between m
  may_join m some x none between tasks ready =
      let there : HasTask then_done m x.task = set_other old.tasks.items number m (Some ended_task) x.apart ∙ x.there in
      let t = true_then (slice_set old.unfinished.items m (undone then_done x.branches)) (counted_less m some x) in
      record {
        task = x.task;
        there = ap (λ l. slice_get l m) tasks ∙ there;
        branches = x.branches;
        waits = x.waits;
        apart = by there (either_way (is_held x.branches m));
        rising = subst IsRising (sym (ready ∙ t.ready_is)) (ready_rising 0 then_done);
      }
    where
      by : HasTask then_done m x.task → (is_held x.branches m ≡ true) ⊎ (is_held x.branches m ≡ false) → is_held x.branches m ≡ false
      by there (inl q) =
          let over = done_among then_done x.branches (undone_zero then_done x.branches none) m q in
          let not : is_over then_done m ≡ false = ap (λ z. option_map_or ended z false) there ∙ ap (λ z. ended (Some (record x.task { wait = z }))) x.waits in
          absurd (true≢false (sym over ∙ not))
      by there (inr q) = q

  pub ends_join : (new between : Tables) (pick m : ℕ) (some : entry_in old.parents.items number ≡ Some m) (x : Parent m) → undone then_done x.branches ≡ 0 → between.tasks.items ≡ then_done → between.used ≡ old.used → between.trace ≡ old.trace → between.ready.items ≡ remove old.ready.items place → between.offering.items ≡ old.offering.items → between.awaiting.items ≡ old.awaiting.items → between.parents.items ≡ old.parents.items → between.unfinished.items ≡ slice_set old.unfinished.items m (undone then_done x.branches) → between.fault ≡ old.fault → ((t : Task) (ns : List ℕ) → HasTask between.tasks.items m t → t.wait ≡ W.Joins ns → JoinsBranches p between m t ns new) → SettlesTo p kb pick number after net new
  ends_join new between pick m some x none tasks used trace e1 e2 e3 e4 e5 e6 join =
      let there : HasTask between.tasks.items m x.task = ap (λ l. slice_get l m) tasks ∙ set_other old.tasks.items number m (Some ended_task) x.apart ∙ x.there in
      let g = join x.task x.branches there x.waits in
      let t = true_as tasks e1 e2 e3 e4 e5 e6 (true_then (slice_set old.unfinished.items m (undone then_done x.branches)) (counted_less m some x)) in
      let frame : Variables = merged p.bodies between.tasks.items x.branches x.task.frame in
      let s = rejoins between.tasks.items between.ready.items between.offering.items between.awaiting.items between.parents.items between.unfinished.items between.fault t m x.task there x.branches frame x.waits in
      let same : between.tasks.items ≡ (now p kb old number place after net mid).tasks = tasks ∙ as_after p kb old number place after net mid W.Done w in
      let there_now : HasTask (now p kb old number place after net mid).tasks m x.task = ap (λ l. slice_get l m) (sym same) ∙ there in
      let done : AreDone (now p kb old number place after net mid).tasks x.branches = subst (λ l. AreDone l x.branches) (sym tasks ∙ same) (undone_zero then_done x.branches none) in
      record {
        next = with_task (now p kb old number place after net mid) m (joined_with x.task (merged p.bodies (now p kb old number place after net mid).tasks x.branches x.task.frame));
        settles = settles (joins m there_now x.waits x.among done);
        holds = record {
          tasks = sym (g.tasks ∙ ap (λ l. slice_set l m (Some (joined_with x.task (merged p.bodies l x.branches x.task.frame)))) same);
          bytes = mid.bytes ∙ ap (λ n. drop n kb) (sym (g.used ∙ used));
          trace = mid.trace ∙ (sym (g.trace ∙ trace));
          sound = kept_quiet p kb old number place after net mid new W.Done w refl (true_as g.tasks g.ready (ap (λ z. z.items) g.offering) (ap (λ z. z.items) g.awaiting) g.parents (ap (λ z. z.items) g.unfinished) g.fault s);
          sized = record {
            tasks_are = ap length g.tasks ∙ set_length between.tasks.items m (Some (joined_with x.task frame)) ∙ ap length tasks ∙ set_length old.tasks.items number (Some ended_task) ∙ mid.sized.tasks_are;
            offering_is = ap (λ z. length z.items) g.offering ∙ ap length e2 ∙ mid.sized.offering_is;
            awaiting_is = ap (λ z. length z.items) g.awaiting ∙ ap length e3 ∙ mid.sized.awaiting_is;
            parents_are = ap length g.parents ∙ all_length x.branches None between.parents.items ∙ ap length e4 ∙ mid.sized.parents_are;
            unfinished_are = ap (λ z. length z.items) g.unfinished ∙ ap length e5 ∙ set_length old.unfinished.items m (undone then_done x.branches) ∙ mid.sized.unfinished_are;
          };
        };
      }
