-- A turn of a task is one of its process, up to the stop.
use Rattle.std.proofs.Common.{◌≡◌, ◌∙◌, refl, sym, ap, subst, IsTrue, IsFalse, ℕ, suc, ◌+◌, ◌<◌, ◌^◌, ◌⊎◌, inl, inr, List, Some, arith}
use Rattle.std.specs.Prelude.{slice_set}
use mathlib.Core.Bool.{true≢false}
use Rattle.occ_term.specs.Going.{IsGoing}
use Rattle.occ_term.specs.Frames.{Variables}
use Rattle.occ_term.specs.Processes.{Numbered}
use Rattle.occ_term.specs.StepUses.{IsPartOf, ChangesOnly, uses_of_left, uses_of_contexts}
use Rattle.occ_term.specs.Steps.{Doing, Do, Passing, Again, Offering, Awaiting, Choosing, Taking, Forking, Halted, Faulted, Done, Context, Left, left, status, status_of, is_ended}
use Rattle.occ_term.specs.System.{Process, Processes, no_processes, AllEnded, GoesFrom, alone, joined, begun}
use Rattle.occ_term.specs.TermTyping.{Declared}
use Rattle.occ_term.specs.Terms.{Term, Skip, Branches}
use Rattle.occ_term.specs.Turns.{Turn}
use Rattle.occ_term.specs.TypedSteps.{StoreHas, LeftHas}
use Rattle.occ_term.specs.Uses.{Numbers, empty_set, uses_of, uses_of_branches}
use Rattle.occ_term.specs.Values.{Store}
use Rattle.occ_term.proofs.KeptStores.{right_part, both_parts, no_part, whole_part}
use Rattle.occ_machine.specs.SameStop.{Agrees, Joined, SameStop, joined_with, numbers_of}
use Rattle.occ_machine.specs.Alike.{Alike}
use Rattle.occ_machine.specs.Compiled.{Program}
use Rattle.occ_machine.specs.Machine.{Body, Stopping}
use Rattle.occ_machine.specs.declared.task.Task.{Task}
use Rattle.occ_machine.specs.declared.task.Wait.{Wait}
use Rattle.occ_machine.specs.declared.task.Wait.TheVariants as W
use Rattle.occ_net_replay.specs.Replay.{Tasks, HasTask, may_go, is_done}
use Rattle.occ_net_replay.specs.Moments.{At, ProceedsBy, by_loop}
use Rattle.occ_net_replay.proofs.Changing.{put_holds}
use Rattle.occ_net_replay.proofs.Fewer.{one_less}
use Rattle.occ_net_replay.proofs.Holding.{AgreesBut, agrees_all, agrees_but, put, Stands, may_turn, may_join, offers, awaits, chooses, waits, is_halted, has_failed, has_ended, Own, AllHold}
use Rattle.occ_net_replay.proofs.OneStop.{stopping_once, stopping_counts}
use Rattle.occ_net_replay.proofs.Placed.{size, LeftPlaced, turn_placed}
use Rattle.occ_net_replay.proofs.Putting.{In, InAmong, in_put, put_in, mine_among, ended_inside}
use Rattle.occ_net_replay.proofs.States.{State, set_elsewhere, ended_done, going_is, there_again, root_put}
use Rattle.occ_net_replay.proofs.Tables.{set_same, set_back, task_once}
use Rattle.occ_net_replay.proofs.Turning.{part_of_part, turn_kept}

pub done_wait : (w : Wait) → IsTrue (is_done w) → w ≡ W.Done
done_wait W.Ready h = absurd (true≢false (sym h))
done_wait (W.Took arm is m) h = absurd (true≢false (sym h))
done_wait (W.Offers c m) h = absurd (true≢false (sym h))
done_wait (W.Awaits c) h = absurd (true≢false (sym h))
done_wait (W.Chooses pri arms) h = absurd (true≢false (sym h))
done_wait (W.Joins ns) h = absurd (true≢false (sym h))
done_wait W.Halted h = absurd (true≢false (sym h))
done_wait W.Done h = refl
done_wait (W.Faulted e) h = absurd (true≢false (sym h))

module _ (d : Declared) (p : Program) (procs : List Numbered) where
  -- what a turn has come to
  pub record Ran (k quantum n : ℕ) (tasks : Tasks) (body : Body) (term : Term) (own : Left) (ps : Processes) (s : Store) (after : Task) : Type 0 where
    pub from : Left
    pub rest : Left
    pub store : Store
    pub goes : GoesFrom own ps from
    pub turn : Turn quantum from s rest store
    pub typed : LeftHas d rest
    pub typed_store : StoreHas d store
    pub uses : IsPartOf (uses_of_left rest) (uses_of term)
    pub placed : LeftPlaced procs (n + 1) (n + 1 + size term) rest
    pub only : ChangesOnly (uses_of term).writes s store
    pub agrees : Agrees d body.cells after.frame store
    pub same : SameStop d (Alike k d body) after rest after.wait
    pub live : IsFalse (is_ended (status own))
    pub gone : (i : ℕ) → InAmong i ps → (u : Task) → HasTask tasks i u → u.wait ≡ W.Done

  -- what a turn from here has come to
  record RanFrom (k quantum n : ℕ) (body : Body) (term : Term) (from : Left) (s : Store) (after : Task) : Type 0 where
    pub rest : Left
    pub store : Store
    pub turn : Turn quantum from s rest store
    pub typed : LeftHas d rest
    pub typed_store : StoreHas d store
    pub uses : IsPartOf (uses_of_left rest) (uses_of term)
    pub placed : LeftPlaced procs (n + 1) (n + 1 + size term) rest
    pub only : ChangesOnly (uses_of term).writes s store
    pub agrees : Agrees d body.cells after.frame store
    pub same : SameStop d (Alike k d body) after rest after.wait

  ran_from : (k n : ℕ) (body : Body) (term : Term) (from : Left) (s : Store) (before after : Task) → Alike (suc k) d body before from → AgreesBut body.cells empty_set before.frame s → StoreHas d s → LeftHas d from → IsPartOf (uses_of_left from) (uses_of term) → LeftPlaced procs (n + 1) (n + 1 + size term) from → Stopping body before after → RanFrom k body.quantum n body term from s after
  ran_from k n body term from s before after al ag ts typed uses placed stops =
      let y = al s (agrees_all d body.cells before.frame s ts ag) in
      let same : y.after ≡ after = stopping_once body before y.after after y.stops stops in
      let kept = turn_kept d y.turn typed ts in
      record {
        rest = y.rest;
        store = y.store;
        turn = y.turn;
        typed = kept.typed;
        typed_store = kept.typed_store;
        uses = part_of_part (uses_of_left y.rest) (uses_of_left from) (uses_of term) kept.uses uses;
        placed = turn_placed procs (n + 1) (n + 1 + size term) y.turn placed;
        only = λ c h. kept.only c (λ w. h (uses.writes c w));
        agrees = subst (λ t. Agrees d body.cells t.frame y.store) same y.agrees;
        same = subst (λ t. SameStop d (Alike k d body) t y.rest t.wait) same y.same;
      }

  going_unended : (x : Doing) → IsGoing x → IsFalse (is_ended (status_of x))
  going_unended (Do t) h = refl
  going_unended (Passing l) h = refl
  going_unended (Again l) h = refl
  going_unended (Offering c m) h = absurd (true≢false (sym h))
  going_unended (Awaiting c list) h = refl
  going_unended (Choosing pri arms) h = refl
  going_unended (Taking xs what) h = refl
  going_unended (Forking bs) h = refl
  going_unended Halted h = refl
  going_unended (Faulted e) h = refl
  going_unended Done h = absurd (true≢false (sym h))

  -- the branches that have all ended have done tasks
  all_gone : (k : ℕ) (s : Store) (tasks : Tasks) (ps : Processes) → AllHold d p procs k s tasks ps → AllEnded ps → (i : ℕ) → InAmong i ps → (u : Task) → HasTask tasks i u → u.wait ≡ W.Done
  all_gone k s tasks ps h e i x u there =
      let y = mine_among d p procs k s tasks x.at h in
      let same : y.0.task ≡ u = task_once tasks i y.0.has_task there in
      done_wait u.wait (subst (λ t. IsTrue (is_done t.wait)) same (ended_done d p procs k y.0.belongs.body y.0.task x.own x.branches y.0.but y.0.stands (ended_inside x.at e)))

  -- how a process that may go on does
  pub data Begins (k : ℕ) (body : Body) (t : Task) : Left → Processes → Numbers → Type 0 where
    begins_alone : {x : Doing} {j : List Context} → IsGoing x → Alike k d body t (left x j) → Begins k body t (left x j) no_processes empty_set
    begins_joined : {bs : Branches} {j : List Context} {ps : Processes} → AllEnded ps → Alike k d body t (left (Do Skip) j) → Begins k body t (left (Forking bs) j) ps empty_set

  pub begins_as : (k : ℕ) (body : Body) (t : Task) (own : Left) (ps : Processes) (but : Numbers) → Stands d p procs k body t own ps but → IsTrue (may_go t.wait) → Begins k body t own ps but
  begins_as k body t own ps but (may_turn g h y a) m = begins_alone h a
  begins_as k body t own ps but (may_join g n e a) m = begins_joined e a
  begins_as k body t own ps but (offers w a) m = absurd (going_is t.wait m _ w refl)
  begins_as k body t own ps but (awaits w a) m = absurd (going_is t.wait m _ w refl)
  begins_as k body t own ps but (chooses w a) m = absurd (going_is t.wait m _ w refl)
  begins_as k body t own ps but (waits w n e a) m = absurd (going_is t.wait m _ w refl)
  begins_as k body t own ps but (is_halted w) m = absurd (going_is t.wait m _ w refl)
  begins_as k body t own ps but (has_failed w) m = absurd (going_is t.wait m _ w refl)
  begins_as k body t own ps but (has_ended w) m = absurd (going_is t.wait m _ w refl)

  ran_by : (k quantum n : ℕ) (tasks : Tasks) (body : Body) (term : Term) (own : Left) (ps : Processes) (but : Numbers) (s : Store) (before after : Task) → Begins (suc k) body before own ps but → AgreesBut body.cells but before.frame s → StoreHas d s → LeftHas d own → IsPartOf (uses_of_left own) (uses_of term) → LeftPlaced procs (n + 1) (n + 1 + size term) own → AllHold d p procs (suc k) s tasks ps → body.quantum ≡ quantum → Stopping body before after → Ran k quantum n tasks body term own ps s after
  ran_by k quantum n tasks body term own ps but s before after (begins_alone {x = x} {j = j} h al) ag ts typed uses placed all q stops =
      let r = ran_from k n body term (left x j) s before after al ag ts typed uses placed stops in
      record { from = left x j; rest = r.rest; store = r.store; goes = alone; turn = subst (λ z. Turn z (left x j) s r.rest r.store) q r.turn; typed = r.typed; typed_store = r.typed_store; uses = r.uses; placed = r.placed; only = r.only; agrees = r.agrees; same = r.same; live = going_unended x h; gone = λ i y. elim y.at [ ] }
  ran_by k quantum n tasks body term own ps but s before after (begins_joined {bs = bs} {j = j} e al) ag ts typed uses placed all q stops =
      let whole = uses_of_left (left (Forking bs) j) in
      let part : IsPartOf (uses_of_left (left (Do Skip) j)) whole = both_parts (uses_of Skip) (uses_of_contexts j) whole (no_part whole) (right_part (uses_of_branches bs) (uses_of_contexts j) whole (whole_part whole)) in
      let r = ran_from k n body term (left (Do Skip) j) s before after al ag ts (tt, typed.1) (part_of_part (uses_of_left (left (Do Skip) j)) whole (uses_of term) part uses) (tt, placed.1) stops in
      record { from = left (Do Skip) j; rest = r.rest; store = r.store; goes = joined e; turn = subst (λ z. Turn z (left (Do Skip) j) s r.rest r.store) q r.turn; typed = r.typed; typed_store = r.typed_store; uses = r.uses; placed = r.placed; only = r.only; agrees = r.agrees; same = r.same; live = refl; gone = all_gone (suc k) s tasks ps all e }

  -- ---- at the stop

  pub data Arrived (k : ℕ) (body : Body) (t : Task) : Left → Type 0 where
    arrived : {r : Left} → begun (status r) ≡ no_processes → Stands d p procs k body t r no_processes empty_set → Arrived k body t r
    at_fork : {ns : List ℕ} {bs : Branches} {j : List Context}
        → t.wait ≡ W.Joins ns → numbers_of bs ≡ ns
        → ((g : Variables) → Joined (uses_of_branches bs).writes t.frame g → Alike k d body (joined_with t g) (left (Do Skip) j)) → Arrived k body t (left (Forking bs) j)

  pub arrives : (k : ℕ) (body : Body) (t : Task) (r : Left) (w : Wait) → t.wait ≡ w → SameStop d (Alike k d body) t r w → Arrived k body t r
  arrives k body t r W.Ready e (j, l, q, g) = subst (Arrived k body t) (sym q) (arrived refl (may_turn (ap may_go e) refl (subst (λ x. ProceedsBy x (Again l)) (sym e) by_loop) (subst (Alike k d body t) q g)))
  arrives k body t r (W.Took arm is m) e h = absurd h
  arrives k body t r (W.Offers c m) e (j, q, g) = subst (Arrived k body t) (sym q) (arrived refl (offers e g))
  arrives k body t r (W.Awaits c) e (j, list, q, g) = subst (Arrived k body t) (sym q) (arrived refl (awaits e g))
  arrives k body t r (W.Chooses pri arms) e (j, es, q, g) = subst (Arrived k body t) (sym q) (arrived refl (chooses e g))
  arrives k body t r (W.Joins ns) e (j, bs, q, n, g) = subst (Arrived k body t) (sym q) (at_fork e n g)
  arrives k body t r W.Halted e (j, q) = subst (Arrived k body t) (sym q) (arrived refl (is_halted e))
  arrives k body t r W.Done e (j, q) = subst (Arrived k body t) (sym q) (arrived refl (has_ended e))
  arrives k body t r (W.Faulted x) e (j, q) = subst (Arrived k body t) (sym q) (arrived refl (has_failed e))

  -- ---- the state after a turn that does not end at a fork

  module _ (k quantum n : ℕ) (tasks : Tasks) (proc : Process) (s : Store) (st : State d p procs (suc k) tasks proc s) (own : Left) (ps : Processes) (x : At n own ps proc) (o : Own d p procs (suc k) s tasks n own ps) (all : AllHold d p procs (suc k) s tasks ps) (before after : Task) (same : o.task ≡ before) (there : HasTask tasks n before) (may : IsTrue (may_go before.wait)) (q : o.belongs.body.quantum ≡ quantum) (stops : Stopping o.belongs.body before after) where
    pub ran : Ran k quantum n tasks o.belongs.body o.belongs.term own ps s after
    ran =
        ran_by k quantum n tasks o.belongs.body o.belongs.term own ps o.but s before after
        (begins_as (suc k) o.belongs.body before own ps o.but (subst (λ t. Stands d p procs (suc k) o.belongs.body t own ps o.but) same o.stands) may)
        (subst (λ t. AgreesBut o.belongs.body.cells o.but t.frame s) same o.agrees) st.typed_store o.typed o.uses o.placed all q stops

    abbrev now : Tasks
    now = slice_set tasks n (Some after)

    pub small_now : (i : ℕ) (t : Task) → HasTask now i t → t.turns + k < 2 ^ 64
    small_now i t h = by (set_back tasks n i there h)
      where
        by : ((i ≡ n) × (t ≡ after)) ⊎ ((i ≡ n → ⊥) × HasTask tasks i t) → t.turns + k < 2 ^ 64
        by (inl e) =
            let counted = stopping_counts o.belongs.body before after stops in
            let old = st.small n before there in
            subst (λ z. z.turns + k < 2 ^ 64) (sym e.1) (omega (arith, counted, old))
        by (inr e) = let old = st.small i t e.1 in omega (arith, old)

    -- where the process is put as it is now, with these branches
    pub live_now : (r : Ran k quantum n tasks o.belongs.body o.belongs.term own ps s after) (next : Left) (others : Processes) (i : ℕ) (t : Task) → HasTask now i t → In i (put x next others) ⊎ (t.wait ≡ W.Done)
    live_now r next others i t h = by (set_back tasks n i there h)
      where
        old : HasTask tasks i t → In i (put x next others) ⊎ InAmong i ps → In i (put x next others) ⊎ (t.wait ≡ W.Done)
        old f (inl y) = inl y
        old f (inr y) = inr (r.gone i y t f)

        was : HasTask tasks i t → In i proc ⊎ (t.wait ≡ W.Done) → In i (put x next others) ⊎ (t.wait ≡ W.Done)
        was f (inl y) = old f (in_put next others x y.at)
        was f (inr e) = inr e

        by : ((i ≡ n) × (t ≡ after)) ⊎ ((i ≡ n → ⊥) × HasTask tasks i t) → In i (put x next others) ⊎ (t.wait ≡ W.Done)
        by (inl e) = inl (subst (λ z. In z (put x next others)) (sym e.0) (put_in next others x))
        by (inr e) = was e.1 (st.live i t e.1)

    pub turned : (r : Ran k quantum n tasks o.belongs.body o.belongs.term own ps s after) → Stands d p procs k o.belongs.body after r.rest no_processes empty_set → State d p procs k now (put x r.rest no_processes) r.store
    turned r stands =
        let own_now : Own d p procs k r.store now n r.rest no_processes =
        record {
          belongs = o.belongs;
          task = after;
          has_task = set_same tasks n (Some before) (Some after) there;
          but = empty_set;
          stands = stands;
          typed = r.typed;
          uses = r.uses;
          placed = r.placed;
          agrees = agrees_but d o.belongs.body.cells empty_set after.frame r.store r.agrees;
        } in
        record {
          root = root_put d p procs x r.rest no_processes ∙ st.root;
          holds = put_holds d p procs (suc k) k one_less s r.store tasks now n own r.rest ps no_processes o.belongs.term o.belongs.entry r.live r.only (set_elsewhere d p procs tasks n (n + 1 + size o.belongs.term) after (omega arith)) (own_now, tt) x st.holds;
          live = live_now r r.rest no_processes;
          small = small_now;
          typed_store = r.typed_store;
          full = λ j b e. there_again tasks n j (Some after) (st.full j b e);
        }
