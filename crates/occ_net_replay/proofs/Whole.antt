-- Each replay of the code of a program is followed by a run of the program.
use Rattle.std.proofs.Common.{◌≡◌, ◌∙◌, refl, sym, ap, subst, Bool, IsTrue, IsFalse, ℕ, suc, ◌+◌, ◌<◌, ◌^◌, ◌%◌, ◌⊎◌, inl, inr, List, [], ◌∷◌, ◌++◌, Some, None, length, arith, append-nil}
use Rattle.std.specs.Prelude.{All, slice_get}
use Rattle.std.proofs.lemmas.Option.{get_or_from_slice_get, slice_get_within}
use mathlib.Core.Bool.{true≢false}
use Rattle.occ_term.specs.declared.fault.Errors.{Errors}
use Rattle.occ_term.specs.declared.fault.Errors.TheVariants.{Halt, Stop}
use Rattle.occ_term.specs.declared.fault.Fault.{Fault}
use Rattle.occ_term.specs.declared.primitive.Primitive.TheVariants.{Byte}
use Rattle.occ_term.specs.declared.protocol.Protocol.TheVariants.{Simple}
use Rattle.occ_term.specs.Frames.{Variables, is_held}
use Rattle.occ_term.specs.Processes.{Numbered, numbered}
use Rattle.occ_term.specs.Runs.{meets_none}
use Rattle.occ_term.specs.Steps.{Do, Forking, Context, Left, left, status}
use Rattle.occ_term.specs.System.{no_processes, System, system, MayGo, begun, branches_of, fault_noted, SystemTurn, system_turn, AllEnded}
use Rattle.occ_term.specs.TermTyping.{Declared}
use Rattle.occ_term.specs.Terms.{Term, Skip, Branches, no_branches, and_branch}
use Rattle.occ_term.specs.Uses.{empty_set, uses_of_branches}
use Rattle.occ_machine.specs.SameStop.{Joined, joined_with, numbers_of}
use Rattle.occ_machine.specs.Alike.{Alike}
use Rattle.occ_machine.specs.Compiled.{Program}
use Rattle.occ_machine.specs.Machine.{Body, Stopping}
use Rattle.occ_machine.specs.declared.task.Task.{Task}
use Rattle.occ_machine.specs.declared.task.Wait.{Wait}
use Rattle.occ_machine.specs.declared.task.Wait.TheVariants as W
use Rattle.occ_net_replay.specs.declared.choice.Choice.{Choice}
use Rattle.occ_net_replay.specs.Replay.{Net, HasTask, may_go, ready_from, took_turn, with_branches, noted_at, first_noted, main_done, AreDone, ending_by, ending_of, OneTurn, Settled, settles, stays, meets, skips, forks, joins}
use Rattle.occ_net_replay.specs.Moments.{Quiet}
use Rattle.occ_net_replay.proofs.Faults.{part_waits, stands_noted}
use Rattle.occ_net_replay.proofs.Forks.{Branch, branch_or_old, outside, same_branches}
use Rattle.occ_net_replay.proofs.Holding.{SameNumbers, put, Belongs, Stands, Own}
use Rattle.occ_net_replay.proofs.Joining.{forked, JoinsAs, joins_as}
use Rattle.occ_net_replay.proofs.Merging.{all_ended}
use Rattle.occ_net_replay.proofs.Placed.{size, AreSome, LeftPlaced}
use Rattle.occ_net_replay.proofs.Putting.{mine, at_put, turn_put}
use Rattle.occ_net_replay.proofs.Quiet.{is_calm, still_not, done_at, done_map, done_is, done_has, done_still, quiet_again}
use Rattle.occ_net_replay.proofs.Settling.{Follows, Next, settle_next, done_among}
use Rattle.occ_net_replay.proofs.States.{IsThere, there_again, State, Live, live_at}
use Rattle.occ_net_replay.proofs.Still.{meets_nobody}
use Rattle.occ_net_replay.proofs.Tables.{set_same, set_other, same_or_not, task_once, ready_at}
use Rattle.occ_net_replay.proofs.TakingTurns.{Ran, ran, turned, small_now, Arrived, arrived, at_fork, arrives, done_wait}

-- ---- endings

may_take : (e : Errors) (noted : List Fault) (m : Bool) (r : List ℕ) → ending_by e (first_noted noted) m r ≡ None → MayGo e noted
may_take Halt [] m r e = refl
may_take Halt (x ∷ xs) m r e = cc
may_take Stop noted m r e = tt

joins_ready : (w : Wait) → IsTrue (may_go w) → w ≡ W.Done → ⊥
joins_ready w g e = true≢false (sym g ∙ ap may_go e)

one_body : {a b : Body} → Some a ≡ Some b → a ≡ b
one_body e = cc

pub all_at : {X : Type 0} (P : X → Type 0) (xs : List X) (i : ℕ) (x : X) → All P xs → slice_get xs i ≡ Some x → P x
all_at P xs i x h e = subst P (get_or_from_slice_get xs i x x e) (h i x (slice_get_within xs i x e))

module _ (d : Declared) (p : Program) (procs : List Numbered) (protocol : d.protocols 0 ≡ Some (Simple [] Byte)) (quantum : ℕ) (same_quantum : All (λ b. b.quantum ≡ quantum) p.bodies) (belongs_at : (n : ℕ) (t : Term) → slice_get procs n ≡ Some (numbered n t) → Belongs d p procs n) where
  -- ---- a turn

  module _ (k n pick : ℕ) (net : Net) (sys : System) (f : Follows d p procs protocol quantum (suc k) net sys) (going : MayGo p.errors net.noted) (before after : Task) (there : HasTask net.tasks n before) (may : IsTrue (may_go before.wait)) (body : Body) (has_body : slice_get p.bodies n ≡ Some body) (stop : Stopping body before after) (l : Live d p procs (suc k) net.tasks f.proc f.store n before) where
    pub its_quantum : l.mine.belongs.body.quantum ≡ quantum
    its_quantum = all_at (λ b. b.quantum ≡ quantum) p.bodies n l.mine.belongs.body same_quantum l.mine.belongs.code

    pub its_stop : Stopping l.mine.belongs.body before after
    its_stop = subst (λ b. Stopping b before after) (one_body (sym has_body ∙ l.mine.belongs.code)) stop

    pub r : Ran d p procs k quantum n net.tasks l.mine.belongs.body l.mine.belongs.term l.own l.branches f.store after
    r = ran d p procs k quantum n net.tasks f.proc f.store f.state l.own l.branches l.at l.mine l.all before after l.same there may its_quantum its_stop

    pub system_turns : SystemTurn p.errors quantum n sys (system net.keyboard (put l.at r.rest (begun (status r.rest))) r.store (net.noted ++ fault_noted (status r.rest)))
    system_turns =
        subst (λ x. SystemTurn p.errors quantum n x (system net.keyboard (put l.at r.rest (begun (status r.rest))) r.store (net.noted ++ fault_noted (status r.rest)))) (sym f.is)
        (subst (λ ns. SystemTurn p.errors quantum n (system net.keyboard f.proc f.store f.noted) (system net.keyboard (put l.at r.rest (begun (status r.rest))) r.store (ns ++ fault_noted (status r.rest)))) f.faults
        (system_turn (subst (MayGo p.errors) (sym f.faults) going) (turn_put l.at r.goes r.turn)))

    -- ---- a fork

    module _ (bs : Branches) (j : List Context) (is : r.rest ≡ left (Forking bs) j) (ns : List ℕ) (w : after.wait ≡ W.Joins ns) (numbers : numbers_of bs ≡ ns) (go : (g : Variables) → Joined (uses_of_branches bs).writes after.frame g → Alike k d l.mine.belongs.body (joined_with after g) (left (Do Skip) j)) where
      abbrev now : Net
      now = took_turn net n after

      abbrev new : Net
      new = record now { tasks = with_branches p.bodies after.frame ns now.tasks }

      pub st : State d p procs k new.tasks (put l.at (left (Forking bs) j) (branches_of bs)) r.store
      st = forked d p procs belongs_at k quantum n net.tasks f.proc f.store f.state l.own l.branches l.at l.mine l.all before after l.same there may its_quantum its_stop r bs j is ns w numbers go

      its_place : LeftPlaced procs (n + 1) (n + 1 + size l.mine.belongs.term) (left (Forking bs) j)
      its_place = subst (LeftPlaced procs (n + 1) (n + 1 + size l.mine.belongs.term)) is r.placed

      -- a task is a branch's, which may go on, or was there
      from : (i : ℕ) (t : Task) → HasTask new.tasks i t → IsTrue (may_go t.wait) ⊎ HasTask now.tasks i t
      from i t h = by (branch_or_old d p procs belongs_at after.frame k few bs (n + 1) (n + 1 + size l.mine.belongs.term) its_place.0.0 now.tasks full small i t (subst (λ z. HasTask (with_branches p.bodies after.frame z now.tasks) i t) (sym numbers) h))
        where
          small : (i : ℕ) (t : Task) → HasTask now.tasks i t → t.turns + k < 2 ^ 64
          small = small_now d p procs k quantum n net.tasks f.proc f.store f.state l.own l.branches l.at l.mine l.all before after l.same there may its_quantum its_stop

          few : k < 2 ^ 64
          few = let x = f.state.small n before there in omega (arith, x)

          full : (i : ℕ) (b : Body) → slice_get p.bodies i ≡ Some b → IsThere now.tasks i
          full i b e = there_again net.tasks n i (Some after) (f.state.full i b e)

          by : Branch d p procs belongs_at after.frame k i bs t ⊎ HasTask now.tasks i t → IsTrue (may_go t.wait) ⊎ HasTask now.tasks i t
          by (inl b) = inl b.ready
          by (inr e) = inr e

      was_there : (i : ℕ) (t : Task) → HasTask new.tasks i t → IsFalse (may_go t.wait) → HasTask now.tasks i t
      was_there i t h g = by (from i t h)
        where
          by : IsTrue (may_go t.wait) ⊎ HasTask now.tasks i t → HasTask now.tasks i t
          by (inl m) = absurd (true≢false (sym m ∙ g))
          by (inr e) = e

      other : (i : ℕ) (t : Task) → HasTask now.tasks i t → (i ≡ n → ⊥) → HasTask net.tasks i t
      other i t h e = sym (set_other net.tasks n i (Some after) e) ∙ h

      mine_now : HasTask now.tasks n after
      mine_now = set_same net.tasks n (Some before) (Some after) there

      its_task : (t : Task) → HasTask new.tasks n t → t ≡ after
      its_task t h = by (from n t h)
        where
          waiting : IsTrue (may_go t.wait) → t ≡ after
          waiting g = task_once new.tasks n h (subst (λ z. HasTask (with_branches p.bodies after.frame z now.tasks) n after) numbers (outside d p procs belongs_at after.frame bs (n + 1) (n + 1 + size l.mine.belongs.term) its_place.0.0 now.tasks n (inl (omega arith)) ∙ mine_now))

          by : IsTrue (may_go t.wait) ⊎ HasTask now.tasks n t → t ≡ after
          by (inl g) = waiting g
          by (inr e) = task_once now.tasks n e mine_now

      not_all : AreDone new.tasks ns → ⊥
      not_all h = none_of bs its_place.0.1 (all_ended d p procs k r.store new.tasks bs (branches_of bs) (same_branches bs) (mine d p procs k r.store new.tasks (at_put l.at (left (Forking bs) j) (branches_of bs)) st.holds).1 (subst (AreDone new.tasks) (sym numbers) h))
        where
          none_of : (bs : Branches) → AreSome bs → AllEnded (branches_of bs) → ⊥
          none_of no_branches s e = absurd s
          none_of (and_branch i t bs) s e = true≢false (sym e.0)

      fork_unjoined : (i : ℕ) (t : Task) (ms : List ℕ) → HasTask new.tasks i t → t.wait ≡ W.Joins ms → AreDone new.tasks ms → ⊥
      fork_unjoined i t ms h v all = by (same_or_not i n)
        where
          before_done : (q : ℕ) → IsTrue (is_held ms q) → IsTrue (done_at new.tasks q) → IsTrue (done_at net.tasks q)
          before_done q m e =
              let x = done_is new.tasks q e in
              let y = was_there q x.0 x.1 (done_still x.0.wait x.2) in
              let apart : q ≡ n → ⊥ = (λ z. let same : x.0 ≡ after = task_once now.tasks n (subst (λ y'. HasTask now.tasks y' x.0) z y) mine_now in let u : W.Joins ns ≡ W.Done = sym w ∙ ap (λ y'. y'.wait) (sym same) ∙ done_wait x.0.wait x.2 in absurd cc) in
              done_has net.tasks q x.0 (other q x.0 y apart) x.2

          by : (i ≡ n) ⊎ (i ≡ n → ⊥) → ⊥
          by (inl e) = let same : t ≡ after = its_task t (subst (λ z. HasTask new.tasks z t) e h) in let q : ms ≡ ns = (let u : W.Joins ms ≡ W.Joins ns = sym v ∙ ap (λ z. z.wait) same ∙ w in cc) in not_all (subst (AreDone new.tasks) q all)
          by (inr e) = f.quiet.unjoined i t ms (other i t (was_there i t h (still_not v refl)) e) v (done_map net.tasks new.tasks ms before_done all)

      pub fork_quiet : Quiet new
      fork_quiet = quiet_again net new n f.quiet (λ i t h g e. other i t (was_there i t h g) e) (λ c h. h) (λ t h. ap (λ z. is_calm z.wait) (its_task t h) ∙ ap is_calm w) fork_unjoined

      next_forked : Next d p procs protocol quantum k n net new sys
      next_forked =
          let turn : SystemTurn p.errors quantum n sys (system net.keyboard (put l.at (left (Forking bs) j) (branches_of bs)) r.store (net.noted ++ [])) =
          subst (λ z. SystemTurn p.errors quantum n sys (system net.keyboard (put l.at z (begun (status z))) r.store (net.noted ++ fault_noted (status z)))) is system_turns in
          record {
            met = None;
            mid = system net.keyboard (put l.at (left (Forking bs) j) (branches_of bs)) r.store (net.noted ++ []);
            after = system net.keyboard (put l.at (left (Forking bs) j) (branches_of bs)) r.store (net.noted ++ []);
            turn = turn;
            meets_at = meets_none (λ g x. meets_nobody d p procs k new (put l.at (left (Forking bs) j) (branches_of bs)) r.store (net.noted ++ []) st fork_quiet x);
            follows = record { proc = put l.at (left (Forking bs) j) (branches_of bs); store = r.store; noted = net.noted ++ []; is = refl; state = st; quiet = fork_quiet; bytes = f.bytes; faults = ap (λ z. net.noted ++ noted_at z) (sym w) };
            trace = sym (append-nil net.trace);
            turns = refl;
            fits = tt;
            output = λ c. sym (append-nil (net.output c));
            input = λ c. sym (append-nil (net.input c));
          }

      fork_next : {next : Net} → Settled p.bodies n pick now next → Next d p procs protocol quantum k n net next sys
      fork_next (stays none) = absurd (none _ (forks mine_now w))
      fork_next (settles (meets part x)) = absurd (true≢false (sym (ap is_calm w) ∙ part_waits now n after mine_now x part))
      fork_next (settles (skips {t = t} h v q g)) = let same : after ≡ t = task_once now.tasks n mine_now h in let u = sym w ∙ ap (λ z. z.wait) same ∙ v in absurd cc
      fork_next (settles (forks {t = t} {ns = ms} h v)) =
          let same : after ≡ t = task_once now.tasks n mine_now h in
          let list : ns ≡ ms = (let u : W.Joins ns ≡ W.Joins ms = sym w ∙ ap (λ z. z.wait) same ∙ v in cc) in
          subst (λ z. Next d p procs protocol quantum k n net (record now { tasks = with_branches p.bodies z.frame ms now.tasks }) sys) same
          (subst (λ z. Next d p procs protocol quantum k n net (record now { tasks = with_branches p.bodies after.frame z now.tasks }) sys) list next_forked)
      fork_next (settles (joins m {t = t} {ns = ms} h v among done)) = absurd (unfinished ms done among)
        where
          unfinished : (ms : List ℕ) → AreDone now.tasks ms → IsTrue (is_held ms n) → ⊥
          unfinished ms g a =
              let x = done_is now.tasks n (done_among now.tasks ms g n a) in
              let same : x.0 ≡ after = task_once now.tasks n x.1 mine_now in
              let u : W.Joins ns ≡ W.Done = sym w ∙ ap (λ z. z.wait) (sym same) ∙ done_wait x.0.wait x.2 in
              absurd cc

  -- ---- any turn

  pub one_turn : (k : ℕ) (c : Choice) (net next : Net) (sys : System) → Follows d p procs protocol quantum (suc k) net sys → ending_of p.errors net ≡ None → (o : OneTurn p c net next) → Next d p procs protocol quantum k o.number net next sys
  one_turn k c net next sys f e o =
      let going = may_take p.errors net.noted (main_done net.tasks) (ready_from 0 net.tasks) e in
      let y = ready_at 0 net.tasks (c.which % length (ready_from 0 net.tasks)) o.number o.selects in
      let place : y.place ≡ o.number = (let q = y.is in omega (arith, q)) in
      let same : y.task ≡ o.before = task_once net.tasks o.number (subst (λ z. HasTask net.tasks z y.task) place y.there) o.has_task in
      let may : IsTrue (may_go o.before.wait) = subst (λ z. IsTrue (may_go z.wait)) same y.may in
      by going may
    where
      by : (going : MayGo p.errors net.noted) → (may : IsTrue (may_go o.before.wait)) → Next d p procs protocol quantum k o.number net next sys
      by going may = arriving (r k o.number c.pick net sys f going o.before o.after o.has_task may o.body o.has_body o.stops live).rest refl (arrives d p procs k m.belongs.body o.after (r k o.number c.pick net sys f going o.before o.after o.has_task may o.body o.has_body o.stops live).rest o.after.wait refl (r k o.number c.pick net sys f going o.before o.after o.has_task may o.body o.has_body o.stops live).same)
        where
          live : Live d p procs (suc k) net.tasks f.proc f.store o.number o.before
          live = live_at d p procs (suc k) net.tasks f.proc f.store o.number o.before f.state o.has_task (joins_ready o.before.wait may)

          m : Own d p procs (suc k) f.store net.tasks o.number live.own live.branches
          m = live.mine

          its : Ran d p procs k quantum o.number net.tasks m.belongs.body m.belongs.term live.own live.branches f.store o.after
          its = r k o.number c.pick net sys f going o.before o.after o.has_task may o.body o.has_body o.stops live

          turns_to : SystemTurn p.errors quantum o.number sys (system net.keyboard (put live.at its.rest (begun (status its.rest))) its.store (net.noted ++ fault_noted (status its.rest)))
          turns_to = system_turns k o.number c.pick net sys f going o.before o.after o.has_task may o.body o.has_body o.stops live

          no_fork : (rest : Left) → its.rest ≡ rest → Stands d p procs k m.belongs.body o.after rest no_processes empty_set → (ns : List ℕ) → o.after.wait ≡ W.Joins ns → ⊥
          no_fork rest e' stands ns w = some_not x.branches x.same (subst (LeftPlaced procs (o.number + 1) (o.number + 1 + size m.belongs.term)) (e' ∙ x.own_is) its.placed).0.1
            where
              x : JoinsAs d p procs k m.belongs.body o.after rest no_processes empty_set ns
              x = joins_as d p procs k m.belongs.body o.after rest no_processes empty_set ns stands w

              some_not : (bs : Branches) → SameNumbers bs no_processes → AreSome bs → ⊥
              some_not no_branches a b = absurd b
              some_not (and_branch i t bs) a b = absurd a

          arriving : (rest : Left) → its.rest ≡ rest → Arrived d p procs k m.belongs.body o.after rest → Next d p procs protocol quantum k o.number net next sys
          arriving rest e' (arrived q stands) =
              let here_stands : Stands d p procs k m.belongs.body o.after its.rest no_processes empty_set = subst (λ z. Stands d p procs k m.belongs.body o.after z no_processes empty_set) (sym e') stands in
              let none : begun (status its.rest) ≡ no_processes = ap (λ z. begun (status z)) e' ∙ q in
              let st = turned d p procs k quantum o.number net.tasks f.proc f.store f.state live.own live.branches live.at m live.all o.before o.after live.same o.has_task may (its_quantum k o.number c.pick net sys f going o.before o.after o.has_task may o.body o.has_body o.stops live) (its_stop k o.number c.pick net sys f going o.before o.after o.has_task may o.body o.has_body o.stops live) its here_stands in
              settle_next d p procs protocol quantum k o.number c.pick net sys o.before o.after (put live.at its.rest no_processes) its.store (net.noted ++ fault_noted (status its.rest)) o.has_task f.quiet going f.bytes
              (subst (λ z. SystemTurn p.errors quantum o.number sys (system net.keyboard (put live.at its.rest z) its.store (net.noted ++ fault_noted (status its.rest)))) none turns_to)
              (ap (λ z. net.noted ++ z) (stands_noted d p procs k m.belongs.body o.after its.rest no_processes empty_set here_stands)) st o.settles (no_fork rest e' stands)
          arriving rest e' (at_fork {ns = ns} {bs = bs} {j = j} w numbers go) =
              fork_next k o.number c.pick net sys f going o.before o.after o.has_task may o.body o.has_body o.stops live bs j e' ns w numbers go o.settles
