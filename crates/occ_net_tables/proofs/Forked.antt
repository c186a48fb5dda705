-- A fork: the branches begin, and their process waits for their end.
use Rattle.std.proofs.Common.{◌≡◌, ◌∙◌, refl, sym, ap, subst, Bool, true, false, IsTrue, ℕ, ◌<◌, ◌⊎◌, inl, inr, List, Option, Some, None, length, drop, arith}
use Rattle.std.specs.Prelude.{slice_get, slice_set, remove}
use Rattle.std.specs.Option.{option_map_or}
use Rattle.std.proofs.lemmas.Option.{slice_get_within}
use mathlib.Core.Bool.{true≢false}
use Rattle.occ_term.specs.Frames.{is_held}
use Rattle.occ_machine.specs.Compiled.{Program}
use Rattle.occ_machine.specs.declared.task.Task.{Task}
use Rattle.occ_machine.specs.declared.task.Wait.{Wait}
use Rattle.occ_machine.specs.declared.task.Wait.TheVariants as W
use Rattle.occ_net_replay.specs.Replay.{Net, Tasks, HasTask, ended, forks, goes, is_done, made_ready, may_go, offers_on, ready_from, settles, took_turn, with_branches}
use Rattle.occ_net_replay.specs.Waiting.{listens_on}
use Rattle.occ_net_replay.specs.Waiting.{ForksAlone}
use Rattle.occ_net_replay.proofs.Tables.{set_other, same_or_not, task_once}
use Rattle.occ_net_tables.specs.declared.tables.Tables.{Tables}
use Rattle.occ_net_tables.specs.Holding.{AreCounted, IsOrdinary, IsTable, Stands, is_over, joins_on, undone}
use Rattle.occ_net_tables.specs.Settling.{AllBegan, BranchesMayBegin, Mid, SettlesTo}
use Rattle.occ_net_tables.specs.Keys.{set_all}
use Rattle.occ_net_tables.proofs.Between.{kept_quiet, there_old, waiting_old}
use Rattle.occ_net_tables.proofs.Branches.{IsBegun, branches_begun, branches_length, branches_other, branches_swap}
use Rattle.occ_net_tables.proofs.Ends.{joins_is}
use Rattle.occ_net_tables.proofs.Keys.{all_here, all_length, all_other}
use Rattle.occ_net_tables.proofs.Meetings.{mine}
use Rattle.occ_net_tables.proofs.OneChange.{either_way, get_some, not_both, set_length, set_twice, set_within, true_as}
use Rattle.occ_net_tables.proofs.ReadyLists.{ready_out, ready_same}
use Rattle.occ_net_tables.proofs.Undone.{all_undone, undone_same}

module _ (p : Program) (kb : List ℕ) (old : Tables) (number place : ℕ) (after : Task) (net : Net) (mid : Mid p kb old number place after net) (ns : List ℕ) (w : after.wait ≡ W.Joins ns) where
  abbrev now : Net
  now = took_turn net number after

  abbrev emptied : Tasks
  emptied = slice_set old.tasks.items number None

  abbrev forked : Tasks
  forked = with_branches p.bodies after.frame ns now.tasks

  a : ForksAlone p net.tasks number ns
  a = mid.forks ns w

  there : HasTask old.tasks.items number (made_ready after)
  there = there_old p kb old number place after net mid

  not_mine : is_held ns number ≡ false
  not_mine = by (either_way (is_held ns number))
    where
      by : (is_held ns number ≡ true) ⊎ (is_held ns number ≡ false) → is_held ns number ≡ false
      by (inl h) = absurd (let l = a.behind number h in omega (arith, l))
      by (inr h) = h

  many : length now.tasks ≡ length p.bodies
  many = set_length net.tasks number (Some after) ∙ sym (set_length net.tasks number (Some (made_ready after))) ∙ ap length (sym mid.tasks) ∙ mid.sized.tasks_are

  pub number_within : number < length old.tasks.items
  number_within = slice_get_within old.tasks.items number (Some (made_ready after)) there

  old_other : (j : ℕ) → (j ≡ number → ⊥) → slice_get old.tasks.items j ≡ slice_get net.tasks j
  old_other j n = ap (λ l. slice_get l j) mid.tasks ∙ set_other net.tasks number j (Some (made_ready after)) n

  -- ---- the branches may begin

  entry_still : (i : ℕ) (x : Option Task) → IsTrue (is_held ns i) → (i ≡ number → ⊥) → slice_get old.tasks.items i ≡ Some x → goes x ≡ false
  entry_still i None h n e = refl
  entry_still i (Some t) h n e = ap may_go (a.free i t h (sym (old_other i n) ∙ e))

  pub may_begin : (between : Tables) → between.tasks.items ≡ emptied → between.ready.items ≡ remove old.ready.items place → BranchesMayBegin p between ns
  may_begin between tasks ready =
      record {
        ready_is =
            ready ∙ ap (λ l. remove l place) mid.sound.ready_is ∙ sym (ready_out 0 old.tasks.items number number place None (ap (λ l. slice_get l place) (sym mid.sound.ready_is) ∙ mid.at_place) refl (omega arith)) ∙ ap (ready_from 0) (sym tasks);
        rising = a.rising;
        have_bodies = a.have_bodies;
        free = λ i h.
            let n : i ≡ number → ⊥ = (λ e. let l = a.behind i h in omega (arith, l, e)) in
            let x = get_some old.tasks.items i (let b = a.have_bodies i h in let s = mid.sized.tasks_are in omega (arith, b, s)) in
            record { entry = x.0; is = ap (λ l. slice_get l i) tasks ∙ set_other old.tasks.items number i None n ∙ x.1; still = entry_still i x.0 h n x.1 };
      }

  -- ---- who is there then

  forked_is : slice_set (with_branches p.bodies after.frame ns emptied) number (Some after) ≡ forked
  forked_is =
      sym (branches_swap p.bodies after.frame ns emptied number (Some after) not_mine)
      ∙ ap (with_branches p.bodies after.frame ns) (set_twice old.tasks.items number None (Some after) ∙ ap (λ l. slice_set l number (Some after)) mid.tasks ∙ set_twice net.tasks number (Some (made_ready after)) (Some after))

  mine_there : HasTask forked number after
  mine_there = branches_other p.bodies after.frame ns now.tasks number not_mine ∙ mine p.bodies 0 number net mid.before after mid.has_task

  stays_there : (j : ℕ) (u : Task) → is_held ns j ≡ false → (j ≡ number → ⊥) → HasTask net.tasks j u → HasTask forked j u
  stays_there j u h n g = branches_other p.bodies after.frame ns now.tasks j h ∙ set_other net.tasks number j (Some after) n ∙ g

  data Which (j : ℕ) (u : Task) : Type 0 where
    a_branch : IsTrue (is_held ns j) → u.wait ≡ W.Ready → Which j u
    the_parent : j ≡ number → u ≡ after → Which j u
    another : is_held ns j ≡ false → (j ≡ number → ⊥) → HasTask net.tasks j u → Which j u

  which : (j : ℕ) (u : Task) → HasTask forked j u → Which j u
  which j u h = by (either_way (is_held ns j))
    where
      one : {x y : Task} → Some (Some x) ≡ Some (Some y) → x ≡ y
      one e = cc

      begun : IsTrue (is_held ns j) → IsBegun p.bodies after.frame (slice_get forked j) → Which j u
      begun q b = let same : b.task ≡ u = one (sym b.is ∙ h) in a_branch q (ap (λ z. z.wait) (sym same) ∙ b.ready)

      other : is_held ns j ≡ false → (j ≡ number) ⊎ (j ≡ number → ⊥) → Which j u
      other q (inl e) = the_parent e (one (sym h ∙ ap (slice_get forked) e ∙ mine_there))
      other q (inr n) = another q n (sym (branches_other p.bodies after.frame ns now.tasks j q ∙ set_other net.tasks number j (Some after) n) ∙ h)

      by : (is_held ns j ≡ true) ⊎ (is_held ns j ≡ false) → Which j u
      by (inl q) = begun q (branches_begun p.bodies after.frame ns now.tasks j a.rising q a.have_bodies many)
      by (inr q) = other q (same_or_not j number)

  -- a task that is neither ready nor done is still there
  kept_there : (j : ℕ) (u : Task) → HasTask old.tasks.items j u → (j ≡ number → ⊥) → (u.wait ≡ W.Done → ⊥) → HasTask forked j u
  kept_there j u h n undone' = by (either_way (is_held ns j))
    where
      before : HasTask net.tasks j u
      before = sym (old_other j n) ∙ h

      by : (is_held ns j ≡ true) ⊎ (is_held ns j ≡ false) → HasTask forked j u
      by (inl q) = absurd (undone' (a.free j u q before))
      by (inr q) = stays_there j u q n before

  -- ---- tables of channels

  table_forked : (says : Wait → ℕ → Bool) → ((c : ℕ) → says W.Done c ≡ false) → ((c : ℕ) → says W.Ready c ≡ false) → ((c : ℕ) → says (W.Joins ns) c ≡ false) → (table : List (Option ℕ)) → IsTable says old.tasks.items table → IsTable says forked table
  table_forked says done ready joins table h = record { sound = sound; whole = whole }
    where
      apart : (c j : ℕ) (u : Task) → HasTask old.tasks.items j u → IsTrue (says u.wait c) → j ≡ number → ⊥
      apart c j u g s e = let same : u ≡ made_ready after = task_once old.tasks.items number (subst (λ z. HasTask old.tasks.items z u) e g) there in not_both (sym (ap (λ z. says z.wait c) same) ∙ s) (ready c)

      sound : (c j : ℕ) → slice_get table c ≡ Some (Some j) → Stands says forked c j
      sound c j e =
          let x = h.sound c j e in
          record { task = x.task; there = kept_there j x.task x.there (apart c j x.task x.there x.is) (λ q. not_both (sym (ap (λ z. says z c) q) ∙ x.is) (done c)); is = x.is }

      whole : (c j : ℕ) (u : Task) → HasTask forked j u → IsTrue (says u.wait c) → slice_get table c ≡ Some (Some j)
      whole c j u g s = by (which j u g)
        where
          by : Which j u → slice_get table c ≡ Some (Some j)
          by (a_branch q r) = absurd (not_both (sym (ap (λ z. says z c) r) ∙ s) (ready c))
          by (the_parent q r) = absurd (not_both (sym (ap (λ z. says z c) (ap (λ z. z.wait) r ∙ w)) ∙ s) (joins c))
          by (another q n r) = h.whole c j u (old_other j n ∙ r) s

  -- ---- who waits for whom

  parents_forked : (table : List (Option ℕ)) → table ≡ set_all ns (Some number) old.parents.items → IsTable joins_on forked table
  parents_forked table e = subst (IsTable joins_on forked) (sym e) (record { sound = sound; whole = whole })
    where
      sound : (c j : ℕ) → slice_get (set_all ns (Some number) old.parents.items) c ≡ Some (Some j) → Stands joins_on forked c j
      sound c j g = by (either_way (is_held ns c))
        where
          size : length old.parents.items ≡ length p.bodies
          size = mid.sized.parents_are

          here : IsTrue (is_held ns c) → j ≡ number → Stands joins_on forked c j
          here q at = record { task = after; there = subst (λ z. HasTask forked z after) (sym at) mine_there; is = ap (λ z. joins_on z c) w ∙ q }

          old_one : Stands joins_on old.tasks.items c j → Stands joins_on forked c j
          old_one x =
              let y = joins_is x.task.wait c x.is in
              let n = (waiting_old p kb old number place after net mid j x.task x.there (ap may_go y.1)).0 in
              record { task = x.task; there = kept_there j x.task x.there n (λ q. let r = sym y.1 ∙ q in cc); is = x.is }

          by : (is_held ns c ≡ true) ⊎ (is_held ns c ≡ false) → Stands joins_on forked c j
          by (inl q) = here q (let r = sym (all_here ns (Some number) old.parents.items c q (let b = a.have_bodies c q in omega (arith, b, size))) ∙ g in cc)
          by (inr q) = old_one (mid.sound.joins.sound c j (sym (all_other ns (Some number) old.parents.items c q) ∙ g))

      whole : (c j : ℕ) (u : Task) → HasTask forked j u → IsTrue (joins_on u.wait c) → slice_get (set_all ns (Some number) old.parents.items) c ≡ Some (Some j)
      whole c j u g s = by (which j u g)
        where
          size : length old.parents.items ≡ length p.bodies
          size = mid.sized.parents_are

          others : (j ≡ number → ⊥) → HasTask net.tasks j u → (is_held ns c ≡ true) ⊎ (is_held ns c ≡ false) → slice_get (set_all ns (Some number) old.parents.items) c ≡ Some (Some j)
          others n r (inl q) = let y = joins_is u.wait c s in absurd (a.alone c j u y.0 q r y.1 y.2)
          others n r (inr q) = all_other ns (Some number) old.parents.items c q ∙ mid.sound.joins.whole c j u (old_other j n ∙ r) s

          by : Which j u → slice_get (set_all ns (Some number) old.parents.items) c ≡ Some (Some j)
          by (a_branch q r) = absurd (true≢false (sym s ∙ ap (λ z. joins_on z c) r))
          by (the_parent q r) =
              let held : IsTrue (is_held ns c) = sym (ap (λ z. joins_on z c) (ap (λ z. z.wait) r ∙ w)) ∙ s in
              all_here ns (Some number) old.parents.items c held (let b = a.have_bodies c held in omega (arith, b, size)) ∙ ap (λ z. Some (Some z)) (sym q)
          by (another q n r) = others n r (either_way (is_held ns c))

  -- ---- counts

  branch_over : (i : ℕ) → IsTrue (is_held ns i) → is_over forked i ≡ false
  branch_over i q = by (branches_begun p.bodies after.frame ns now.tasks i a.rising q a.have_bodies many)
    where
      by : IsBegun p.bodies after.frame (slice_get forked i) → is_over forked i ≡ false
      by b = ap (λ z. option_map_or ended z false) b.is ∙ ap is_done b.ready

  other_over : (i : ℕ) → is_held ns i ≡ false → is_over old.tasks.items i ≡ is_over forked i
  other_over i q = by (same_or_not i number)
    where
      by : (i ≡ number) ⊎ (i ≡ number → ⊥) → is_over old.tasks.items i ≡ is_over forked i
      by (inl e) =
          ap (is_over old.tasks.items) e ∙ ap (λ z. option_map_or ended z false) there ∙ sym (ap is_done w) ∙ sym (ap (λ z. option_map_or ended z false) mine_there) ∙ sym (ap (is_over forked) e)
      by (inr n) = ap (λ z. option_map_or ended z false) (old_other i n ∙ sym (branches_other p.bodies after.frame ns now.tasks i q ∙ set_other net.tasks number i (Some after) n))

  counted_forked : (counts : List ℕ) → counts ≡ slice_set old.unfinished.items number (length ns) → AreCounted forked counts
  counted_forked counts e m u ms h v = ap (λ l. slice_get l m) e ∙ by (which m u h)
    where
      size : length old.unfinished.items ≡ length p.bodies
      size = mid.sized.unfinished_are

      size' : length old.tasks.items ≡ length p.bodies
      size' = mid.sized.tasks_are

      by : Which m u → slice_get (slice_set old.unfinished.items number (length ns)) m ≡ Some (undone forked ms)
      by (a_branch q r) = let x : W.Ready ≡ W.Joins ms = sym r ∙ v in absurd cc
      by (the_parent q r) =
          let list : ns ≡ ms = (let x = sym w ∙ ap (λ z. z.wait) (sym r) ∙ v in cc) in
          ap (slice_get (slice_set old.unfinished.items number (length ns))) q ∙ set_within old.unfinished.items number (length ns) (let l = number_within in omega (arith, l, size, size'))
          ∙ ap Some (sym (all_undone forked ns branch_over)) ∙ ap (λ l. Some (undone forked l)) list
      by (another q n r) =
          set_other old.unfinished.items number m (length ns) n ∙ mid.sound.counted m u ms (old_other m n ∙ r) v
          ∙ ap Some (undone_same old.tasks.items forked ms (λ i g. other_over i (apart i g (either_way (is_held ns i)))))
        where
          apart : (i : ℕ) → IsTrue (is_held ms i) → (is_held ns i ≡ true) ⊎ (is_held ns i ≡ false) → is_held ns i ≡ false
          apart i g (inl x) = absurd (a.alone i m u ms x r v g)
          apart i g (inr x) = x

  -- ---- all that is kept

  ordinary_forked : (j : ℕ) (u : Task) → HasTask forked j u → IsOrdinary u.wait
  ordinary_forked j u h = by (which j u h)
    where
      by : Which j u → IsOrdinary u.wait
      by (a_branch q r) = subst IsOrdinary (sym r) tt
      by (the_parent q r) = subst IsOrdinary (ap (λ z. z.wait) (sym r)) mid.ordinary
      by (another q n r) = mid.sound.ordinary j u (old_other j n ∙ r)

  pub forks_to : (between begun new : Tables) (pick : ℕ) → between.tasks.items ≡ emptied → between.ready.items ≡ remove old.ready.items place → between.offering ≡ old.offering → between.awaiting ≡ old.awaiting → between.parents ≡ old.parents → between.unfinished ≡ old.unfinished → between.fault ≡ old.fault → between.used ≡ old.used → between.trace ≡ old.trace → AllBegan p number after.frame between ns begun → new.tasks.items ≡ slice_set begun.tasks.items number (Some after) → new.ready.items ≡ begun.ready.items → new.offering ≡ begun.offering → new.awaiting ≡ begun.awaiting → new.parents ≡ begun.parents → new.unfinished.items ≡ slice_set begun.unfinished.items number (length ns) → new.fault ≡ begun.fault → new.used ≡ begun.used → new.trace ≡ begun.trace → SettlesTo p kb pick number after net new
  forks_to between begun new pick b1 b2 b3 b4 b5 b6 b7 b8 b9 g n1 n2 n3 n4 n5 n6 n7 n8 n9 =
      let begun_is : begun.tasks.items ≡ with_branches p.bodies after.frame ns emptied = g.tasks ∙ ap (with_branches p.bodies after.frame ns) b1 in
      let tasks : new.tasks.items ≡ forked = n1 ∙ ap (λ l. slice_set l number (Some after)) begun_is ∙ forked_is in
      let slot : slice_get begun.tasks.items number ≡ Some None = ap (λ l. slice_get l number) begun_is ∙ branches_other p.bodies after.frame ns emptied number not_mine ∙ set_within old.tasks.items number None number_within in
      let ready : new.ready.items ≡ ready_from 0 new.tasks.items = n2 ∙ g.ready_is ∙ sym (ready_same 0 begun.tasks.items number None (Some after) slot (sym (ap may_go w))) ∙ ap (ready_from 0) (sym n1) in
      let offering : new.offering ≡ old.offering = n3 ∙ g.offering ∙ b3 in
      let awaiting : new.awaiting ≡ old.awaiting = n4 ∙ g.awaiting ∙ b4 in
      let parents : new.parents.items ≡ set_all ns (Some number) old.parents.items = ap (λ z. z.items) n5 ∙ g.parents ∙ ap (λ z. set_all ns (Some number) z.items) b5 in
      let unfinished : new.unfinished.items ≡ slice_set old.unfinished.items number (length ns) = n6 ∙ ap (λ z. slice_set z.items number (length ns)) (g.unfinished ∙ b6) in
      let fault : new.fault ≡ old.fault = n7 ∙ g.fault ∙ b7 in
      record {
        next = record now { tasks = forked };
        settles = settles (forks (mine p.bodies pick number net mid.before after mid.has_task) w);
        holds = record {
          tasks = sym tasks;
          bytes = mid.bytes ∙ ap (λ n. drop n kb) (sym (n8 ∙ g.used ∙ b8));
          trace = mid.trace ∙ (sym (n9 ∙ g.trace ∙ b9));
          sound = kept_quiet p kb old number place after net mid new (W.Joins ns) w refl (true_as tasks (ready ∙ ap (ready_from 0) tasks) (ap (λ z. z.items) offering) (ap (λ z. z.items) awaiting) refl refl fault
              (record {
                ready_is = refl;
                offers = table_forked offers_on (λ c. refl) (λ c. refl) (λ c. refl) old.offering.items mid.sound.offers;
                awaits = table_forked listens_on (λ c. refl) (λ c. refl) (λ c. refl) old.awaiting.items mid.sound.awaits;
                joins = parents_forked new.parents.items parents;
                counted = counted_forked new.unfinished.items unfinished;
                ordinary = ordinary_forked;
                fault_is = mid.sound.fault_is;
              }));
          sized = record {
            tasks_are = ap length tasks ∙ branches_length p.bodies after.frame ns now.tasks ∙ many;
            offering_is = ap (λ z. length z.items) offering ∙ mid.sized.offering_is;
            awaiting_is = ap (λ z. length z.items) awaiting ∙ mid.sized.awaiting_is;
            parents_are = ap length parents ∙ all_length ns (Some number) old.parents.items ∙ mid.sized.parents_are;
            unfinished_are = ap length unfinished ∙ set_length old.unfinished.items number (length ns) ∙ mid.sized.unfinished_are;
          };
        };
      }
