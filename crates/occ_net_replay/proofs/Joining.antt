-- The states after a fork, and after a join.
use Rattle.std.proofs.Common.{◌≡◌, ◌∙◌, refl, sym, ap, subst, Bool, true, false, IsTrue, IsFalse, ℕ, suc, ◌+◌, ◌<◌, ◌^◌, ◌⊎◌, inl, inr, List, Some, arith}
use Rattle.std.specs.Prelude.{slice_get, slice_set}
use Rattle.occ_term.specs.Frames.{Variables, is_held, at}
use Rattle.occ_term.specs.Processes.{Numbered, numbered}
use Rattle.occ_term.specs.StepUses.{IsPartOf, uses_of_left}
use Rattle.occ_term.specs.Steps.{Do, Forking, Context, Left, left, status, is_ended}
use Rattle.occ_term.specs.System.{Process, Processes, AllEnded, branches_of}
use Rattle.occ_term.specs.TermTyping.{Declared}
use Rattle.occ_term.specs.Terms.{Term, Skip, Branches}
use Rattle.occ_term.specs.TypedSteps.{LeftHas}
use Rattle.occ_term.specs.Uses.{Numbers, empty_set, uses_of, uses_of_branches}
use Rattle.occ_term.specs.Values.{Store}
use Rattle.occ_machine.specs.SameStop.{Frames, Joined, joined_with, numbers_of, used_by}
use Rattle.occ_machine.specs.Alike.{Alike}
use Rattle.occ_machine.specs.Compiled.{Program}
use Rattle.occ_machine.specs.Machine.{Body, Stopping}
use Rattle.occ_machine.specs.declared.task.Task.{Task}
use Rattle.occ_machine.specs.declared.task.Wait.TheVariants as W
use Rattle.occ_net_replay.specs.Replay.{Tasks, HasTask, may_go, AreDone, with_branches, merged}
use Rattle.occ_net_replay.specs.Moments.{At}
use Rattle.occ_net_replay.proofs.Changing.{put_holds}
use Rattle.occ_net_replay.proofs.Fewer.{as_many, one_less}
use Rattle.occ_net_replay.proofs.Forks.{same_branches, outside, full_again, Branch, branch_or_old, branches_hold, turns_small}
use Rattle.occ_net_replay.proofs.Holding.{SameNumbers, AgreesBut, agrees_but, put, Belongs, Stands, may_turn, may_join, offers, awaits, chooses, waits, is_halted, has_failed, has_ended, Own, AllHold, all_again, branches_part, branches_placed, used_part}
use Rattle.occ_net_replay.proofs.Merging.{Mixed, all_ended, merges}
use Rattle.occ_net_replay.proofs.Placed.{size, LeftPlaced}
use Rattle.occ_net_replay.proofs.Putting.{In, InAmong, in_put, in_new, put_in, put_same, Elsewhere}
use Rattle.occ_net_replay.proofs.States.{State, Live, live_at, set_elsewhere, going_is, there_again, IsThere, root_put}
use Rattle.occ_net_replay.proofs.Tables.{set_same, set_other, set_back}
use Rattle.occ_net_replay.proofs.TakingTurns.{Ran, small_now, live_now}

-- ---- a fork

module _ (d : Declared) (p : Program) (procs : List Numbered) (belongs_at : (n : ℕ) (t : Term) → slice_get procs n ≡ Some (numbered n t) → Belongs d p procs n) (k quantum n : ℕ) (tasks : Tasks) (proc : Process) (s : Store) (st : State d p procs (suc k) tasks proc s) (own : Left) (ps : Processes) (x : At n own ps proc) (o : Own d p procs (suc k) s tasks n own ps) (all : AllHold d p procs (suc k) s tasks ps) (before after : Task) (same : o.task ≡ before) (there : HasTask tasks n before) (may : IsTrue (may_go before.wait)) (q : o.belongs.body.quantum ≡ quantum) (stops : Stopping o.belongs.body before after) (r : Ran d p procs k quantum n tasks o.belongs.body o.belongs.term own ps s after) (bs : Branches) (j : List Context) (is : r.rest ≡ left (Forking bs) j) (ns : List ℕ) (w : after.wait ≡ W.Joins ns) (numbers : numbers_of bs ≡ ns) (goes : (g : Variables) → Joined (uses_of_branches bs).writes after.frame g → Alike k d o.belongs.body (joined_with after g) (left (Do Skip) j)) where
  abbrev hi : ℕ
  hi = n + 1 + size o.belongs.term

  abbrev now : Tasks
  now = slice_set tasks n (Some after)

  abbrev new : Tasks
  new = with_branches p.bodies after.frame (numbers_of bs) now

  full_now : (i : ℕ) (b : Body) → slice_get p.bodies i ≡ Some b → IsThere now i
  full_now i b e = there_again tasks n i (Some after) (st.full i b e)

  small_here : (i : ℕ) (t : Task) → HasTask now i t → t.turns + k < 2 ^ 64
  small_here = small_now d p procs k quantum n tasks proc s st own ps x o all before after same there may q stops

  set_now : HasTask now n after
  set_now = set_same tasks n (Some before) (Some after) there

  few : k < 2 ^ 64
  few = let h = small_here n after set_now in omega (arith, h)

  abbrev typed : LeftHas d (left (Forking bs) j)
  typed = subst (LeftHas d) is r.typed

  abbrev part : IsPartOf (uses_of_left (left (Forking bs) j)) (uses_of o.belongs.term)
  part = subst (λ z. IsPartOf (uses_of_left z) (uses_of o.belongs.term)) is r.uses

  abbrev placed : LeftPlaced procs (n + 1) hi (left (Forking bs) j)
  placed = subst (LeftPlaced procs (n + 1) hi) is r.placed

  held : (c : ℕ) → IsTrue (used_by (uses_of_branches bs) c) → IsTrue (is_held o.belongs.body.cells c)
  held c u = o.belongs.does.cells.members c ∙ used_part d p procs (uses_of_branches bs) (uses_of o.belongs.term) (branches_part d p procs {bs = bs} {j = j} (uses_of o.belongs.term) refl part) c u

  fork_own : Own d p procs k r.store new n (left (Forking bs) j) (branches_of bs)
  fork_own =
      record {
        belongs = o.belongs;
        task = after;
        has_task = outside d p procs belongs_at after.frame bs (n + 1) hi placed.0.0 now n (inl (omega arith)) ∙ set_now;
        but = (uses_of_branches bs).writes;
        stands = waits w numbers (same_branches bs) goes;
        typed = typed;
        uses = part;
        placed = placed;
        agrees = agrees_but d o.belongs.body.cells (uses_of_branches bs).writes after.frame r.store r.agrees;
      }

  fork_branches : AllHold d p procs k r.store new (branches_of bs)
  fork_branches = branches_hold d p procs belongs_at after.frame k few r.store o.belongs.body.cells r.agrees bs (n + 1) hi now placed.0.0 typed.0 held full_now (turns_small d p procs belongs_at after.frame k now few small_here)

  elsewhere : Elsewhere n hi tasks new
  elsewhere =
      record {
        before = λ i h. outside d p procs belongs_at after.frame bs (n + 1) hi placed.0.0 now i (inl (omega (arith, h))) ∙ set_other tasks n i (Some after) (λ e. omega (arith, h, e));
        behind = λ i h. outside d p procs belongs_at after.frame bs (n + 1) hi placed.0.0 now i (inr h) ∙ set_other tasks n i (Some after) (λ e. omega (arith, h, e));
      }

  fork_live : (i : ℕ) (t : Task) → HasTask new i t → In i (put x (left (Forking bs) j) (branches_of bs)) ⊎ (t.wait ≡ W.Done)
  fork_live i t h = by (branch_or_old d p procs belongs_at after.frame k few bs (n + 1) hi placed.0.0 now full_now small_here i t h)
    where
      by : Branch d p procs belongs_at after.frame k i bs t ⊎ HasTask now i t → In i (put x (left (Forking bs) j) (branches_of bs)) ⊎ (t.wait ≡ W.Done)
      by (inl b) = inl (in_new (left (Forking bs) j) (branches_of bs) x b.among)
      by (inr e) = live_now d p procs k quantum n tasks proc s st own ps x o all before after same there may q stops r (left (Forking bs) j) (branches_of bs) i t e

  fork_small : (i : ℕ) (t : Task) → HasTask new i t → t.turns + k < 2 ^ 64
  fork_small i t h = by (branch_or_old d p procs belongs_at after.frame k few bs (n + 1) hi placed.0.0 now full_now small_here i t h)
    where
      by : Branch d p procs belongs_at after.frame k i bs t ⊎ HasTask now i t → t.turns + k < 2 ^ 64
      by (inl b) = b.small
      by (inr e) = small_here i t e

  pub forked : State d p procs k (with_branches p.bodies after.frame ns (slice_set tasks n (Some after))) (put x (left (Forking bs) j) (branches_of bs)) r.store
  forked =
      subst (λ z. State d p procs k (with_branches p.bodies after.frame z now) (put x (left (Forking bs) j) (branches_of bs)) r.store) numbers
      (record {
        root = root_put d p procs x (left (Forking bs) j) (branches_of bs) ∙ st.root;
        holds = put_holds d p procs (suc k) k one_less s r.store tasks new n own (left (Forking bs) j) ps (branches_of bs) o.belongs.term o.belongs.entry r.live r.only elsewhere (fork_own, fork_branches) x st.holds;
        live = fork_live;
        small = fork_small;
        typed_store = r.typed_store;
        full = λ i b e. full_again d p procs belongs_at after.frame (numbers_of bs) now i (full_now i b e);
      })

-- ---- a join

module _ (d : Declared) (p : Program) (procs : List Numbered) (k : ℕ) (body : Body) (t : Task) where
  pub record JoinsAs (own : Left) (ps : Processes) (but : Numbers) (ns : List ℕ) : Type 0 where
    pub branches : Branches
    pub rest : List Context
    pub own_is : own ≡ left (Forking branches) rest
    pub numbers : numbers_of branches ≡ ns
    pub same : SameNumbers branches ps
    pub lent : but ≡ (uses_of_branches branches).writes
    pub goes : (g : Variables) → Joined (uses_of_branches branches).writes t.frame g → Alike k d body (joined_with t g) (left (Do Skip) rest)

  pub joins_as : (own : Left) (ps : Processes) (but : Numbers) (ns : List ℕ) → Stands d p procs k body t own ps but → t.wait ≡ W.Joins ns → JoinsAs own ps but ns
  joins_as own ps but ns (may_turn g h y a) e = absurd (going_is t.wait g (W.Joins ns) e refl)
  joins_as own ps but ns (may_join g n z a) e = absurd (going_is t.wait (ap may_go g) (W.Joins ns) e refl)
  joins_as own ps but ns (offers w a) e = let q = sym w ∙ e in absurd cc
  joins_as own ps but ns (awaits w a) e = let q = sym w ∙ e in absurd cc
  joins_as own ps but ns (chooses w a) e = let q = sym w ∙ e in absurd cc
  joins_as own ps but ns (waits {ns = ms} {bs = bs} {j = j} w n z a) e =
      let same : ms ≡ ns = (let q = sym w ∙ e in cc) in
      record { branches = bs; rest = j; own_is = refl; numbers = n ∙ same; same = z; lent = refl; goes = a }
  joins_as own ps but ns (is_halted w) e = let q = sym w ∙ e in absurd cc
  joins_as own ps but ns (has_failed w) e = let q = sym w ∙ e in absurd cc
  joins_as own ps but ns (has_ended w) e = let q = sym w ∙ e in absurd cc

module _ (d : Declared) (p : Program) (procs : List Numbered) (k : ℕ) (tasks : Tasks) (proc : Process) (s : Store) (st : State d p procs k tasks proc s) (m : ℕ) (t : Task) (ns : List ℕ) (there : HasTask tasks m t) (w : t.wait ≡ W.Joins ns) (done : AreDone tasks ns) where
  abbrev l : Live d p procs k tasks proc s m t
  l = live_at d p procs k tasks proc s m t st there (λ e. let r = sym w ∙ e in cc)

  abbrev o : Own d p procs k s tasks m l.own l.branches
  o = l.mine

  a : JoinsAs d p procs k o.belongs.body t l.own l.branches o.but ns
  a = joins_as d p procs k o.belongs.body t l.own l.branches o.but ns (subst (λ u. Stands d p procs k o.belongs.body u l.own l.branches o.but) l.same o.stands) w

  abbrev frame : Variables
  frame = merged p.bodies tasks ns t.frame

  abbrev joined_task : Task
  joined_task = joined_with t frame

  abbrev top : ℕ
  top = m + 1 + size o.belongs.term

  mixed : Mixed o.belongs.body.cells (uses_of_branches a.branches).writes t.frame frame s
  mixed =
      subst (λ z. Mixed o.belongs.body.cells (uses_of_branches a.branches).writes t.frame (merged p.bodies tasks z t.frame) s) a.numbers
      (merges d p procs k s tasks o.belongs.body.cells a.branches l.branches (m + 1) top t.frame a.same (branches_placed d p procs (m + 1) top a.own_is o.placed) l.all (subst (AreDone tasks) (sym a.numbers) done) (subst (λ u. Frames o.belongs.body.cells u.frame) l.same o.agrees.shape))

  ended_all : AllEnded l.branches
  ended_all = all_ended d p procs k s tasks a.branches l.branches a.same l.all (subst (AreDone tasks) (sym a.numbers) done)

  agrees_now : AgreesBut o.belongs.body.cells empty_set frame s
  agrees_now = record { shape = mixed.shape; same = λ c i e. by c i ((uses_of_branches a.branches).writes c) refl }
    where
      by : (c : ℕ) → IsTrue (is_held o.belongs.body.cells c) → (b : Bool) → (uses_of_branches a.branches).writes c ≡ b → at frame c ≡ s c
      by c i true e = mixed.taken c i e
      by c i false e = mixed.kept c i e ∙ ap (λ u. at u.frame c) (sym l.same) ∙ o.agrees.same c i (ap (λ f. f c) a.lent ∙ e)

  is_join : Joined (uses_of_branches a.branches).writes t.frame frame
  is_join =
      record {
        shape = subst (λ cells. Frames cells frame) (sym (subst (λ u. Frames o.belongs.body.cells u.frame) l.same o.agrees.shape).cells_are) mixed.shape;
        kept = λ c i e. mixed.kept c (ap (λ cells. is_held cells c) (sym (subst (λ u. Frames o.belongs.body.cells u.frame) l.same o.agrees.shape).cells_are) ∙ i) e;
        left_is = mixed.left_is;
      }

  abbrev next : Tasks
  next = slice_set tasks m (Some joined_task)

  -- what stands here, in what is left as it is written
  stands_now : Stands d p procs k o.belongs.body joined_task l.own l.branches empty_set
  stands_now = subst (λ z. Stands d p procs k o.belongs.body joined_task z l.branches empty_set) (sym a.own_is) (may_join refl a.same ended_all (a.goes frame is_join))

  own_now : Own d p procs k s next m l.own l.branches
  own_now =
      record {
        belongs = o.belongs;
        task = joined_task;
        has_task = set_same tasks m (Some t) (Some joined_task) there;
        but = empty_set;
        stands = stands_now;
        typed = o.typed;
        uses = o.uses;
        placed = o.placed;
        agrees = agrees_now;
      }

  branches_now : AllHold d p procs k s next l.branches
  branches_now =
      all_again d p procs as_many s s tasks next (m + 1) top a.branches l.branches a.same (branches_placed d p procs (m + 1) top a.own_is o.placed) l.all
      (record { same = λ i lo h. set_other tasks m i (Some joined_task) (λ e. omega (arith, lo, e)) }) (λ c u. refl)

  not_ended : IsFalse (is_ended (status l.own))
  not_ended = subst (λ z. IsFalse (is_ended (status z))) (sym a.own_is) refl

  join_live : (i : ℕ) (u : Task) → HasTask next i u → In i (put l.at l.own l.branches) ⊎ (u.wait ≡ W.Done)
  join_live i u h = by (set_back tasks m i there h)
    where
      again : In i (put l.at l.own l.branches) ⊎ InAmong i l.branches → In i (put l.at l.own l.branches)
      again (inl y) = y
      again (inr y) = in_new l.own l.branches l.at y

      old : In i proc ⊎ (u.wait ≡ W.Done) → In i (put l.at l.own l.branches) ⊎ (u.wait ≡ W.Done)
      old (inl y) = inl (again (in_put l.own l.branches l.at y.at))
      old (inr e) = inr e

      by : ((i ≡ m) × (u ≡ joined_task)) ⊎ ((i ≡ m → ⊥) × HasTask tasks i u) → In i (put l.at l.own l.branches) ⊎ (u.wait ≡ W.Done)
      by (inl e) = inl (subst (λ z. In z (put l.at l.own l.branches)) (sym e.0) (put_in l.own l.branches l.at))
      by (inr e) = old (st.live i u e.1)

  join_small : (i : ℕ) (u : Task) → HasTask next i u → u.turns + k < 2 ^ 64
  join_small i u h = by (set_back tasks m i there h)
    where
      by : ((i ≡ m) × (u ≡ joined_task)) ⊎ ((i ≡ m → ⊥) × HasTask tasks i u) → u.turns + k < 2 ^ 64
      by (inl e) = subst (λ z. z.turns + k < 2 ^ 64) (sym e.1) (st.small m t there)
      by (inr e) = st.small i u e.1

  joined_put : State d p procs k next (put l.at l.own l.branches) s
  joined_put =
      record {
        root = root_put d p procs l.at l.own l.branches ∙ st.root;
        holds = put_holds d p procs k k as_many s s tasks next m l.own l.own l.branches l.branches o.belongs.term o.belongs.entry not_ended (λ c h. refl) (set_elsewhere d p procs tasks m top joined_task (omega arith)) (own_now, branches_now) l.at st.holds;
        live = join_live;
        small = join_small;
        typed_store = st.typed_store;
        full = λ i b e. there_again tasks m i (Some joined_task) (st.full i b e);
      }

  pub has_joined : State d p procs k (slice_set tasks m (Some (joined_with t (merged p.bodies tasks ns t.frame)))) proc s
  has_joined = subst (λ z. State d p procs k next z s) (put_same l.at) joined_put
