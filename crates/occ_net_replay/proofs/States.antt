-- A network and a system that hold the same, and changes of one task beside those of one process.
use Rattle.std.proofs.Common.{◌≡◌, ◌∙◌, refl, sym, ap, subst, Bool, true, false, IsTrue, IsFalse, ℕ, ◌+◌, ◌<◌, ◌≤◌, ◌^◌, ◌⊎◌, inl, inr, List, [], Option, Some, arith}
use Rattle.std.specs.Prelude.{slice_get, slice_set}
use mathlib.Core.Bool.{true≢false}
use Rattle.occ_term.specs.declared.message.Message.{Message}
use Rattle.occ_term.specs.Going.{IsGoing}
use Rattle.occ_term.specs.Processes.{Numbered}
use Rattle.occ_term.specs.Selecting.{Enabled}
use Rattle.occ_term.specs.StepUses.{IsPartOf, uses_of_left}
use Rattle.occ_term.specs.Steps.{Doing, Do, Passing, Again, Offering, Awaiting, Choosing, Taking, MessageTaken, Forking, Halted, Faulted, Done, Context, Left, left, status, status_of, is_ended}
use Rattle.occ_term.specs.System.{Process, Processes, no_processes}
use Rattle.occ_term.specs.TermTyping.{Declared}
use Rattle.occ_term.specs.Terms.{Skip, Reception}
use Rattle.occ_term.specs.TypedSteps.{StoreHas, LeftHas}
use Rattle.occ_term.specs.Uses.{Numbers, empty_set, uses_of}
use Rattle.occ_term.specs.Values.{Store}
use Rattle.occ_machine.specs.SameStop.{SameArms, FitsProtocol}
use Rattle.occ_machine.specs.Alike.{Alike}
use Rattle.occ_machine.specs.Compiled.{Program}
use Rattle.occ_machine.specs.Machine.{Body}
use Rattle.occ_machine.specs.declared.task.Arm.{Arm}
use Rattle.occ_machine.specs.declared.task.Task.{Task}
use Rattle.occ_machine.specs.declared.task.Wait.{Wait}
use Rattle.occ_machine.specs.declared.task.Wait.TheVariants as W
use Rattle.occ_net_replay.specs.Replay.{Tasks, HasTask, may_go, made_ready, has_taken, is_done}
use Rattle.occ_net_replay.specs.Moments.{At, here, below}
use Rattle.occ_net_replay.proofs.Fewer.{as_many}
use Rattle.occ_net_replay.proofs.Placed.{size, LeftPlaced}
use Rattle.occ_net_replay.proofs.Holding.{AgreesBut, number_of, put, Stands, may_turn, may_join, offers, awaits, chooses, waits, is_halted, has_failed, has_ended, Own, Holds, AllHold}
use Rattle.occ_net_replay.proofs.Putting.{In, InAmong, in_put, mine, Elsewhere}
use Rattle.occ_net_replay.proofs.Changing.{put_holds}
use Rattle.occ_net_replay.proofs.Tables.{set_same, set_other, set_back, same_or_not, task_once}
use Rattle.occ_net_replay.proofs.Turning.{part_of_part}

-- ---- a wait that no constructor of another one can be

abbrev pub is_offer : Wait → Bool
is_offer W.Ready = false
is_offer (W.Took arm is m) = false
is_offer (W.Offers c m) = true
is_offer (W.Awaits c) = false
is_offer (W.Chooses pri arms) = false
is_offer (W.Joins ns) = false
is_offer W.Halted = false
is_offer W.Done = false
is_offer (W.Faulted e) = false

pub going_is : (w : Wait) → IsTrue (may_go w) → (v : Wait) → w ≡ v → may_go v ≡ false → ⊥
going_is w g v e f = true≢false (sym g ∙ ap may_go e ∙ f)

-- the table has a place for the number
pub record IsThere (tasks : Tasks) (i : ℕ) : Type 0 where
  pub entry : Option Task
  pub is : slice_get tasks i ≡ Some entry

pub there_again : (tasks : Tasks) (i j : ℕ) (v : Option Task) → IsThere tasks j → IsThere (slice_set tasks i v) j
there_again tasks i j v x = by (same_or_not j i)
  where
    by : (j ≡ i) ⊎ (j ≡ i → ⊥) → IsThere (slice_set tasks i v) j
    by (inl e) = record { entry = v; is = ap (slice_get (slice_set tasks i v)) e ∙ set_same tasks i x.entry v (ap (slice_get tasks) (sym e) ∙ x.is) }
    by (inr n) = record { entry = x.entry; is = set_other tasks i j v n ∙ x.is }

module _ (d : Declared) (p : Program) (procs : List Numbered) where
  -- ---- what is known of a process by what its task waits for

  module _ (k : ℕ) (body : Body) (t : Task) where
    pub record GivesAs (own : Left) (ps : Processes) (but : Numbers) (c : ℕ) (m : Message) : Type 0 where
      pub rest : List Context
      pub own_is : own ≡ left (Offering c m) rest
      pub none : ps ≡ no_processes
      pub all : but ≡ empty_set
      pub alike : Alike k d body (made_ready t) (left (Do Skip) rest)

    pub gives_as : (own : Left) (ps : Processes) (but : Numbers) (c : ℕ) (m : Message) → Stands d p procs k body t own ps but → t.wait ≡ W.Offers c m → GivesAs own ps but c m
    gives_as own ps but c m (may_turn g h y a) e = absurd (going_is t.wait g (W.Offers c m) e refl)
    gives_as own ps but c m (may_join g n z a) e = absurd (going_is t.wait (ap may_go g) (W.Offers c m) e refl)
    gives_as own ps but c m (offers {c = i} {m = v} {j = j} w a) e =
        let both : W.Offers i v ≡ W.Offers c m = sym w ∙ e in
        let chan : i ≡ c = cc in
        let sent : v ≡ m = cc in
        record { rest = j; own_is = ap (λ x. left (Offering x v) j) chan ∙ ap (λ x. left (Offering c x) j) sent; none = refl; all = refl; alike = a }
    gives_as own ps but c m (awaits w a) e = let q = sym w ∙ e in absurd cc
    gives_as own ps but c m (chooses w a) e = let q = sym w ∙ e in absurd cc
    gives_as own ps but c m (waits w n z a) e = let q = sym w ∙ e in absurd cc
    gives_as own ps but c m (is_halted w) e = let q = sym w ∙ e in absurd cc
    gives_as own ps but c m (has_failed w) e = let q = sym w ∙ e in absurd cc
    gives_as own ps but c m (has_ended w) e = let q = sym w ∙ e in absurd cc

    pub record GetsAs (own : Left) (ps : Processes) (but : Numbers) (c : ℕ) : Type 0 where
      pub rest : List Context
      pub list : Reception
      pub own_is : own ≡ left (Awaiting c list) rest
      pub none : ps ≡ no_processes
      pub all : but ≡ empty_set
      pub alike : (m : Message) → FitsProtocol (d.protocols c) m → Alike k d body (has_taken t m) (left (Taking [] (MessageTaken list m)) rest)

    pub gets_as : (own : Left) (ps : Processes) (but : Numbers) (c : ℕ) → Stands d p procs k body t own ps but → t.wait ≡ W.Awaits c → GetsAs own ps but c
    gets_as own ps but c (may_turn g h y a) e = absurd (going_is t.wait g (W.Awaits c) e refl)
    gets_as own ps but c (may_join g n z a) e = absurd (going_is t.wait (ap may_go g) (W.Awaits c) e refl)
    gets_as own ps but c (offers w a) e = let q = sym w ∙ e in absurd cc
    gets_as own ps but c (awaits {c = i} {list = list} {j = j} w a) e =
        let chan : i ≡ c = (let q = sym w ∙ e in cc) in
        record { rest = j; list = list; own_is = ap (λ x. left (Awaiting x list) j) chan; none = refl; all = refl; alike = λ m f. a m (subst (λ x. FitsProtocol (d.protocols x) m) (sym chan) f) }
    gets_as own ps but c (chooses w a) e = let q = sym w ∙ e in absurd cc
    gets_as own ps but c (waits w n z a) e = let q = sym w ∙ e in absurd cc
    gets_as own ps but c (is_halted w) e = let q = sym w ∙ e in absurd cc
    gets_as own ps but c (has_failed w) e = let q = sym w ∙ e in absurd cc
    gets_as own ps but c (has_ended w) e = let q = sym w ∙ e in absurd cc

    pub record ChoosesAs (own : Left) (ps : Processes) (but : Numbers) (pri : Bool) (arms : List Arm) : Type 0 where
      pub rest : List Context
      pub enabled : List Enabled
      pub own_is : own ≡ left (Choosing pri enabled) rest
      pub none : ps ≡ no_processes
      pub all : but ≡ empty_set
      pub same : SameArms d (Alike k d body) t rest arms enabled

    pub chooses_as : (own : Left) (ps : Processes) (but : Numbers) (pri : Bool) (arms : List Arm) → Stands d p procs k body t own ps but → t.wait ≡ W.Chooses pri arms → ChoosesAs own ps but pri arms
    chooses_as own ps but pri arms (may_turn g h y a) e = absurd (going_is t.wait g (W.Chooses pri arms) e refl)
    chooses_as own ps but pri arms (may_join g n z a) e = absurd (going_is t.wait (ap may_go g) (W.Chooses pri arms) e refl)
    chooses_as own ps but pri arms (offers w a) e = let q = sym w ∙ e in absurd cc
    chooses_as own ps but pri arms (awaits w a) e = let q = sym w ∙ e in absurd cc
    chooses_as own ps but pri arms (chooses {pri = b} {arms = xs} {es = es} {j = j} w a) e =
        let both : W.Chooses b xs ≡ W.Chooses pri arms = sym w ∙ e in
        let first : b ≡ pri = cc in
        let rest : xs ≡ arms = cc in
        record { rest = j; enabled = es; own_is = ap (λ x. left (Choosing x es) j) first; none = refl; all = refl; same = subst (λ x. SameArms d (Alike k d body) t j x es) rest a }
    chooses_as own ps but pri arms (waits w n z a) e = let q = sym w ∙ e in absurd cc
    chooses_as own ps but pri arms (is_halted w) e = let q = sym w ∙ e in absurd cc
    chooses_as own ps but pri arms (has_failed w) e = let q = sym w ∙ e in absurd cc
    chooses_as own ps but pri arms (has_ended w) e = let q = sym w ∙ e in absurd cc

  -- what has ended is done
  pub ended_done : (k : ℕ) (body : Body) (t : Task) (own : Left) (ps : Processes) (but : Numbers) → Stands d p procs k body t own ps but → IsTrue (is_ended (status own)) → IsTrue (is_done t.wait)
  ended_done k body t own ps but (may_turn {x = x} g h y a) e = absurd (unended x h e)
    where
      unended : (x : Doing) → IsGoing x → IsTrue (is_ended (status_of x)) → ⊥
      unended (Do y) h e = true≢false (sym e)
      unended (Passing l) h e = true≢false (sym e)
      unended (Again l) h e = true≢false (sym e)
      unended (Offering c m) h e = true≢false (sym h)
      unended (Awaiting c list) h e = true≢false (sym e)
      unended (Choosing pri arms) h e = true≢false (sym e)
      unended (Taking xs what) h e = true≢false (sym e)
      unended (Forking bs) h e = true≢false (sym e)
      unended Halted h e = true≢false (sym e)
      unended (Faulted x) h e = true≢false (sym e)
      unended Done h e = true≢false (sym h)
  ended_done k body t own ps but (may_join g m z a) e = absurd (true≢false (sym e))
  ended_done k body t own ps but (offers w a) e = absurd (true≢false (sym e))
  ended_done k body t own ps but (awaits w a) e = absurd (true≢false (sym e))
  ended_done k body t own ps but (chooses w a) e = absurd (true≢false (sym e))
  ended_done k body t own ps but (waits w m z a) e = absurd (true≢false (sym e))
  ended_done k body t own ps but (is_halted w) e = absurd (true≢false (sym e))
  ended_done k body t own ps but (has_failed w) e = absurd (true≢false (sym e))
  ended_done k body t own ps but (has_ended w) e = ap is_done w

  -- ---- states

  pub record State (k : ℕ) (tasks : Tasks) (proc : Process) (s : Store) : Type 0 where
    pub root : number_of proc ≡ 0
    pub holds : Holds d p procs k s tasks proc
    pub live : (i : ℕ) (t : Task) → HasTask tasks i t → In i proc ⊎ (t.wait ≡ W.Done)
    pub small : (i : ℕ) (t : Task) → HasTask tasks i t → t.turns + k < 2 ^ 64
    pub typed_store : StoreHas d s
    pub full : (i : ℕ) (b : Body) → slice_get p.bodies i ≡ Some b → IsThere tasks i

  -- the process of a task that is not done
  pub record Live (k : ℕ) (tasks : Tasks) (proc : Process) (s : Store) (i : ℕ) (t : Task) : Type 0 where
    pub own : Left
    pub branches : Processes
    pub at : At i own branches proc
    pub mine : Own d p procs k s tasks i own branches
    pub all : AllHold d p procs k s tasks branches
    pub same : mine.task ≡ t

  pub live_at : (k : ℕ) (tasks : Tasks) (proc : Process) (s : Store) (i : ℕ) (t : Task) → State k tasks proc s → HasTask tasks i t → (t.wait ≡ W.Done → ⊥) → Live k tasks proc s i t
  live_at k tasks proc s i t st h n = by (st.live i t h)
    where
      by : In i proc ⊎ (t.wait ≡ W.Done) → Live k tasks proc s i t
      by (inl x) = let y = mine d p procs k s tasks x.at st.holds in record { own = x.own; branches = x.branches; at = x.at; mine = y.0; all = y.1; same = task_once tasks i y.0.has_task h }
      by (inr e) = absurd (n e)

  pub root_put : {n : ℕ} {own : Left} {ps : Processes} {q : Process} → (x : At n own ps q) (new : Left) (others : Processes) → number_of (put x new others) ≡ number_of q
  root_put here new others = refl
  root_put (below x) new others = refl

  pub set_elsewhere : (tasks : Tasks) (n hi : ℕ) (t : Task) → n + 1 ≤ hi → Elsewhere n hi tasks (slice_set tasks n (Some t))
  set_elsewhere tasks n hi t h = record { before = λ i l. set_other tasks n i (Some t) (λ e. omega (arith, l, e)); behind = λ i l. set_other tasks n i (Some t) (λ e. omega (arith, l, e, h)) }

  -- a task waits for something else, and its process goes on; the store stays as it is
  module _ (k : ℕ) (tasks : Tasks) (proc : Process) (s : Store) (st : State k tasks proc s) (i : ℕ) (t new : Task) (own next : Left) (x : At i own no_processes proc) (o : Own d p procs k s tasks i own no_processes) (same : o.task ≡ t) (there : HasTask tasks i t) (all : o.but ≡ empty_set) (frame : new.frame ≡ t.frame) (turns : new.turns ≡ t.turns) (stands : Stands d p procs k o.belongs.body new next no_processes empty_set) (typed : LeftHas d next) (uses : IsPartOf (uses_of_left next) (uses_of_left own)) (placed : LeftPlaced procs (i + 1) (i + 1 + size o.belongs.term) next) (live : IsFalse (is_ended (status own))) where
    moved_own : Own d p procs k s (slice_set tasks i (Some new)) i next no_processes
    moved_own =
        record {
          belongs = o.belongs;
          task = new;
          has_task = set_same tasks i (Some t) (Some new) there;
          but = empty_set;
          stands = stands;
          typed = typed;
          uses = part_of_part (uses_of_left next) (uses_of_left own) (uses_of o.belongs.term) uses o.uses;
          placed = placed;
          agrees = subst (λ f. AgreesBut o.belongs.body.cells empty_set f s) (ap (λ z. z.frame) same ∙ sym frame) (subst (λ b. AgreesBut o.belongs.body.cells b o.task.frame s) all o.agrees);
        }

    pub moved : State k (slice_set tasks i (Some new)) (put x next no_processes) s
    moved =
        record {
          root = root_put x next no_processes ∙ st.root;
          holds = put_holds d p procs k k as_many s s tasks (slice_set tasks i (Some new)) i own next no_processes no_processes o.belongs.term o.belongs.entry live (λ c h. refl)
              (set_elsewhere tasks i (i + 1 + size o.belongs.term) new (omega arith)) (moved_own, tt) x st.holds;
          live = moved_live;
          small = moved_small;
          typed_store = st.typed_store;
          full = λ j b e. there_again tasks i j (Some new) (st.full j b e);
        }
      where
        found : (j : ℕ) → In j proc → In j (put x next no_processes)
        found j y = by (in_put next no_processes x y.at)
          where
            by : In j (put x next no_processes) ⊎ InAmong j no_processes → In j (put x next no_processes)
            by (inl z) = z
            by (inr z) = elim z.at [ ]

        moved_live : (j : ℕ) (u : Task) → HasTask (slice_set tasks i (Some new)) j u → In j (put x next no_processes) ⊎ (u.wait ≡ W.Done)
        moved_live j u h = by (set_back tasks i j there h)
          where
            old : In j proc ⊎ (u.wait ≡ W.Done) → In j (put x next no_processes) ⊎ (u.wait ≡ W.Done)
            old (inl y) = inl (found j y)
            old (inr e) = inr e

            by : ((j ≡ i) × (u ≡ new)) ⊎ ((j ≡ i → ⊥) × HasTask tasks j u) → In j (put x next no_processes) ⊎ (u.wait ≡ W.Done)
            by (inl e) = inl (subst (λ z. In z (put x next no_processes)) (sym e.0) (found i (record { own = own; branches = no_processes; at = x })))
            by (inr e) = old (st.live j u e.1)

        moved_small : (j : ℕ) (u : Task) → HasTask (slice_set tasks i (Some new)) j u → u.turns + k < 2 ^ 64
        moved_small j u h = by (set_back tasks i j there h)
          where
            by : ((j ≡ i) × (u ≡ new)) ⊎ ((j ≡ i → ⊥) × HasTask tasks j u) → u.turns + k < 2 ^ 64
            by (inl e) = subst (λ n. n + k < 2 ^ 64) (sym (ap (λ z. z.turns) e.1 ∙ turns)) (st.small i t there)
            by (inr e) = st.small j u e.1
