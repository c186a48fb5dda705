-- When the network's tasks and the system's processes hold the same: one store for all processes, a frame for each task.
use Rattle.std.proofs.Common.{◌≡◌, ◌∙◌, refl, sym, ap, subst, Bool, true, false, IsTrue, IsFalse, ℕ, ◌+◌, ◌<◌, ◌≤◌, List, [], Option, Some, None, arith}
use Rattle.std.specs.Prelude.{slice_get, ◌||◌}
use Rattle.std.specs.Bool.{⊤}
use Rattle.occ_term.specs.declared.fault.Fault.{Fault}
use Rattle.occ_term.specs.declared.message.Message.{Message}
use Rattle.occ_term.specs.Going.{IsGoing}
use Rattle.occ_term.specs.Frames.{Variables, is_held, at}
use Rattle.occ_term.specs.Processes.{Numbered, numbered}
use Rattle.occ_term.specs.Selecting.{Enabled, Setting}
use Rattle.occ_term.specs.StepUses.{IsPartOf, uses_of_left}
use Rattle.occ_term.specs.Steps.{Doing, Do, Offering, Awaiting, Choosing, Taken, Taking, MessageTaken, Forking, Halted, Faulted, Done, Context, Left, left}
use Rattle.occ_term.specs.System.{Process, process, Processes, no_processes, and_process, AllEnded}
use Rattle.occ_term.specs.TermTyping.{Declared}
use Rattle.occ_term.specs.Terms.{Term, Skip, Branches, no_branches, and_branch, Reception}
use Rattle.occ_term.specs.TypedSteps.{StoreHas, LeftHas}
use Rattle.occ_term.specs.Uses.{Uses, Numbers, empty_set, uses_of, uses_of_branches}
use Rattle.occ_term.specs.Values.{Store, is_of_declared}
use Rattle.occ_term.proofs.KeptStores.{left_part, right_part, whole_part}
use Rattle.occ_term.proofs.TypedValues.{or_left, or_right}
use Rattle.occ_machine.specs.SameStop.{Agrees, Frames, FitsProtocol, SameArms, Joined, indices_in, joined_with, numbers_of, used_by}
use Rattle.occ_machine.specs.Alike.{Alike, DoesAs}
use Rattle.occ_machine.specs.Compiled.{Program}
use Rattle.occ_machine.specs.Machine.{Body}
use Rattle.occ_machine.specs.declared.task.Arm.{Arm}
use Rattle.occ_machine.specs.declared.task.Task.{Task}
use Rattle.occ_machine.specs.declared.task.Wait.TheVariants as W
use Rattle.occ_net_replay.specs.Replay.{Tasks, HasTask, may_go, made_ready, has_taken}
use Rattle.occ_net_replay.specs.Moments.{At, here, below, Among, first, later, ProceedsBy, by_taking, message_taken}
use Rattle.occ_net_replay.proofs.Fewer.{Fewer, alike_fewer, arms_fewer}
use Rattle.occ_net_replay.proofs.Placed.{size, BranchesPlaced, LeftPlaced}

-- the branches with these numbers, in order
abbrev pub SameNumbers : Branches → Processes → Type 0
SameNumbers no_branches no_processes = ⊤
SameNumbers no_branches (and_process p ps) = ⊥
SameNumbers (and_branch n b bs) no_processes = ⊥
SameNumbers (and_branch n b bs) (and_process (process m own qs) ps) = (m ≡ n) × SameNumbers bs ps

-- a frame of these cells, which agrees with the store on all cells but some
pub record AgreesBut (cells : List ℕ) (but : Numbers) (f : Variables) (s : Store) : Type 0 where
  pub shape : Frames cells f
  pub same : (c : ℕ) → IsTrue (is_held cells c) → IsFalse (but c) → at f c ≡ s c

-- an arm that was taken, where the task has the arm's indices
pub takes_arm : (a : Arm) (again : List Setting) (what : Taken) → a.indices ≡ indices_in again → ProceedsBy (W.Took a.number a.indices (message_taken what)) (Taking again what)
takes_arm a again what e = subst (λ is. ProceedsBy (W.Took a.number is (message_taken what)) (Taking again what)) (sym e) by_taking

pub agrees_all : (d : Declared) (cells : List ℕ) (f : Variables) (s : Store) → StoreHas d s → AgreesBut cells empty_set f s → Agrees d cells f s
agrees_all d cells f s h a =
    record { shape = a.shape; same = λ c m. a.same c m refl; typed = λ c m. subst (λ v. IsTrue (is_of_declared (d.types c) v)) (sym (a.same c m refl)) (h c) }

pub agrees_but : (d : Declared) (cells : List ℕ) (but : Numbers) (f : Variables) (s : Store) → Agrees d cells f s → AgreesBut cells but f s
agrees_but d cells but f s a = record { shape = a.shape; same = λ c m n. a.same c m }

abbrev pub number_of : Process → ℕ
number_of (process n own ps) = n

term_in : Option Numbered → Term
term_in None = Skip
term_in (Some x) = x.term

pub one_term : {n : ℕ} {t u : Term} → Some (numbered n t) ≡ Some (numbered n u) → t ≡ u
unfolding term_in
one_term e = ap term_in e

-- ---- paths in the system's tree

abbrev mutual
  pub put : {n : ℕ} {own : Left} {ps : Processes} {q : Process} → At n own ps q → Left → Processes → Process
  put {n = n} here new others = process n new others
  put (below {m = m} {a = a} x) new others = process m a (put_among x new others)

  pub put_among : {n : ℕ} {own : Left} {ps : Processes} {qs : Processes} → Among n own ps qs → Left → Processes → Processes
  put_among (first {qs = qs} x) new others = and_process (put x new others) qs
  put_among (later {p = p} x) new others = and_process p (put_among x new others)

module _ (d : Declared) (p : Program) (procs : List Numbered) where
  -- what belongs to a process number
  pub record Belongs (n : ℕ) : Type 0 where
    pub term : Term
    pub body : Body
    pub entry : slice_get procs n ≡ Some (numbered n term)
    pub code : slice_get p.bodies n ≡ Some body
    pub does : DoesAs d body term

  -- a task and what is left of its process, with its branches; and the cells on which the two need not agree now
  pub data Stands (k : ℕ) (body : Body) (t : Task) : Left → Processes → Numbers → Type 0 where
    may_turn : {x : Doing} {j : List Context} → IsTrue (may_go t.wait) → IsGoing x → ProceedsBy t.wait x → Alike k d body t (left x j) → Stands k body t (left x j) no_processes empty_set
    may_join : {bs : Branches} {j : List Context} {ps : Processes}
        → t.wait ≡ W.Ready → SameNumbers bs ps → AllEnded ps → Alike k d body t (left (Do Skip) j) → Stands k body t (left (Forking bs) j) ps empty_set
    offers : {c : ℕ} {m : Message} {j : List Context} → t.wait ≡ W.Offers c m → Alike k d body (made_ready t) (left (Do Skip) j) → Stands k body t (left (Offering c m) j) no_processes empty_set
    awaits : {c : ℕ} {list : Reception} {j : List Context}
        → t.wait ≡ W.Awaits c → ((m : Message) → FitsProtocol (d.protocols c) m → Alike k d body (has_taken t m) (left (Taking [] (MessageTaken list m)) j))
        → Stands k body t (left (Awaiting c list) j) no_processes empty_set
    chooses : {pri : Bool} {arms : List Arm} {es : List Enabled} {j : List Context}
        → t.wait ≡ W.Chooses pri arms → SameArms d (Alike k d body) t j arms es → Stands k body t (left (Choosing pri es) j) no_processes empty_set
    waits : {ns : List ℕ} {bs : Branches} {j : List Context} {ps : Processes}
        → t.wait ≡ W.Joins ns → numbers_of bs ≡ ns → SameNumbers bs ps
        → ((g : Variables) → Joined (uses_of_branches bs).writes t.frame g → Alike k d body (joined_with t g) (left (Do Skip) j))
        → Stands k body t (left (Forking bs) j) ps (uses_of_branches bs).writes
    is_halted : {j : List Context} → t.wait ≡ W.Halted → Stands k body t (left Halted j) no_processes empty_set
    has_failed : {e : Fault} {j : List Context} → t.wait ≡ W.Faulted e → Stands k body t (left (Faulted e) j) no_processes empty_set
    has_ended : {j : List Context} → t.wait ≡ W.Done → Stands k body t (left Done j) no_processes empty_set

  pub record Own (k : ℕ) (s : Store) (tasks : Tasks) (n : ℕ) (own : Left) (ps : Processes) : Type 0 where
    pub belongs : Belongs n
    pub task : Task
    pub has_task : HasTask tasks n task
    pub but : Numbers
    pub stands : Stands k belongs.body task own ps but
    pub typed : LeftHas d own
    pub uses : IsPartOf (uses_of_left own) (uses_of belongs.term)
    pub placed : LeftPlaced procs (n + 1) (n + 1 + size belongs.term) own
    pub agrees : AgreesBut belongs.body.cells but task.frame s

  abbrev mutual
    pub Holds : ℕ → Store → Tasks → Process → Type 0
    Holds k s tasks (process n own ps) = Own k s tasks n own ps × AllHold k s tasks ps

    pub AllHold : ℕ → Store → Tasks → Processes → Type 0
    AllHold k s tasks no_processes = ⊤
    AllHold k s tasks (and_process q qs) = Holds k s tasks q × AllHold k s tasks qs

  -- the branches of a process that has some
  pub data Branched (own : Left) : Processes → Type 0 where
    alone_is : Branched own no_processes
    forked_is : {bs : Branches} {j : List Context} {ps : Processes} → own ≡ left (Forking bs) j → SameNumbers bs ps → Branched own ps

  pub branched : {k : ℕ} {body : Body} {t : Task} {own : Left} {ps : Processes} {but : Numbers} → Stands k body t own ps but → Branched own ps
  branched (may_turn m g w a) = alone_is
  branched (may_join m n e a) = forked_is refl n
  branched (offers w a) = alone_is
  branched (awaits w a) = alone_is
  branched (chooses w a) = alone_is
  branched (waits w e n a) = forked_is refl n
  branched (is_halted w) = alone_is
  branched (has_failed w) = alone_is
  branched (has_ended w) = alone_is

  -- ---- what another process's turn leaves as it was

  pub record SameTasks (lo hi : ℕ) (old new : Tasks) : Type 0 where
    pub same : (i : ℕ) → lo ≤ i → i < hi → slice_get new i ≡ slice_get old i

  abbrev pub SameCells : Uses → Store → Store → Type 0
  SameCells u s s' = (c : ℕ) → IsTrue (used_by u c) → s' c ≡ s c

  pub placed_order : (bs : Branches) (lo hi : ℕ) → BranchesPlaced procs lo hi bs → lo ≤ hi
  placed_order no_branches lo hi h = h
  placed_order (and_branch n b bs) lo hi h = let x = placed_order bs (n + 1 + size b) hi h.4 in let y = h.0 in omega (arith, x, y)

  same_number : (n : ℕ) (t u : Term) → slice_get procs n ≡ Some (numbered n t) → slice_get procs n ≡ Some (numbered n u) → u ≡ t
  same_number n t u e f = one_term (sym f ∙ e)

  pub stands_fewer : {k l : ℕ} → Fewer k l → (body : Body) (t : Task) (own : Left) (ps : Processes) (but : Numbers) → Stands k body t own ps but → Stands l body t own ps but
  stands_fewer f body t own ps but (may_turn m g w a) = may_turn m g w (alike_fewer f d body _ _ a)
  stands_fewer f body t own ps but (may_join m n e a) = may_join m n e (alike_fewer f d body _ _ a)
  stands_fewer f body t own ps but (offers w a) = offers w (alike_fewer f d body _ _ a)
  stands_fewer f body t own ps but (awaits w a) = awaits w (λ m h. alike_fewer f d body _ _ (a m h))
  stands_fewer f body t own ps but (chooses {arms = arms} {es = es} {j = j} w a) = chooses w (arms_fewer f d body t j arms es a)
  stands_fewer f body t own ps but (waits w e n a) = waits w e n (λ g h. alike_fewer f d body _ _ (a g h))
  stands_fewer f body t own ps but (is_halted w) = is_halted w
  stands_fewer f body t own ps but (has_failed w) = has_failed w
  stands_fewer f body t own ps but (has_ended w) = has_ended w

  pub used_part : (a b : Uses) → IsPartOf a b → (c : ℕ) → IsTrue (used_by a c) → IsTrue (used_by b c)
  used_part a b h c m = by (a.reads c) refl m
    where
      by : (x : Bool) → a.reads c ≡ x → IsTrue (x || a.writes c) → IsTrue (used_by b c)
      by true e m = or_left (b.reads c) (b.writes c) (h.reads c e)
      by false e m = or_right (b.reads c) (b.writes c) (h.writes c m)

  pub branches_part : {own : Left} {bs : Branches} {j : List Context} (u : Uses) → own ≡ left (Forking bs) j → IsPartOf (uses_of_left own) u → IsPartOf (uses_of_branches bs) u
  branches_part {bs = bs} {j = j} u e h = left_part (uses_of_branches bs) _ u (subst (λ x. IsPartOf (uses_of_left x) u) e h)

  pub branches_placed : {own : Left} {bs : Branches} {j : List Context} (lo hi : ℕ) → own ≡ left (Forking bs) j → LeftPlaced procs lo hi own → BranchesPlaced procs lo hi bs
  branches_placed lo hi e h = (subst (LeftPlaced procs lo hi) e h).0.0

  pub held_used : (body : Body) (t : Term) → DoesAs d body t → (c : ℕ) → IsTrue (is_held body.cells c) → IsTrue (used_by (uses_of t) c)
  held_used body t h c m = sym (h.cells.members c) ∙ m

  -- its own record, where the store has its cells as before, and the table its task
  own_again : {k l : ℕ} → Fewer k l → (s s' : Store) (tasks new : Tasks) (n : ℕ) (own : Left) (ps : Processes) → (o : Own k s tasks n own ps) → slice_get new n ≡ slice_get tasks n → ((c : ℕ) → IsTrue (is_held o.belongs.body.cells c) → IsFalse (o.but c) → s' c ≡ s c) → Own l s' new n own ps
  own_again f s s' tasks new n own ps o same cells =
      record {
        belongs = o.belongs;
        task = o.task;
        has_task = same ∙ o.has_task;
        but = o.but;
        stands = stands_fewer f o.belongs.body o.task own ps o.but o.stands;
        typed = o.typed;
        uses = o.uses;
        placed = o.placed;
        agrees = record { shape = o.agrees.shape; same = λ c m e. o.agrees.same c m e ∙ sym (cells c m e) };
      }

  -- the branches of a process, where all branches of a fork are as they should be
  forks_again : {k l : ℕ} → Fewer k l → (s s' : Store) (tasks new : Tasks) (n : ℕ) (own : Left) (ps : Processes) → (o : Own k s tasks n own ps) → Branched own ps → SameTasks n (n + 1 + size o.belongs.term) tasks new → SameCells (uses_of o.belongs.term) s s' → ((bs : Branches) → SameNumbers bs ps → BranchesPlaced procs (n + 1) (n + 1 + size o.belongs.term) bs → SameTasks (n + 1) (n + 1 + size o.belongs.term) tasks new → SameCells (uses_of_branches bs) s s' → AllHold l s' new ps) → AllHold l s' new ps
  forks_again f s s' tasks new n own ps o alone_is st sc g = tt
  forks_again f s s' tasks new n own ps o (forked_is {bs = bs} e m) st sc g =
      g bs m (branches_placed (n + 1) (n + 1 + size o.belongs.term) e o.placed) (record { same = λ i x y. st.same i (omega (arith, x)) y })
      (λ c u. sc c (used_part (uses_of_branches bs) (uses_of o.belongs.term) (branches_part (uses_of o.belongs.term) e o.uses) c u))

  mutual
    pub again : {k l : ℕ} → Fewer k l → (s s' : Store) (tasks new : Tasks) (q : Process) (t : Term) → Holds k s tasks q → slice_get procs (number_of q) ≡ Some (numbered (number_of q) t) → SameTasks (number_of q) (number_of q + 1 + size t) tasks new → SameCells (uses_of t) s s' → Holds l s' new q
    again f s s' tasks new (process n own ps) t (o, rest) entry st sc =
        let same : o.belongs.term ≡ t = same_number n t o.belongs.term entry o.belongs.entry in
        let tasks_same : SameTasks n (n + 1 + size o.belongs.term) tasks new = subst (λ z. SameTasks n (n + 1 + size z) tasks new) (sym same) st in
        let cells_same : SameCells (uses_of o.belongs.term) s s' = subst (λ z. SameCells (uses_of z) s s') (sym same) sc in (
          own_again f s s' tasks new n own ps o (tasks_same.same n (omega arith) (omega arith)) (λ c m e. cells_same c (held_used o.belongs.body o.belongs.term o.belongs.does c m)),
          forks_again f s s' tasks new n own ps o (branched o.stands) tasks_same cells_same (λ bs m b st' sc'. all_again f s s' tasks new (n + 1) (n + 1 + size o.belongs.term) bs ps m b rest st' sc'),
        )

    pub all_again : {k l : ℕ} → Fewer k l → (s s' : Store) (tasks new : Tasks) (lo hi : ℕ) (bs : Branches) (ps : Processes) → SameNumbers bs ps → BranchesPlaced procs lo hi bs → AllHold k s tasks ps → SameTasks lo hi tasks new → SameCells (uses_of_branches bs) s s' → AllHold l s' new ps
    all_again f s s' tasks new lo hi no_branches no_processes m b h st sc = tt
    all_again f s s' tasks new lo hi no_branches (and_process q qs) m b h st sc = absurd m
    all_again f s s' tasks new lo hi (and_branch i t bs) no_processes m b h st sc = absurd m
    all_again f s s' tasks new lo hi (and_branch i t bs) (and_process (process n own qs) ps) m b h st sc =
        let at : n ≡ i = m.0 in
        let entry : slice_get procs n ≡ Some (numbered n t) = subst (λ z. slice_get procs z ≡ Some (numbered z t)) (sym at) b.1 in
        let low = b.0 in
        let top = placed_order bs (i + 1 + size t) hi b.4 in (
          again f s s' tasks new (process n own qs) t h.0 entry (record { same = λ j x y. st.same j (omega (arith, x, at, low)) (omega (arith, y, at, top)) })
              (λ c u. sc c (used_part (uses_of t) (uses_of_branches (and_branch i t bs)) (left_part (uses_of t) (uses_of_branches bs) _ (whole_part (uses_of_branches (and_branch i t bs)))) c u)),
          all_again f s s' tasks new (i + 1 + size t) hi bs ps m.1 b.4 h.1 (record { same = λ j x y. st.same j (omega (arith, x, low)) y })
              (λ c u. sc c (used_part (uses_of_branches bs) (uses_of_branches (and_branch i t bs)) (right_part (uses_of t) (uses_of_branches bs) _ (whole_part (uses_of_branches (and_branch i t bs)))) c u)),
        )
