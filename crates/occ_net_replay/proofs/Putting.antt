-- A change of one process in the system's tree, of its task and of cells that it can write, leaves the rest as it was.
use Rattle.std.proofs.Common.{◌≡◌, ◌∙◌, refl, sym, ap, subst, Bool, true, false, IsTrue, ℕ, ◌+◌, ◌<◌, ◌≤◌, ◌⊎◌, inl, inr, List, Some, arith}
use Rattle.std.specs.Prelude.{slice_get, ◌||◌}
use mathlib.Core.Bool.{true≢false}
use Rattle.occ_term.specs.Processes.{Numbered, numbered}
use Rattle.occ_term.specs.StepUses.{IsPartOf}
use Rattle.occ_term.specs.Steps.{Left, status, is_ended}
use Rattle.occ_term.specs.System.{Process, process, Processes, no_processes, and_process, AllEnded, GoesFrom, TurnIn, turn_here, turn_below, TurnAmong, turn_first, turn_later, ChangeIn, change_here, change_below, ChangeAmong, change_first, change_later, begun}
use Rattle.occ_term.specs.TermTyping.{Declared}
use Rattle.occ_term.specs.Terms.{Term, Branches, no_branches, and_branch}
use Rattle.occ_term.specs.Turns.{Turn}
use Rattle.occ_term.specs.Uses.{Uses, uses_of, uses_of_branches, ApartFromAll}
use Rattle.occ_term.specs.Values.{Store}
use Rattle.occ_term.proofs.KeptStores.{left_part, right_part, whole_part, either_of}
use Rattle.occ_machine.specs.SameStop.{used_by}
use Rattle.occ_machine.specs.Compiled.{Program}
use Rattle.occ_net_replay.specs.Replay.{Tasks}
use Rattle.occ_net_replay.specs.Moments.{At, here, below, Among, first, later}
use Rattle.occ_net_replay.proofs.Holding.{SameNumbers, number_of, put, put_among, Own, Holds, AllHold, Branched, alone_is, forked_is, branched, placed_order, branches_part, branches_placed, one_term}
use Rattle.occ_net_replay.proofs.Placed.{size, BranchesPlaced}
use Rattle.occ_net_replay.proofs.Turning.{part_of_part}

-- ---- the system's own relations along a path

mutual
  pub turn_put : {quantum n : ℕ} {own b c : Left} {ps : Processes} {s s' : Store} {q : Process} → (x : At n own ps q) → GoesFrom own ps b → Turn quantum b s c s' → TurnIn quantum n q s (put x c (begun (status c))) s' (status c)
  turn_put here g t = turn_here g t
  turn_put (below x) g t = turn_below (turn_among x g t)

  turn_among : {quantum n : ℕ} {own b c : Left} {ps qs : Processes} {s s' : Store} → (x : Among n own ps qs) → GoesFrom own ps b → Turn quantum b s c s' → TurnAmong quantum n qs s (put_among x c (begun (status c))) s' (status c)
  turn_among (first x) g t = turn_first (turn_put x g t)
  turn_among (later x) g t = turn_later (turn_among x g t)

mutual
  pub change_put : (R : Left → Left → Type 0) {n : ℕ} {own : Left} {q : Process} → (new : Left) → (x : At n own no_processes q) → R own new → ChangeIn R n q (put x new no_processes)
  change_put R new here r = change_here r
  change_put R new (below x) r = change_below (change_among R new x r)

  change_among : (R : Left → Left → Type 0) {n : ℕ} {own : Left} {qs : Processes} → (new : Left) → (x : Among n own no_processes qs) → R own new → ChangeAmong R n qs (put_among x new no_processes)
  change_among R new (first x) r = change_first (change_put R new x r)
  change_among R new (later x) r = change_later (change_among R new x r)

-- ---- which processes there are

pub record In (m : ℕ) (q : Process) : Type 0 where
  pub own : Left
  pub branches : Processes
  pub at : At m own branches q

pub record InAmong (m : ℕ) (qs : Processes) : Type 0 where
  pub own : Left
  pub branches : Processes
  pub at : Among m own branches qs

-- each is still there, but for the branches of the process that is changed
in_below : {m i : ℕ} {a : Left} {qs rs : Processes} → InAmong m qs ⊎ InAmong m rs → In m (process i a qs) ⊎ InAmong m rs
in_below (inl x) = inl (record { own = x.own; branches = x.branches; at = below x.at })
in_below (inr x) = inr x

in_first : {m : ℕ} {q : Process} {qs rs : Processes} → In m q ⊎ InAmong m rs → InAmong m (and_process q qs) ⊎ InAmong m rs
in_first (inl x) = inl (record { own = x.own; branches = x.branches; at = first x.at })
in_first (inr x) = inr x

in_later : {m : ℕ} {q : Process} {qs rs : Processes} → InAmong m qs ⊎ InAmong m rs → InAmong m (and_process q qs) ⊎ InAmong m rs
in_later (inl x) = inl (record { own = x.own; branches = x.branches; at = later x.at })
in_later (inr x) = inr x

mutual
  pub in_put : {n m : ℕ} {own b : Left} {ps rs : Processes} {q : Process} → (new : Left) (others : Processes) → (x : At n own ps q) → At m b rs q → In m (put x new others) ⊎ InAmong m ps
  in_put new others here here = inl (record { own = _; branches = _; at = here })
  in_put new others here (below y) = inr (record { own = _; branches = _; at = y })
  in_put new others (below x) here = inl (record { own = _; branches = _; at = here })
  in_put new others (below x) (below y) = in_below (in_put_among new others x y)

  in_put_among : {n m : ℕ} {own b : Left} {ps rs qs : Processes} → (new : Left) (others : Processes) → (x : Among n own ps qs) → Among m b rs qs → InAmong m (put_among x new others) ⊎ InAmong m ps
  in_put_among new others (first x) (first y) = in_first (in_put new others x y)
  in_put_among new others (first x) (later y) = inl (record { own = _; branches = _; at = later y })
  in_put_among new others (later x) (first y) = inl (record { own = _; branches = _; at = first y })
  in_put_among new others (later x) (later y) = in_later (in_put_among new others x y)

-- nothing new
mutual
  pub put_same : {n : ℕ} {own : Left} {ps : Processes} {q : Process} → (x : At n own ps q) → put x own ps ≡ q
  put_same here = refl
  put_same (below {m = m} {a = a} x) = ap (process m a) (put_same_among x)

  put_same_among : {n : ℕ} {own : Left} {ps qs : Processes} → (x : Among n own ps qs) → put_among x own ps ≡ qs
  put_same_among (first {qs = qs} x) = ap (λ q. and_process q qs) (put_same x)
  put_same_among (later {p = p} x) = ap (and_process p) (put_same_among x)

-- the process itself is there
mutual
  pub put_in : {n : ℕ} {own : Left} {ps : Processes} {q : Process} → (next : Left) (others : Processes) → (x : At n own ps q) → In n (put x next others)
  put_in next others here = record { own = _; branches = _; at = here }
  put_in next others (below x) = let y = put_in_among next others x in record { own = y.own; branches = y.branches; at = below y.at }

  put_in_among : {n : ℕ} {own : Left} {ps qs : Processes} → (next : Left) (others : Processes) → (x : Among n own ps qs) → InAmong n (put_among x next others)
  put_in_among next others (first x) = let y = put_in next others x in record { own = y.own; branches = y.branches; at = first y.at }
  put_in_among next others (later x) = let y = put_in_among next others x in record { own = y.own; branches = y.branches; at = later y.at }

mutual
  pub at_put : {n : ℕ} {own : Left} {ps : Processes} {q : Process} → (x : At n own ps q) (next : Left) (others : Processes) → At n next others (put x next others)
  at_put here next others = here
  at_put (below x) next others = below (among_put x next others)

  among_put : {n : ℕ} {own : Left} {ps qs : Processes} → (x : Among n own ps qs) (next : Left) (others : Processes) → Among n next others (put_among x next others)
  among_put (first x) next others = first (at_put x next others)
  among_put (later x) next others = later (among_put x next others)

-- the new branches are there
mutual
  pub in_new : {n m : ℕ} {own : Left} {ps : Processes} {q : Process} → (new : Left) (others : Processes) → (x : At n own ps q) → InAmong m others → In m (put x new others)
  in_new new others here y = record { own = y.own; branches = y.branches; at = below y.at }
  in_new new others (below x) y = let z = in_new_among new others x y in record { own = z.own; branches = z.branches; at = below z.at }

  in_new_among : {n m : ℕ} {own : Left} {ps qs : Processes} → (new : Left) (others : Processes) → (x : Among n own ps qs) → InAmong m others → InAmong m (put_among x new others)
  in_new_among new others (first x) y = let z = in_new new others x y in record { own = z.own; branches = z.branches; at = first z.at }
  in_new_among new others (later x) y = let z = in_new_among new others x y in record { own = z.own; branches = z.branches; at = later z.at }

-- ---- what the usage rules keep apart

pub apart_used : (a : Uses) (bs : Branches) (c : ℕ) → ApartFromAll a bs → IsTrue (a.writes c) → IsTrue (used_by (uses_of_branches bs) c) → ⊥
apart_used a no_branches c h w u = true≢false (sym u)
apart_used a (and_branch n t bs) c h w u = by ((uses_of t).reads c) ((uses_of t).writes c) refl refl u (apart_used a bs c h.1 w)
  where
    by : (x y : Bool) → (uses_of t).reads c ≡ x → (uses_of t).writes c ≡ y → IsTrue ((x || (uses_of_branches bs).reads c) || (y || (uses_of_branches bs).writes c)) → (IsTrue (used_by (uses_of_branches bs) c) → ⊥) → ⊥
    by true y e f u g = h.0.first_writes c w (ap (λ z. z || (uses_of t).writes c) e)
    by false true e f u g = h.0.first_writes c w (ap (λ z. (uses_of t).reads c || z) f ∙ ap (λ z. z || true) e)
    by false false e f u g = g u

pub apart_written : (a : Uses) (bs : Branches) (c : ℕ) → ApartFromAll a bs → IsTrue (used_by a c) → IsTrue ((uses_of_branches bs).writes c) → ⊥
apart_written a no_branches c h u w = true≢false (sym w)
apart_written a (and_branch n t bs) c h u w = either_of ((uses_of t).writes c) ((uses_of_branches bs).writes c) (λ x. h.0.second_writes c x u) (λ x. apart_written a bs c h.1 u x) w

pub same_put : {n : ℕ} {own : Left} {ps qs : Processes} → (new : Left) (others : Processes) (bs : Branches) → (x : Among n own ps qs) → SameNumbers bs qs → SameNumbers bs (put_among x new others)
same_put new others no_branches (first x) m = absurd m
same_put new others no_branches (later x) m = absurd m
same_put new others (and_branch i t bs) (first here) m = m
same_put new others (and_branch i t bs) (first (below x)) m = m
same_put new others (and_branch i t bs) (later {p = process j a qs} x) m = (m.0, same_put new others bs x m.1)

-- where all branches have ended, no process among them has not
pub ended_inside : {n : ℕ} {own : Left} {ps qs : Processes} → (x : Among n own ps qs) → AllEnded qs → IsTrue (is_ended (status own))
ended_inside {ps = no_processes} (first here) h = h.0
ended_inside {ps = and_process p ps} (first here) h = absurd h
ended_inside (first (below {qs = no_processes} x)) h = elim x [ ]
ended_inside (first (below {qs = and_process p ps} x)) h = absurd h
ended_inside (later {p = process m a no_processes} x) h = ended_inside x h.1
ended_inside (later {p = process m a (and_process p ps)} x) h = absurd h

-- the tasks of other numbers
pub record Elsewhere (lo hi : ℕ) (old new : Tasks) : Type 0 where
  pub before : (i : ℕ) → i < lo → slice_get new i ≡ slice_get old i
  pub behind : (i : ℕ) → hi ≤ i → slice_get new i ≡ slice_get old i

module _ (d : Declared) (p : Program) (procs : List Numbered) (k : ℕ) (s : Store) (tasks : Tasks) where
  mutual
    pub mine : {n : ℕ} {own : Left} {ps : Processes} {q : Process} → At n own ps q → Holds d p procs k s tasks q → Holds d p procs k s tasks (process n own ps)
    mine here h = h
    mine (below x) h = mine_among x h.1

    pub mine_among : {n : ℕ} {own : Left} {ps qs : Processes} → Among n own ps qs → AllHold d p procs k s tasks qs → Holds d p procs k s tasks (process n own ps)
    mine_among (first x) h = mine x h.0
    mine_among (later x) h = mine_among x h.1

  -- numbers and uses of a process within another one
  pub record Within (n m : ℕ) (t u : Term) : Type 0 where
    pub from : m ≤ n
    pub below_end : n + 1 + size t ≤ m + 1 + size u
    pub part : IsPartOf (uses_of t) (uses_of u)

  pub record WithinAll (n lo hi : ℕ) (t : Term) (bs : Branches) : Type 0 where
    pub from : lo ≤ n
    pub below_end : n + 1 + size t ≤ hi
    pub part : IsPartOf (uses_of t) (uses_of_branches bs)

  same_term : (n : ℕ) (t u : Term) → slice_get procs n ≡ Some (numbered n t) → slice_get procs n ≡ Some (numbered n u) → t ≡ u
  same_term n t u e f = one_term (sym e ∙ f)

  later_within : {n : ℕ} (i : ℕ) (u : Term) (bs : Branches) (lo hi : ℕ) (t : Term) → BranchesPlaced procs lo hi (and_branch i u bs) → WithinAll n (i + 1 + size u) hi t bs → WithinAll n lo hi t (and_branch i u bs)
  later_within i u bs lo hi t b y =
      let low = b.0 in
      let a1 = y.from in
      record { from = omega (arith, low, a1); below_end = y.below_end; part = part_of_part (uses_of t) (uses_of_branches bs) (uses_of_branches (and_branch i u bs)) y.part (right_part (uses_of u) (uses_of_branches bs) _ (whole_part (uses_of_branches (and_branch i u bs)))) }

  within_branches : (n m : ℕ) (own : Left) (ps : Processes) (a : Left) (qs : Processes) (t u : Term) (o : Own d p procs k s tasks m a qs) → slice_get procs m ≡ Some (numbered m u) → Among n own ps qs → Branched d p procs a qs → ((bs : Branches) → SameNumbers bs qs → BranchesPlaced procs (m + 1) (m + 1 + size o.belongs.term) bs → WithinAll n (m + 1) (m + 1 + size o.belongs.term) t bs) → Within n m t u
  within_branches n m own ps a qs t u o f x alone_is g = elim x [ ]
  within_branches n m own ps a qs t u o f x (forked_is {bs = bs} e' m') g =
      let y = g bs m' (branches_placed d p procs (m + 1) (m + 1 + size o.belongs.term) e' o.placed) in
      let same : o.belongs.term ≡ u = same_term m o.belongs.term u o.belongs.entry f in
      let sizes : size o.belongs.term ≡ size u = ap size same in
      let a1 = y.from in
      let a2 = y.below_end in
      record { from = omega (arith, a1); below_end = omega (arith, a2, sizes); part = subst (λ z. IsPartOf (uses_of t) (uses_of z)) same (part_of_part (uses_of t) (uses_of_branches bs) (uses_of o.belongs.term) y.part (branches_part d p procs (uses_of o.belongs.term) e' o.uses)) }

  mutual
    pub within : {n : ℕ} {own : Left} {ps : Processes} {q : Process} → (x : At n own ps q) → Holds d p procs k s tasks q → (t u : Term) → slice_get procs n ≡ Some (numbered n t) → slice_get procs (number_of q) ≡ Some (numbered (number_of q) u) → Within n (number_of q) t u
    within {n = n} here h t u e f =
        let same : t ≡ u = same_term n t u e f in
        let sizes : size t ≡ size u = ap size same in
        record { from = omega arith; below_end = omega (arith, sizes); part = subst (λ z. IsPartOf (uses_of t) (uses_of z)) same (whole_part (uses_of t)) }
    within {n = n} {own = own} {ps = ps} (below {m = m} {a = a} {qs = qs} x) h t u e f =
        within_branches n m own ps a qs t u h.0 f x (branched d p procs h.0.stands) (λ bs m' b. within_all x bs (m + 1) (m + 1 + size h.0.belongs.term) h.1 m' b t e)

    pub within_all : {n : ℕ} {own : Left} {ps qs : Processes} → (x : Among n own ps qs) → (bs : Branches) (lo hi : ℕ) → AllHold d p procs k s tasks qs → SameNumbers bs qs → BranchesPlaced procs lo hi bs → (t : Term) → slice_get procs n ≡ Some (numbered n t) → WithinAll n lo hi t bs
    within_all (first x) no_branches lo hi h m b t e = absurd m
    within_all (later x) no_branches lo hi h m b t e = absurd m
    within_all (first {p = process j a rs} x) (and_branch i u bs) lo hi h m b t e =
        let at : j ≡ i = m.0 in
        let entry : slice_get procs j ≡ Some (numbered j u) = subst (λ z. slice_get procs z ≡ Some (numbered z u)) (sym at) b.1 in
        let y = within x h.0 t u e entry in
        let low = b.0 in
        let top = placed_order d p procs bs (i + 1 + size u) hi b.4 in
        let a1 = y.from in
        let a2 = y.below_end in
        record { from = omega (arith, low, at, a1); below_end = omega (arith, a2, at, top); part = part_of_part (uses_of t) (uses_of u) (uses_of_branches (and_branch i u bs)) y.part (left_part (uses_of u) (uses_of_branches bs) _ (whole_part (uses_of_branches (and_branch i u bs)))) }
    within_all (later {p = process j a rs} x) (and_branch i u bs) lo hi h m b t e = later_within i u bs lo hi t b (within_all x bs (i + 1 + size u) hi h.1 m.1 b.4 t e)
