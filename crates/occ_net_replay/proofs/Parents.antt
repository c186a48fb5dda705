-- A process is a branch of one process at most.
use Rattle.std.proofs.Common.{◌≡◌, refl, sym, subst, IsTrue, ℕ, ◌+◌, ◌<◌, ◌≤◌, ◌⊎◌, inl, inr, List, Some, arith}
use Rattle.std.specs.Prelude.{slice_get, nat_eq}
use Rattle.std.proofs.lemmas.Bool.{eqb-true}
use mathlib.Core.Bool.{true≢false}
use Rattle.occ_term.specs.Frames.{is_held}
use Rattle.occ_term.specs.Processes.{Numbered, numbered}
use Rattle.occ_term.specs.Steps.{Left}
use Rattle.occ_term.specs.System.{Process, process, Processes}
use Rattle.occ_term.specs.TermTyping.{Declared}
use Rattle.occ_term.specs.Terms.{Term, Branches, no_branches, and_branch}
use Rattle.occ_term.specs.Values.{Store}
use Rattle.occ_machine.specs.SameStop.{numbers_of}
use Rattle.occ_machine.specs.Compiled.{Program}
use Rattle.occ_net_replay.specs.Replay.{Tasks}
use Rattle.occ_net_replay.specs.Moments.{At, here, below, Among, first, later}
use Rattle.occ_net_replay.proofs.Holding.{SameNumbers, number_of, Own, Holds, AllHold, Branched, alone_is, forked_is, branched, placed_order, branches_placed}
use Rattle.occ_net_replay.proofs.Placed.{size, BranchesPlaced}
use Rattle.occ_net_replay.proofs.Putting.{within, within_all}
use Rattle.occ_net_replay.proofs.Tables.{or_else}

module _ (d : Declared) (p : Program) (procs : List Numbered) (k : ℕ) (s : Store) (tasks : Tasks) where
  -- numbers of branches lie where the branches are placed
  pub number_within : (n : ℕ) (bs : Branches) (lo hi : ℕ) → BranchesPlaced procs lo hi bs → IsTrue (is_held (numbers_of bs) n) → (lo ≤ n) × (n < hi)
  number_within n no_branches lo hi b h = absurd (true≢false (sym h))
  number_within n (and_branch i t bs) lo hi b h = by (or_else (nat_eq i n) (is_held (numbers_of bs) n) h) (λ x. number_within n bs (i + 1 + size t) hi b.4 x)
    where
      by : IsTrue (nat_eq i n) ⊎ IsTrue (is_held (numbers_of bs) n) → (IsTrue (is_held (numbers_of bs) n) → (i + 1 + size t ≤ n) × (n < hi)) → (lo ≤ n) × (n < hi)
      by (inl e) g =
          let same : i ≡ n = eqb-true i n e in
          let low = b.0 in
          let top = placed_order d p procs bs (i + 1 + size t) hi b.4 in
          (omega (arith, same, low), omega (arith, same, top))
      by (inr x) g = let y = g x in let low = b.0 in let a = y.0 in (omega (arith, low, a), y.1)

  -- no branch's number lies within the branches of another one
  pub not_inside : (n m : ℕ) (t : Term) {own : Left} {ps qs : Processes} → (bs : Branches) (lo hi : ℕ) → BranchesPlaced procs lo hi bs → SameNumbers bs qs → AllHold d p procs k s tasks qs → IsTrue (is_held (numbers_of bs) n) → (x : Among m own ps qs) → slice_get procs m ≡ Some (numbered m t) → m + 1 ≤ n → n < m + 1 + size t → ⊥
  not_inside n m t no_branches lo hi b z h f (first x) e from to = absurd z
  not_inside n m t no_branches lo hi b z h f (later x) e from to = absurd z
  not_inside n m t (and_branch i u bs) lo hi b z h f (first {p = process j a rs} x) e from to =
      let at : j ≡ i = z.0 in
      let entry : slice_get procs j ≡ Some (numbered j u) = subst (λ y. slice_get procs y ≡ Some (numbered y u)) (sym at) b.1 in
      let w = within d p procs k s tasks x h.0 t u e entry in
      let low = w.from in
      let top = w.below_end in
      by (or_else (nat_eq i n) (is_held (numbers_of bs) n) f) at low top
    where
      by : IsTrue (nat_eq i n) ⊎ IsTrue (is_held (numbers_of bs) n) → j ≡ i → j ≤ m → m + 1 + size t ≤ j + 1 + size u → ⊥
      by (inl q) at low top = let same : i ≡ n = eqb-true i n q in omega (arith, same, at, low, from)
      by (inr q) at low top = let y = (number_within n bs (i + 1 + size u) hi b.4 q).0 in omega (arith, y, at, top, to)
  not_inside n m t (and_branch i u bs) lo hi b z h f (later {p = process j a rs} x) e from to =
      let w = within_all d p procs k s tasks x bs (i + 1 + size u) hi h.1 z.1 b.4 t e in
      let low = w.from in
      by (or_else (nat_eq i n) (is_held (numbers_of bs) n) f) low (λ q. not_inside n m t bs (i + 1 + size u) hi b.4 z.1 h.1 q x e from to)
    where
      by : IsTrue (nat_eq i n) ⊎ IsTrue (is_held (numbers_of bs) n) → i + 1 + size u ≤ m → (IsTrue (is_held (numbers_of bs) n) → ⊥) → ⊥
      by (inl q) low g = let same : i ≡ n = eqb-true i n q in omega (arith, same, low, from)
      by (inr q) low g = g q

  -- a process with a branch of that number
  pub record HasBranch (n m : ℕ) (ps : Processes) : Type 0 where
    pub term : Term
    pub entry : slice_get procs m ≡ Some (numbered m term)
    pub branches : Branches
    pub same : SameNumbers branches ps
    pub placed : BranchesPlaced procs (m + 1) (m + 1 + size term) branches
    pub among : IsTrue (is_held (numbers_of branches) n)

  record Inside (n m : ℕ) (t : Term) : Type 0 where
    pub from : m + 1 ≤ n
    pub to : n < m + 1 + size t

  inside : (n m : ℕ) (ps : Processes) → (x : HasBranch n m ps) → Inside n m x.term
  inside n m ps x = let y = number_within n x.branches (m + 1) (m + 1 + size x.term) x.placed x.among in record { from = y.0; to = y.1 }

  -- a branch of one of these processes is no branch of a later one
  one_side : (n i j : ℕ) {a b : Left} {ps rs qs : Processes} {q : Process} → (u : Term) (bs : Branches) (lo hi : ℕ) → BranchesPlaced procs lo hi bs → SameNumbers bs qs → Holds d p procs k s tasks q → AllHold d p procs k s tasks qs → slice_get procs (number_of q) ≡ Some (numbered (number_of q) u) → number_of q + 1 + size u ≤ lo → At i a ps q → Among j b rs qs → HasBranch n i ps → HasBranch n j rs → ⊥
  one_side n i j {ps = ps} {rs = rs} u bs lo hi b z h g entry below_lo x y e f =
      let one = inside n i ps e in
      let other = inside n j rs f in
      let w = within d p procs k s tasks x h e.term u e.entry entry in
      let v = within_all d p procs k s tasks y bs lo hi g z b f.term f.entry in
      let a1 = one.to in
      let a2 = w.below_end in
      let a3 = v.from in
      let a4 = other.from in
      omega (arith, a1, a2, a3, a4, below_lo)

  top_and_inside : (n m : ℕ) {own : Left} {ps qs : Processes} → HasBranch n m qs → AllHold d p procs k s tasks qs → (i : ℕ) → (x : Among i own ps qs) → HasBranch n i ps → ⊥
  top_and_inside n m {ps = ps} e h i x f = let y = inside n i ps f in not_inside n i f.term e.branches (m + 1) (m + 1 + size e.term) e.placed e.same h e.among x f.entry y.from y.to

  below_one : (n i j m : ℕ) {a b c : Left} {ps rs qs : Processes} → Among i a ps qs → Among j b rs qs → (o : Own d p procs k s tasks m c qs) → Branched d p procs c qs → ((bs : Branches) → SameNumbers bs qs → BranchesPlaced procs (m + 1) (m + 1 + size o.belongs.term) bs → i ≡ j) → i ≡ j
  below_one n i j m x y o alone_is g = elim x [ ]
  below_one n i j m x y o (forked_is {bs = bs} e z) g = g bs z (branches_placed d p procs (m + 1) (m + 1 + size o.belongs.term) e o.placed)

  mutual
    pub parent_once : (n i j : ℕ) {a b : Left} {ps rs : Processes} {q : Process} → (x : At i a ps q) → (y : At j b rs q) → Holds d p procs k s tasks q → HasBranch n i ps → HasBranch n j rs → i ≡ j
    parent_once n i j here here h e f = refl
    parent_once n i j here (below y) h e f = absurd (top_and_inside n i e h.1 j y f)
    parent_once n i j (below x) here h e f = absurd (top_and_inside n j f h.1 i x e)
    parent_once n i j (below {m = m} {a = c} {qs = qs} x) (below y) h e f =
        below_one n i j m x y h.0 (branched d p procs h.0.stands) (λ bs z b. parent_among n i j bs (m + 1) (m + 1 + size h.0.belongs.term) x y b z h.1 e f)

    parent_among : (n i j : ℕ) {a b : Left} {ps rs qs : Processes} → (bs : Branches) (lo hi : ℕ) → (x : Among i a ps qs) → (y : Among j b rs qs) → BranchesPlaced procs lo hi bs → SameNumbers bs qs → AllHold d p procs k s tasks qs → HasBranch n i ps → HasBranch n j rs → i ≡ j
    parent_among n i j no_branches lo hi (first x) y b z h e f = absurd z
    parent_among n i j no_branches lo hi (later x) y b z h e f = absurd z
    parent_among n i j (and_branch c u bs) lo hi (first x) (first y) b z h e f = parent_once n i j x y h.0 e f
    parent_among n i j (and_branch c u bs) lo hi (first {p = process l w vs} x) (later y) b z h e f =
        let at : l ≡ c = z.0 in
        absurd (one_side n i j u bs (c + 1 + size u) hi b.4 z.1 h.0 h.1 (subst (λ g. slice_get procs g ≡ Some (numbered g u)) (sym at) b.1) (omega (arith, at)) x y e f)
    parent_among n i j (and_branch c u bs) lo hi (later x) (first {p = process l w vs} y) b z h e f =
        let at : l ≡ c = z.0 in
        absurd (one_side n j i u bs (c + 1 + size u) hi b.4 z.1 h.0 h.1 (subst (λ g. slice_get procs g ≡ Some (numbered g u)) (sym at) b.1) (omega (arith, at)) y x f e)
    parent_among n i j (and_branch c u bs) lo hi (later {p = process l w vs} x) (later y) b z h e f = parent_among n i j bs (c + 1 + size u) hi x y b.4 z.1 h.1 e f
