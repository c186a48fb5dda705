-- Two processes of the system's tree: one, one within the other, or beside each other.
use Rattle.std.proofs.Common.{◌≡◌, refl, sym, subst, IsTrue, ℕ, ◌+◌, ◌≤◌, ◌⊎◌, inl, inr, List, Some, arith}
use Rattle.std.specs.Prelude.{slice_get}
use mathlib.Core.Bool.{true≢false}
use Rattle.occ_term.specs.Processes.{Numbered, numbered}
use Rattle.occ_term.specs.StepUses.{IsPartOf}
use Rattle.occ_term.specs.Steps.{Left}
use Rattle.occ_term.specs.System.{Process, process, Processes}
use Rattle.occ_term.specs.TermTyping.{Declared}
use Rattle.occ_term.specs.Terms.{Term, Branches, no_branches, and_branch}
use Rattle.occ_term.specs.Uses.{Uses, uses_of, uses_of_branches, ApartFromAll}
use Rattle.occ_term.specs.Values.{Store}
use Rattle.occ_term.proofs.KeptStores.{either_of}
use Rattle.occ_machine.specs.Compiled.{Program}
use Rattle.occ_net_replay.specs.Replay.{Tasks}
use Rattle.occ_net_replay.specs.Moments.{At, here, below, Among, first, later}
use Rattle.occ_net_replay.proofs.Holding.{SameNumbers, Own, Holds, AllHold, Branched, alone_is, forked_is, branched, branches_placed}
use Rattle.occ_net_replay.proofs.Placed.{size, BranchesPlaced}
use Rattle.occ_net_replay.proofs.Putting.{within, within_all}

pub apart_outs : (a : Uses) (bs : Branches) (c : ℕ) → ApartFromAll a bs → IsTrue (a.outs c) → IsTrue ((uses_of_branches bs).outs c) → ⊥
apart_outs a no_branches c h u w = true≢false (sym w)
apart_outs a (and_branch n t bs) c h u w = either_of ((uses_of t).outs c) ((uses_of_branches bs).outs c) (λ x. h.0.outputs c u x) (λ x. apart_outs a bs c h.1 u x) w

pub apart_ins : (a : Uses) (bs : Branches) (c : ℕ) → ApartFromAll a bs → IsTrue (a.ins c) → IsTrue ((uses_of_branches bs).ins c) → ⊥
apart_ins a no_branches c h u w = true≢false (sym w)
apart_ins a (and_branch n t bs) c h u w = either_of ((uses_of t).ins c) ((uses_of_branches bs).ins c) (λ x. h.0.inputs c u x) (λ x. apart_ins a bs c h.1 u x) w

-- no channel is output on by both, and none input from by both
pub record ChannelsApart (a b : Uses) : Type 0 where
  pub outs : (c : ℕ) → IsTrue (a.outs c) → IsTrue (b.outs c) → ⊥
  pub ins : (c : ℕ) → IsTrue (a.ins c) → IsTrue (b.ins c) → ⊥

pub data Related (n : ℕ) (t : Term) (own : Left) (ps : Processes) (i : ℕ) (u : Term) (other : Left) (qs : Processes) : Type 0 where
  are_one : n ≡ i → Related n t own ps i u other qs
  is_inside : Among i other qs ps → Related n t own ps i u other qs
  is_around : Among n own ps qs → Related n t own ps i u other qs
  are_beside : ChannelsApart (uses_of t) (uses_of u) → (n + 1 + size t ≤ i) ⊎ (i + 1 + size u ≤ n) → Related n t own ps i u other qs

module _ (d : Declared) (p : Program) (procs : List Numbered) (k : ℕ) (s : Store) (tasks : Tasks) where
  parts_apart : (v : Term) (bs : Branches) → ApartFromAll (uses_of v) bs → (a b : Term) → IsPartOf (uses_of a) (uses_of v) → IsPartOf (uses_of b) (uses_of_branches bs) → ChannelsApart (uses_of a) (uses_of b)
  parts_apart v bs h a b x y =
      record {
        outs = λ c e f. apart_outs (uses_of v) bs c h (x.outs c e) (y.outs c f);
        ins = λ c e f. apart_ins (uses_of v) bs c h (x.ins c e) (y.ins c f);
      }

  turned_round : (a b : Uses) → ChannelsApart a b → ChannelsApart b a
  turned_round a b h = record { outs = λ c e f. h.outs c f e; ins = λ c e f. h.ins c f e }

  -- one within the first of some branches, another within a later one
  pub record Sides (n i : ℕ) (t u : Term) : Type 0 where
    pub apart : ChannelsApart (uses_of t) (uses_of u)
    pub before : n + 1 + size t ≤ i

  first_and_later : (n i : ℕ) (t u : Term) {own other : Left} {ps qs : Processes} (entry : slice_get procs n ≡ Some (numbered n t)) (entry' : slice_get procs i ≡ Some (numbered i u)) (j c : ℕ) (v : Term) (a : Left) (rs xs : Processes) (bs : Branches) (hi : ℕ) → j ≡ c → slice_get procs c ≡ Some (numbered c v) → ApartFromAll (uses_of v) bs → BranchesPlaced procs (c + 1 + size v) hi bs → SameNumbers bs xs → Holds d p procs k s tasks (process j a rs) → AllHold d p procs k s tasks xs → At n own ps (process j a rs) → Among i other qs xs → Sides n i t u
  first_and_later n i t u entry entry' j c v a rs xs bs hi at e h b z holds all x y =
      let w = within d p procs k s tasks x holds t v entry (subst (λ g. slice_get procs g ≡ Some (numbered g v)) (sym at) e) in
      let l = within_all d p procs k s tasks y bs (c + 1 + size v) hi all z b u entry' in
      let top = w.below_end in
      let low = l.from in
      record { apart = parts_apart v bs h t u w.part l.part; before = omega (arith, at, top, low) }

  below_one : (n : ℕ) {own : Left} {ps : Processes} (X : Type 0) (m : ℕ) (a : Left) (xs : Processes) → Among n own ps xs → (o : Own d p procs k s tasks m a xs) → Branched d p procs a xs → ((bs : Branches) → SameNumbers bs xs → BranchesPlaced procs (m + 1) (m + 1 + size o.belongs.term) bs → X) → X
  below_one n X m a xs x o alone_is g = elim x [ ]
  below_one n X m a xs x o (forked_is {bs = bs} e z) g = g bs z (branches_placed d p procs (m + 1) (m + 1 + size o.belongs.term) e o.placed)

  mutual
    pub related : (n i : ℕ) (t u : Term) {own other : Left} {ps qs : Processes} {q : Process} → slice_get procs n ≡ Some (numbered n t) → slice_get procs i ≡ Some (numbered i u) → (x : At n own ps q) → (y : At i other qs q) → Holds d p procs k s tasks q → Related n t own ps i u other qs
    related n i t u e f here here h = are_one refl
    related n i t u e f here (below y) h = is_inside y
    related n i t u e f (below x) here h = is_around x
    related n i t u {own = own} {other = other} {ps = ps} {qs = qs} e f (below {m = m} {a = a} {qs = xs} x) (below y) h =
        below_one n (Related n t own ps i u other qs) m a xs x h.0 (branched d p procs h.0.stands) (λ bs z b. related_among n i t u e f bs (m + 1) (m + 1 + size h.0.belongs.term) x y b z h.1)

    related_among : (n i : ℕ) (t u : Term) {own other : Left} {ps qs xs : Processes} → slice_get procs n ≡ Some (numbered n t) → slice_get procs i ≡ Some (numbered i u) → (bs : Branches) (lo hi : ℕ) → (x : Among n own ps xs) → (y : Among i other qs xs) → BranchesPlaced procs lo hi bs → SameNumbers bs xs → AllHold d p procs k s tasks xs → Related n t own ps i u other qs
    related_among n i t u e f no_branches lo hi (first x) y b z h = absurd z
    related_among n i t u e f no_branches lo hi (later x) y b z h = absurd z
    related_among n i t u e f (and_branch c v bs) lo hi (first x) (first y) b z h = related n i t u e f x y h.0
    related_among n i t u e f (and_branch c v bs) lo hi (first {p = process j a rs} {qs = xs} x) (later y) b z h =
        let w = first_and_later n i t u e f j c v a rs xs bs hi z.0 b.1 b.3 b.4 z.1 h.0 h.1 x y in
        are_beside w.apart (inl w.before)
    related_among n i t u e f (and_branch c v bs) lo hi (later {p = process j a rs} {qs = xs} x) (first y) b z h =
        let w = first_and_later i n u t f e j c v a rs xs bs hi z.0 b.1 b.3 b.4 z.1 h.0 h.1 y x in
        are_beside (turned_round (uses_of u) (uses_of t) w.apart) (inr w.before)
    related_among n i t u e f (and_branch c v bs) lo hi (later {p = process j a rs} x) (later y) b z h = related_among n i t u e f bs (c + 1 + size v) hi x y b.4 z.1 h.1
