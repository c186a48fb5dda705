-- After a change of one process, of its task, and of cells that it can write, all hold the same again.
use Rattle.std.proofs.Common.{◌≡◌, ◌∙◌, refl, sym, subst, IsTrue, IsFalse, ℕ, ◌+◌, ◌<◌, List, Some, arith}
use Rattle.std.specs.Prelude.{slice_get}
use mathlib.Core.Bool.{true≢false}
use Rattle.occ_term.specs.Processes.{Numbered, numbered}
use Rattle.occ_term.specs.StepUses.{IsPartOf, ChangesOnly}
use Rattle.occ_term.specs.Steps.{Forking, Context, Left, left, status, is_ended}
use Rattle.occ_term.specs.System.{Process, process, Processes}
use Rattle.occ_term.specs.TermTyping.{Declared}
use Rattle.occ_term.specs.Terms.{Term, Branches, no_branches, and_branch}
use Rattle.occ_term.specs.Uses.{Numbers, uses_of, uses_of_branches}
use Rattle.occ_term.specs.Values.{Store}
use Rattle.occ_machine.specs.Compiled.{Program}
use Rattle.occ_machine.specs.Machine.{Body}
use Rattle.occ_machine.specs.declared.task.Task.{Task}
use Rattle.occ_net_replay.specs.Replay.{Tasks}
use Rattle.occ_net_replay.specs.Moments.{At, here, below, Among, first, later}
use Rattle.occ_net_replay.proofs.Fewer.{Fewer, alike_fewer}
use Rattle.occ_net_replay.proofs.Holding.{SameNumbers, put, put_among, Stands, may_turn, may_join, offers, awaits, chooses, waits, is_halted, has_failed, has_ended, Own, Holds, AllHold, Branched, alone_is, forked_is, branched, branches_placed, again, all_again}
use Rattle.occ_net_replay.proofs.Placed.{size, BranchesPlaced}
use Rattle.occ_net_replay.proofs.Putting.{apart_used, apart_written, same_put, ended_inside, Elsewhere, within, within_all}

module _ (d : Declared) (p : Program) (procs : List Numbered) (k l : ℕ) (f : Fewer k l) (s s' : Store) (tasks new : Tasks) (n : ℕ) (own next : Left) (ps others : Processes) (t : Term) (entry : slice_get procs n ≡ Some (numbered n t)) (live : IsFalse (is_ended (status own))) (only : ChangesOnly (uses_of t).writes s s') (other : Elsewhere n (n + 1 + size t) tasks new) (mine_new : Holds d p procs l s' new (process n next others)) where
  -- a process above it, with the cells on which it need not agree
  record Above (body : Body) (task : Task) (a : Left) (qs : Processes) (but : Numbers) : Type 0 where
    pub stands : Stands d p procs l body task a qs but
    pub covers : (c : ℕ) → IsTrue ((uses_of t).writes c) → IsTrue (but c)

  stands_above : (body : Body) (task : Task) (a : Left) (qs : Processes) (but : Numbers) → Stands d p procs k body task a qs but → (x : Among n own ps qs) → ((bs : Branches) (j : List Context) → a ≡ left (Forking bs) j → SameNumbers bs qs → IsPartOf (uses_of t) (uses_of_branches bs)) → Above body task a (put_among x next others) but
  stands_above body task a qs but (may_turn m g y al) x part = elim x [ ]
  stands_above body task a qs but (may_join m e z al) x part = absurd (true≢false (sym (ended_inside x z) ∙ live))
  stands_above body task a qs but (offers w al) x part = elim x [ ]
  stands_above body task a qs but (awaits w al) x part = elim x [ ]
  stands_above body task a qs but (chooses w al) x part = elim x [ ]
  stands_above body task a qs but (waits {bs = bs} {j = j} w e m al) x part =
      record { stands = waits w e (same_put next others bs x m) (λ g h. alike_fewer f d body _ _ (al g h)); covers = (part bs j refl m).writes }
  stands_above body task a qs but (is_halted w) x part = elim x [ ]
  stands_above body task a qs but (has_failed w) x part = elim x [ ]
  stands_above body task a qs but (has_ended w) x part = elim x [ ]

  unwritten : (but : Numbers) → ((c : ℕ) → IsTrue ((uses_of t).writes c) → IsTrue (but c)) → (c : ℕ) → IsFalse (but c) → s' c ≡ s c
  unwritten but covers c e = only c (λ w. true≢false (sym (covers c w) ∙ e))

  own_above : (m : ℕ) (a : Left) (qs : Processes) (o : Own d p procs k s tasks m a qs) → (x : Among n own ps qs) → m < n → Above o.belongs.body o.task a (put_among x next others) o.but → Own d p procs l s' new m a (put_among x next others)
  own_above m a qs o x h y =
      record {
        belongs = o.belongs;
        task = o.task;
        has_task = other.before m h ∙ o.has_task;
        but = o.but;
        stands = y.stands;
        typed = o.typed;
        uses = o.uses;
        placed = o.placed;
        agrees = record { shape = o.agrees.shape; same = λ c i e. o.agrees.same c i e ∙ sym (unwritten o.but y.covers c e) };
      }

  record Changed (m : ℕ) (a : Left) (qs : Processes) (x : Among n own ps qs) : Type 0 where
    pub is_own : Own d p procs l s' new m a (put_among x next others)
    pub hold : AllHold d p procs l s' new (put_among x next others)

  changed_by : (m : ℕ) (a : Left) (qs : Processes) (o : Own d p procs k s tasks m a qs) → AllHold d p procs k s tasks qs → (x : Among n own ps qs) → Branched d p procs a qs → ((bs : Branches) → SameNumbers bs qs → BranchesPlaced procs (m + 1) (m + 1 + size o.belongs.term) bs → AllHold d p procs l s' new (put_among x next others)) → Changed m a qs x
  changed_by m a qs o h x alone_is g = elim x [ ]
  changed_by m a qs o h x (forked_is {bs = bs} {j = j} e z) g =
      let b = branches_placed d p procs (m + 1) (m + 1 + size o.belongs.term) e o.placed in
      let w = within_all d p procs k s tasks x bs (m + 1) (m + 1 + size o.belongs.term) h z b t entry in
      let from = w.from in
      let before : m < n = omega (arith, from) in
      let part : (cs : Branches) (i : List Context) → a ≡ left (Forking cs) i → SameNumbers cs qs → IsPartOf (uses_of t) (uses_of_branches cs) =
      λ cs i e' z'. (within_all d p procs k s tasks x cs (m + 1) (m + 1 + size o.belongs.term) h z' (branches_placed d p procs (m + 1) (m + 1 + size o.belongs.term) e' o.placed) t entry).part in
      record { is_own = own_above m a qs o x before (stands_above o.belongs.body o.task a qs o.but o.stands x part); hold = g bs z b }

  mutual
    pub put_holds : {q : Process} → (x : At n own ps q) → Holds d p procs k s tasks q → Holds d p procs l s' new (put x next others)
    put_holds here h = mine_new
    put_holds (below {m = m} {a = a} {qs = qs} x) h =
        let y = changed_by m a qs h.0 h.1 x (branched d p procs h.0.stands) (λ bs z b. put_all x bs (m + 1) (m + 1 + size h.0.belongs.term) h.1 z b) in
        (y.is_own, y.hold)

    put_all : {qs : Processes} → (x : Among n own ps qs) → (bs : Branches) (lo hi : ℕ) → AllHold d p procs k s tasks qs → SameNumbers bs qs → BranchesPlaced procs lo hi bs → AllHold d p procs l s' new (put_among x next others)
    put_all (first x) no_branches lo hi h z b = absurd z
    put_all (later x) no_branches lo hi h z b = absurd z
    put_all (first {p = process j a rs} {qs = qs} x) (and_branch i u bs) lo hi h z b =
        let at : j ≡ i = z.0 in
        let named : slice_get procs j ≡ Some (numbered j u) = subst (λ y. slice_get procs y ≡ Some (numbered y u)) (sym at) b.1 in
        let w = within d p procs k s tasks x h.0 t u entry named in
        let top = w.below_end in (
          put_holds x h.0,
          all_again d p procs f s s' tasks new (i + 1 + size u) hi bs qs z.1 b.4 h.1 (record { same = λ y from to. other.behind y (omega (arith, from, at, top)) })
              (λ c used. only c (λ written. apart_used (uses_of u) bs c b.3 (w.part.writes c written) used)),
        )
    put_all (later {p = process j a rs} {qs = qs} x) (and_branch i u bs) lo hi h z b =
        let at : j ≡ i = z.0 in
        let named : slice_get procs j ≡ Some (numbered j u) = subst (λ y. slice_get procs y ≡ Some (numbered y u)) (sym at) b.1 in
        let w = within_all d p procs k s tasks x bs (i + 1 + size u) hi h.1 z.1 b.4 t entry in
        let from = w.from in (
          again d p procs f s s' tasks new (process j a rs) u h.0 named (record { same = λ y low to. other.before y (omega (arith, to, at, from)) })
              (λ c used. only c (λ written. apart_written (uses_of u) bs c b.3 used (w.part.writes c written))),
          put_all x bs (i + 1 + size u) hi h.1 z.1 b.4,
        )
