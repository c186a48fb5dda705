-- A run by turns keeps up with a run by steps: private steps.
use Rattle.std.proofs.Common.{◌≡◌, ◌∙◌, refl, sym, ap, subst, IsTrue, IsFalse, ℕ, suc, ◌+◌, ◌<◌, ◌≤◌, ◌^◌, ◌⊎◌, inl, inr, List, [], ◌∷◌, ◌++◌, None, length, arith, append-nil, length-append}
use mathlib.Core.Bool.{true≢false}
use Rattle.occ_term.specs.declared.fault.Errors.{Errors}
use Rattle.occ_term.specs.declared.fault.Fault.{Fault}
use Rattle.occ_term.specs.declared.communication.Communication.{Communication}
use Rattle.occ_term.specs.Processes.{Numbered}
use Rattle.occ_term.specs.Runs.{Event, event, Run, communications, meets_none}
use Rattle.occ_term.specs.Steps.{Do, Forking, Context, Left, left, Status, Runs, Loops, Offers, Awaits, Chooses, Forks, IsHalted, FailsBy, HasEnded, status, Step}
use Rattle.occ_term.specs.StepRuns.{StepIn}
use Rattle.occ_term.specs.System.{Process, Processes, no_processes, System, system, MayGo, begun, branches_of, fault_noted, GoesFrom, alone, joined, system_turn}
use Rattle.occ_term.specs.TermTyping.{Declared}
use Rattle.occ_term.specs.Terms.{Skip, Branches, no_branches, and_branch}
use Rattle.occ_term.specs.Turns.{none}
use Rattle.occ_term.specs.Values.{Store}
use Rattle.occ_net_replay.specs.Moments.{At, here, below, Among, first, later}
use Rattle.occ_net_replay.proofs.Ahead.{SteppedAt, by_step, by_join, stepped_at, Idle, nobody_meets}
use Rattle.occ_net_replay.proofs.Holding.{put}
use Rattle.occ_net_replay.proofs.Lagging.{NotIn, Distinct, Extended, longer, whole, extended, Ahead, ahead, pushed, Brought, brought}
use Rattle.occ_net_replay.proofs.Parts.{is_comm, is_live, PartTurn, within, step_moves, change_moves, Move, no_kids, Facts, facts_after}
use Rattle.occ_net_replay.proofs.Putting.{turn_put}
use Rattle.occ_net_replay.proofs.Runs.{run_more, met_more}
use Rattle.occ_net_replay.proofs.Trees.{OwnAfter, is_new, is_kid, is_old, own_after, at_now, put_again, SamePlace, same_place}

no_begun : (st : Status) → IsTrue (is_live st) → begun st ≡ no_processes
no_begun Runs h = refl
no_begun Loops h = refl
no_begun (Offers c m) h = refl
no_begun (Awaits c) h = refl
no_begun (Chooses pri arms) h = refl
no_begun (Forks bs) h = absurd (true≢false (sym h))
no_begun IsHalted h = refl
no_begun (FailsBy e) h = refl
no_begun HasEnded h = refl

no_fault : (st : Status) → IsTrue (is_live st) → fault_noted st ≡ []
no_fault Runs h = refl
no_fault Loops h = refl
no_fault (Offers c m) h = refl
no_fault (Awaits c) h = refl
no_fault (Chooses pri arms) h = refl
no_fault (Forks bs) h = refl
no_fault IsHalted h = refl
no_fault (FailsBy e) h = absurd (true≢false (sym h))
no_fault HasEnded h = refl

branches_idle : {i : ℕ} {a : Left} {ps : Processes} → (bs : Branches) → Among i a ps (branches_of bs) → IsFalse (is_comm (status a))
branches_idle no_branches x = elim x [ ]
branches_idle (and_branch n t bs) (first here) = refl
branches_idle (and_branch n t bs) (first (below x)) = elim x [ ]
branches_idle (and_branch n t bs) (later x) = branches_idle bs x

begun_idle : {i : ℕ} {a : Left} {ps : Processes} → (st : Status) → Among i a ps (begun st) → IsFalse (is_comm (status a))
begun_idle Runs x = elim x [ ]
begun_idle Loops x = elim x [ ]
begun_idle (Offers c m) x = elim x [ ]
begun_idle (Awaits c) x = elim x [ ]
begun_idle (Chooses pri arms) x = elim x [ ]
begun_idle (Forks bs) x = branches_idle bs x
begun_idle IsHalted x = elim x [ ]
begun_idle (FailsBy e) x = elim x [ ]
begun_idle HasEnded x = elim x [ ]

from_live : {own from : Left} {ps : Processes} → GoesFrom own ps from → IsTrue (is_live (status own)) → from ≡ own
from_live alone h = refl
from_live (joined e) h = absurd (true≢false (sym h))

-- where the process that moved does not stand at a communication, nobody does
pub idle_after : {n : ℕ} {own : Left} {ps : Processes} {p : Process} → Idle p → (rest : Left) (kids : Processes) (x : At n own ps p) → IsFalse (is_comm (status rest)) → ((i : ℕ) (a : Left) (qs : Processes) → Among i a qs kids → IsFalse (is_comm (status a))) → Idle (put x rest kids)
idle_after {n = n} {p = p} idle rest kids x h g i a qs y = by (own_after rest kids x y)
  where
    by : OwnAfter n i a rest kids p → IsFalse (is_comm (status a))
    by (is_new j e) = subst (λ z. IsFalse (is_comm (status z))) (sym e) h
    by (is_kid {ps = ts} z) = g i a ts z
    by (is_old {ps = ts} z) = idle i a ts z

module _ (d : Declared) (procs : List Numbered) (errors : Errors) (q : ℕ) (a0 : System) (facts : (es : List Event) (kb : List ℕ) (p : Process) (s : Store) (noted : List Fault) → Run errors (suc q) a0 es (system kb p s noted) → length es < 2 ^ 63 → Facts d procs p s) where
  -- the run by turns, what the run by steps is ahead of it by, and where that one is
  pub record Lags (most : ℕ) (xs : List Communication) (a : System) : Type 0 where
    pub events : List Event
    pub ahead_by : List ℕ
    pub keyboard : List ℕ
    pub base : Process
    pub store : Store
    pub noted : List Fault
    pub tree : Process
    pub now : Store
    pub run : Run errors (suc q) a0 events (system keyboard base store noted)
    pub are_ahead : Ahead d procs (suc q) ahead_by base store tree now
    pub distinct : Distinct ahead_by
    pub idle : Idle base
    pub is : a ≡ system keyboard tree now noted
    pub said : communications events ≡ xs
    pub few : length events + length ahead_by ≤ most

  -- the process's move is made first: its turn is longer, or is taken
  finished : {most : ℕ} {xs : List Communication} {events : List Event} {kb : List ℕ} {base pm tree : Process} {store sm now : Store} {noted : List Fault} {others : List ℕ} {n : ℕ} {own from : Left} {ps : Processes} (rest : Left) → Run errors (suc q) a0 events (system kb base store noted) → MayGo errors noted → Idle base → communications events ≡ xs → (x : At n own ps base) → GoesFrom own ps from → Extended (suc q) from store rest sm → pm ≡ put x rest (begun (status rest)) → Ahead d procs (suc q) others pm sm tree now → NotIn n others → Distinct others → length events + suc (length others) ≤ most → Lags most xs (system kb tree now (noted ++ fault_noted (status rest)))
  finished {events = events} {kb = kb} {base = base} {tree = tree} {store = store} {now = now} {noted = noted} {others = others} {n = n} rest run may idle said x g (longer part live) e r apart distinct few =
      record {
        events = events;
        ahead_by = n ∷ others;
        keyboard = kb;
        base = base;
        store = store;
        noted = noted;
        tree = tree;
        now = now;
        run = run;
        are_ahead = ahead (record { own = _; branches = _; at = x; from = _; goes = g; by = (part, live); is = e ∙ ap (put x rest) (no_begun (status rest) live) }) r;
        distinct = (apart, distinct);
        idle = idle;
        is = ap (system kb tree now) (ap (λ z. noted ++ z) (no_fault (status rest) live) ∙ append-nil noted);
        said = said;
        few = few;
      }
  finished {most = most} {events = events} {kb = kb} {base = base} {tree = tree} {store = store} {sm = sm} {now = now} {noted = noted} {others = others} {n = n} rest run may idle said x g (whole turn calm) e r apart distinct few =
      let still : Idle (put x rest (begun (status rest))) = idle_after idle rest (begun (status rest)) x calm (λ i a ts z. begun_idle (status rest) z) in
      let longer_by : length (events ++ event n None ∷ []) ≡ length events + 1 = length-append events (event n None ∷ []) in
      record {
        events = events ++ event n None ∷ [];
        ahead_by = others;
        keyboard = kb;
        base = put x rest (begun (status rest));
        store = sm;
        noted = noted ++ fault_noted (status rest);
        tree = tree;
        now = now;
        run = run_more run (system_turn may (turn_put x g turn)) (meets_none (λ m w. nobody_meets w kb (put x rest (begun (status rest))) sm (noted ++ fault_noted (status rest)) refl still));
        are_ahead = subst (λ z. Ahead d procs (suc q) others z sm tree now) e r;
        distinct = distinct;
        idle = still;
        is = refl;
        said = met_more events n None ∙ append-nil (communications events) ∙ said;
        few = omega (arith, few, longer_by);
      }

  module _ {most : ℕ} {xs : List Communication} {a : System} (l : Lags most xs a) (small : most < 2 ^ 63) where
    pub known : Facts d procs l.base l.store
    known = let few = l.few in facts l.events l.keyboard l.base l.store l.noted l.run (omega (arith, few, small))

    -- a move of a process that is ahead, made right behind what it is ahead by
    module _ {R : Left → Store → Left → Store → Type 0} {kids : Left → Processes} {n : ℕ} {rest : Left} {pm : Process} {sm : Store} (b : Brought d procs (suc q) n l.ahead_by l.base l.store l.tree l.now) (g : Move R kids n rest b.between b.store pm sm) where
      abbrev pub h : Move R kids n rest (put b.one.at b.end no_processes) b.store pm sm
      h = subst (λ z. Move R kids n rest z b.store pm sm) b.one.is g

      pub there : Facts d procs (put b.one.at b.end no_processes) b.store
      there = subst (λ z. Facts d procs z b.store) b.one.is (facts_after d procs (suc q) known b.one)

      same : SamePlace (at_now b.one.at b.end no_processes) h.at
      same = same_place (at_now b.one.at b.end no_processes) h.at (there.beside_once n) (λ c rs w v. there.inside_once n c rs w v) (λ c rs w v. there.inside_once n c rs w v)

      pub from_end : h.from ≡ b.end
      from_end = from_live h.goes (subst (λ z. IsTrue (is_live (status z))) same.own_is b.one.by.1) ∙ sym same.own_is

      pub moved_there : pm ≡ put b.one.at rest (kids rest)
      moved_there = h.is ∙ sym (same.puts rest (kids rest)) ∙ put_again b.one.at b.end rest no_processes (kids rest)

    module _ {n : ℕ} {tree' : Process} {now' : Store} (may : MayGo errors l.noted) where
      stepped : {own rest : Left} (x : At n own no_processes l.tree) → Step own l.now rest now' → tree' ≡ put x rest (begun (status rest)) → Brought d procs (suc q) n l.ahead_by l.base l.store l.tree l.now ⊎ NotIn n l.ahead_by → Lags (suc most) xs (system l.keyboard tree' now' (l.noted ++ fault_noted (status rest)))
      stepped {own = own} {rest = rest} x y e (inl b) =
          let z = pushed d procs (suc q) (step_moves d) (λ w. begun (status w)) (facts_after d procs (suc q) known b.one) b.rest (record { own = own; branches = no_processes; at = x; from = own; goes = alone; by = y; is = e }) b.none in
          let w = h b z.one in
          let few = l.few in
          let many = b.many in
          finished rest l.run may l.idle l.said b.one.at b.one.goes (extended b.one.by.0 (subst (λ v. Step v b.store rest z.store) (from_end b z.one) w.by)) (moved_there b z.one) z.rest b.none b.distinct (omega (arith, few, many))
      stepped {own = own} {rest = rest} x y e (inr k) =
          let z = pushed d procs (suc q) (step_moves d) (λ w. begun (status w)) known l.are_ahead (record { own = own; branches = no_processes; at = x; from = own; goes = alone; by = y; is = e }) k in
          let few = l.few in
          finished rest l.run may l.idle l.said z.one.at z.one.goes (extended (within none) z.one.by) z.one.is z.rest k l.distinct (omega (arith, few))

      joins : {bs : Branches} {k : List Context} {ps : Processes} (x : At n (left (Forking bs) k) ps l.tree) → GoesFrom (left (Forking bs) k) ps (left (Do Skip) k) → tree' ≡ put x (left (Do Skip) k) no_processes → now' ≡ l.now → Brought d procs (suc q) n l.ahead_by l.base l.store l.tree l.now ⊎ NotIn n l.ahead_by → Lags (suc most) xs (system l.keyboard tree' now' l.noted)
      joins {bs = bs} {k = k} {ps = ps} x g e f (inl b) =
          let rest : Left = left (Do Skip) k in
          let z = pushed d procs (suc q) (change_moves d (λ i j. i ≡ j)) no_kids (facts_after d procs (suc q) known b.one) b.rest (record { own = left (Forking bs) k; branches = ps; at = x; from = left (Do Skip) k; goes = g; by = (refl, f); is = e }) b.none in
          let w = h b z.one in
          let few = l.few in
          let many = b.many in
          let part : PartTurn (suc q) b.one.from l.store rest z.store = subst (λ v. PartTurn (suc q) b.one.from l.store rest v) (sym w.by.1) (subst (λ v. PartTurn (suc q) b.one.from l.store v b.store) (sym (from_end b z.one) ∙ w.by.0) b.one.by.0) in
          record {
            events = l.events;
            ahead_by = n ∷ b.others;
            keyboard = l.keyboard;
            base = l.base;
            store = l.store;
            noted = l.noted;
            tree = tree';
            now = now';
            run = l.run;
            are_ahead = ahead (record { own = b.one.own; branches = b.one.branches; at = b.one.at; from = b.one.from; goes = b.one.goes; by = (part, refl); is = moved_there b z.one }) z.rest;
            distinct = (b.none, b.distinct);
            idle = l.idle;
            is = refl;
            said = l.said;
            few = omega (arith, few, many);
          }
      joins {bs = bs} {k = k} {ps = ps} x g e f (inr u) =
          let rest : Left = left (Do Skip) k in
          let z = pushed d procs (suc q) (change_moves d (λ i j. i ≡ j)) no_kids known l.are_ahead (record { own = left (Forking bs) k; branches = ps; at = x; from = left (Do Skip) k; goes = g; by = (refl, f); is = e }) u in
          let few = l.few in
          let start : PartTurn (suc q) z.one.from l.store z.one.from l.store = within none in
          let part : PartTurn (suc q) z.one.from l.store rest z.store = subst (λ v. PartTurn (suc q) z.one.from l.store rest v) (sym z.one.by.1) (subst (λ v. PartTurn (suc q) z.one.from l.store v l.store) z.one.by.0 start) in
          record {
            events = l.events;
            ahead_by = n ∷ l.ahead_by;
            keyboard = l.keyboard;
            base = l.base;
            store = l.store;
            noted = l.noted;
            tree = tree';
            now = now';
            run = l.run;
            are_ahead = ahead (record { own = z.one.own; branches = z.one.branches; at = z.one.at; from = z.one.from; goes = z.one.goes; by = (part, refl); is = z.one.is }) z.rest;
            distinct = (u, l.distinct);
            idle = l.idle;
            is = refl;
            said = l.said;
            few = omega (arith, few);
          }

      -- the run by turns keeps up with a private step
      pub keeps_up : {st : Status} → StepIn n l.tree l.now tree' now' st → Lags (suc most) xs (system l.keyboard tree' now' (l.noted ++ fault_noted st))
      keeps_up {st = st} x = by (stepped_at x) (brought d procs (suc q) n known l.are_ahead l.distinct)
        where
          by : SteppedAt n l.tree l.now tree' now' st → Brought d procs (suc q) n l.ahead_by l.base l.store l.tree l.now ⊎ NotIn n l.ahead_by → Lags (suc most) xs (system l.keyboard tree' now' (l.noted ++ fault_noted st))
          by (by_step y s e f) w = subst (λ z. Lags (suc most) xs (system l.keyboard tree' now' (l.noted ++ fault_noted z))) (sym f) (stepped y s e w)
          by (by_join y a e g f) w = subst (λ z. Lags (suc most) xs (system l.keyboard tree' now' z)) (sym (ap (λ z. l.noted ++ fault_noted z) f ∙ append-nil l.noted)) (joins y (joined a) e g w)
