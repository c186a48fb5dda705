-- The frames of tasks have the values of the one store.
use Rattle.std.proofs.Common.{◌≡◌, ◌∙◌, refl, sym, ap, subst, Bool, true, false, IsTrue, IsFalse, ℕ, ◌+◌, ◌⊎◌, inl, inr, List, [], Some}
use Rattle.std.specs.Prelude.{slice_get, nat_eq, ◌||◌}
use Rattle.std.specs.Option.{option_map_or}
use Rattle.std.proofs.lemmas.Bool.{eqb-true}
use mathlib.Core.Bool.{true≢false}
use Rattle.occ_term.specs.Frames.{is_held, at}
use Rattle.occ_term.specs.Processes.{Numbered, numbered}
use Rattle.occ_term.specs.Steps.{Left}
use Rattle.occ_term.specs.System.{process, Processes, no_processes, and_process, System, offers as offers_of}
use Rattle.occ_term.specs.TermTyping.{Declared}
use Rattle.occ_term.specs.Terms.{Term, Branches, no_branches, and_branch}
use Rattle.occ_term.specs.Uses.{Numbers, uses_of, uses_of_branches}
use Rattle.occ_term.specs.declared.primitive.Primitive.TheVariants.{Byte}
use Rattle.occ_term.specs.declared.protocol.Protocol.TheVariants.{Simple}
use Rattle.occ_machine.specs.SameStop.{numbers_of}
use Rattle.occ_machine.specs.Compiled.{Program}
use Rattle.occ_machine.specs.Machine.{Body}
use Rattle.occ_machine.specs.declared.task.Task.{Task}
use Rattle.occ_machine.specs.declared.task.Wait.TheVariants as W
use Rattle.occ_net_replay.specs.Replay.{Net, HasTask}
use Rattle.occ_net_replay.specs.Sharing.{SharesStore, is_written, store_of}
use Rattle.occ_net_replay.proofs.Holding.{SameNumbers, Belongs, Stands, may_turn, may_join, offers, awaits, chooses, waits, is_halted, has_failed, has_ended, AllHold, one_term}
use Rattle.occ_net_replay.proofs.Joining.{joins_as}
use Rattle.occ_net_replay.proofs.Merging.{done_stands}
use Rattle.occ_net_replay.proofs.Placed.{BranchesPlaced, LeftPlaced, size}
use Rattle.occ_net_replay.proofs.Settling.{Follows}
use Rattle.occ_net_replay.proofs.States.{live_at}
use Rattle.occ_net_replay.proofs.Still.{standing_is}
use Rattle.occ_net_replay.proofs.Tables.{or_else, or_second, task_once}

one_body : {a b : Body} → Some a ≡ Some b → a ≡ b
one_body e = cc

neither : (a b : Bool) → a || b ≡ false → (a ≡ false) × (b ≡ false)
neither true b e = absurd (true≢false e)
neither false b e = (refl, e)

module _ (d : Declared) (p : Program) (procs : List Numbered) (protocol : d.protocols 0 ≡ Some (Simple [] Byte)) (quantum : ℕ) (belongs_at : (n : ℕ) (t : Term) → slice_get procs n ≡ Some (numbered n t) → Belongs d p procs n) where
  -- what no branch can write by its code, none can write by its term
  unwritten : (bs : Branches) (lo hi c : ℕ) → BranchesPlaced procs lo hi bs → IsFalse (is_written p.bodies (numbers_of bs) c) → (uses_of_branches bs).writes c ≡ false
  unwritten no_branches lo hi c b h = refl
  unwritten (and_branch i u bs) lo hi c b h =
      let x = belongs_at i u b.1 in
      let same : x.term ≡ u = one_term (sym x.entry ∙ b.1) in
      let first : is_held x.body.writes c || is_written p.bodies (numbers_of bs) c ≡ false = ap (λ z. option_map_or (λ y. is_held y.writes c) z false || is_written p.bodies (numbers_of bs) c) (sym x.code) ∙ h in
      let both = neither (is_held x.body.writes c) (is_written p.bodies (numbers_of bs) c) first in
      let own : (uses_of u).writes c ≡ false = sym (x.does.writes.members c ∙ ap (λ z. (uses_of z).writes c) same) ∙ both.0 in
      let others = unwritten bs (i + 1 + size u) hi c b.4 both.1 in
      ap (λ z. z || (uses_of_branches bs).writes c) own ∙ others

  module _ (k : ℕ) (net : Net) (sys : System) (f : Follows d p procs protocol quantum k net sys) where
    free : (n hi : ℕ) (body : Body) (t : Task) (own : Left) (ps : Processes) (but : Numbers) (c : ℕ) → Stands d p procs k body t own ps but → LeftPlaced procs (n + 1) hi own → ((ns : List ℕ) → t.wait ≡ W.Joins ns → IsFalse (is_written p.bodies ns c)) → but c ≡ false
    free n hi body t own ps but c (may_turn g h y a) l w = refl
    free n hi body t own ps but c (may_join g m e a) l w = refl
    free n hi body t own ps but c (offers e a) l w = refl
    free n hi body t own ps but c (awaits e a) l w = refl
    free n hi body t own ps but c (chooses e a) l w = refl
    free n hi body t own ps but c (waits {ns = ns} {bs = bs} e numbers m a) l w = unwritten bs (n + 1) hi c l.0.0 (subst (λ z. IsFalse (is_written p.bodies z c)) (sym numbers) (w ns e))
    free n hi body t own ps but c (is_halted e) l w = refl
    free n hi body t own ps but c (has_failed e) l w = refl
    free n hi body t own ps but c (has_ended e) l w = refl

    store_is : store_of sys ≡ f.store
    store_is = ap store_of f.is

    live_frames : (n : ℕ) (b : Body) (t : Task) (c : ℕ) → slice_get p.bodies n ≡ Some b → HasTask net.tasks n t → (t.wait ≡ W.Done → ⊥) → IsTrue (is_held b.cells c) → ((ns : List ℕ) → t.wait ≡ W.Joins ns → IsFalse (is_written p.bodies ns c)) → at t.frame c ≡ store_of sys c
    live_frames n b t c code there going held w =
        let l = live_at d p procs k net.tasks f.proc f.store n t f.state there going in
        let body : l.mine.belongs.body ≡ b = one_body (sym l.mine.belongs.code ∙ code) in
        let mine : IsTrue (is_held l.mine.belongs.body.cells c) = ap (λ z. is_held z.cells c) body ∙ held in
        let stands = subst (λ z. Stands d p procs k l.mine.belongs.body z l.own l.branches l.mine.but) l.same l.mine.stands in
        ap (λ z. at z.frame c) (sym l.same) ∙ l.mine.agrees.same c mine (free n (n + 1 + size l.mine.belongs.term) l.mine.belongs.body t l.own l.branches l.mine.but c stands l.mine.placed w) ∙ ap (λ s. s c) (sym store_is)

    -- a branch that is done, among those of a process
    among : (n : ℕ) (b : Body) (t : Task) (c : ℕ) (bs : Branches) (ps : Processes) → SameNumbers bs ps → AllHold d p procs k f.store net.tasks ps → IsTrue (is_held (numbers_of bs) n) → slice_get p.bodies n ≡ Some b → HasTask net.tasks n t → t.wait ≡ W.Done → IsTrue (is_held b.writes c) → at t.frame c ≡ f.store c
    among n b t c no_branches ps m h i code there e held = absurd (true≢false (sym i))
    among n b t c (and_branch j u bs) no_processes m h i code there e held = absurd m
    among n b t c (and_branch j u bs) (and_process (process z own qs) ps) m h i code there e held = by (or_else (nat_eq j n) (is_held (numbers_of bs) n) i) (λ q. among n b t c bs ps m.1 h.1 q code there e held)
      where
        here : j ≡ n → at t.frame c ≡ f.store c
        here q =
            let o = h.0.0 in
            let number : z ≡ n = m.0 ∙ q in
            let same : o.task ≡ t = task_once net.tasks n (subst (λ y. HasTask net.tasks y o.task) number o.has_task) there in
            let body : o.belongs.body ≡ b = one_body (sym o.belongs.code ∙ ap (slice_get p.bodies) number ∙ code) in
            let none = (done_stands d p procs k f.store net.tasks o.belongs.body o.task own qs o.but o.stands (ap (λ y. y.wait) same ∙ e)).2 in
            let written : (uses_of o.belongs.term).writes c ≡ true = sym (o.belongs.does.writes.members c) ∙ ap (λ y. is_held y.writes c) body ∙ held in
            let mine : IsTrue (is_held o.belongs.body.cells c) = o.belongs.does.cells.members c ∙ or_second ((uses_of o.belongs.term).reads c) ((uses_of o.belongs.term).writes c) written in
            ap (λ y. at y.frame c) (sym same) ∙ o.agrees.same c mine (none c)

        by : IsTrue (nat_eq j n) ⊎ IsTrue (is_held (numbers_of bs) n) → (IsTrue (is_held (numbers_of bs) n) → at t.frame c ≡ f.store c) → at t.frame c ≡ f.store c
        by (inl q) later = here (eqb-true j n q)
        by (inr q) later = later q

    branch_frames : (m n : ℕ) (parent t : Task) (ns : List ℕ) (b : Body) (c : ℕ) → HasTask net.tasks m parent → parent.wait ≡ W.Joins ns → IsTrue (is_held ns n) → slice_get p.bodies n ≡ Some b → HasTask net.tasks n t → t.wait ≡ W.Done → IsTrue (is_held b.writes c) → at t.frame c ≡ store_of sys c
    branch_frames m n parent t ns b c there w i code done e held =
        let l = live_at d p procs k net.tasks f.proc f.store m parent f.state there (λ q. let r = sym w ∙ q in cc) in
        let stands = subst (λ z. Stands d p procs k l.mine.belongs.body z l.own l.branches l.mine.but) l.same l.mine.stands in
        let x = joins_as d p procs k l.mine.belongs.body parent l.own l.branches l.mine.but ns stands w in
        among n b t c x.branches l.branches x.same l.all (subst (λ z. IsTrue (is_held z n)) (sym x.numbers) i) code done e held ∙ ap (λ s. s c) (sym store_is)

    pub shares_store : SharesStore p net sys
    shares_store =
        record {
          same_offers = λ c. standing_is d p procs k net f.proc f.store f.noted f.state f.quiet c ∙ ap (λ z. offers_of z c) (sym f.is);
          frames = live_frames;
          done_frames = branch_frames;
        }
