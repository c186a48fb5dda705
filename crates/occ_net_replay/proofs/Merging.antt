-- A join takes over what each branch can write.
use Rattle.std.proofs.Common.{◌≡◌, ◌∙◌, refl, sym, ap, subst, Bool, true, false, IsTrue, IsFalse, ℕ, suc, ◌+◌, ◌⊎◌, inl, inr, ℤ, List, [], ◌∷◌, Some, length, arith}
use Rattle.std.specs.Prelude.{slice_get, nat_eq, if◌then◌else◌, ◌||◌}
use Rattle.std.proofs.lemmas.Bool.{eqb-true, eq-eqb, ne_eqb}
use mathlib.Core.Bool.{true≢false}
use Rattle.occ_term.specs.Frames.{Variables, is_held, at, value_at, values_with, frame_with}
use Rattle.occ_term.specs.Processes.{Numbered, numbered}
use Rattle.occ_term.specs.Steps.{Left, status, is_ended}
use Rattle.occ_term.specs.System.{process, Processes, no_processes, and_process, AllEnded}
use Rattle.occ_term.specs.TermTyping.{Declared}
use Rattle.occ_term.specs.Terms.{Branches, no_branches, and_branch}
use Rattle.occ_term.specs.Uses.{Numbers, uses_of, uses_of_branches}
use Rattle.occ_term.specs.Values.{Store}
use Rattle.occ_machine.specs.SameStop.{Frames, numbers_of, used_by}
use Rattle.occ_machine.specs.Compiled.{Program}
use Rattle.occ_machine.specs.Machine.{Body}
use Rattle.occ_machine.specs.declared.task.Task.{Task}
use Rattle.occ_machine.specs.declared.task.Wait.TheVariants as W
use Rattle.occ_net_replay.specs.Replay.{Tasks, HasTask, may_go, is_done, AreDone, taken_over, taken_from, merged}
use Rattle.occ_net_replay.proofs.Holding.{SameNumbers, Stands, may_turn, may_join, offers, awaits, chooses, waits, is_halted, has_failed, has_ended, Own, AllHold, one_term}
use Rattle.occ_net_replay.proofs.Placed.{BranchesPlaced, size}
use Rattle.occ_net_replay.proofs.Quiet.{done_at, done_is}
use Rattle.occ_net_replay.proofs.States.{going_is}
use Rattle.occ_net_replay.proofs.TakingTurns.{done_wait}
use Rattle.occ_net_replay.proofs.Tables.{or_second, same_or_not, task_once}

-- ---- frames

values_long : (xs : List ℕ) (vs : List ℤ) (c : ℕ) (v : ℤ) → length (values_with xs vs c v) ≡ length vs
values_long [] vs c v = refl
values_long (x ∷ xs) [] c v = refl
values_long (x ∷ xs) (w ∷ vs) c v = by (nat_eq x c) (values_long xs vs c v)
  where
    by : (b : Bool) → length (values_with xs vs c v) ≡ length vs → length (if b then v ∷ vs else w ∷ values_with xs vs c v) ≡ suc (length vs)
    by true e = refl
    by false e = ap suc e

value_same : (xs : List ℕ) (vs : List ℤ) (c : ℕ) (v : ℤ) → length vs ≡ length xs → IsTrue (is_held xs c) → value_at xs (values_with xs vs c v) c ≡ v
value_same [] vs c v l h = absurd (true≢false (sym h))
value_same (x ∷ xs) [] c v l h = absurd cc
value_same (x ∷ xs) (w ∷ vs) c v l h = by (nat_eq x c) refl h (λ k. value_same xs vs c v (let e : suc (length vs) ≡ suc (length xs) = l in omega (arith, e)) k)
  where
    by : (b : Bool) → nat_eq x c ≡ b → IsTrue (b || is_held xs c) → (IsTrue (is_held xs c) → value_at xs (values_with xs vs c v) c ≡ v) → value_at (x ∷ xs) (if b then v ∷ vs else w ∷ values_with xs vs c v) c ≡ v
    by true e h r = ap (λ b. if b then v else value_at xs vs c) e
    by false e h r = ap (λ b. if b then w else value_at xs (values_with xs vs c v) c) e ∙ r h

value_other : (xs : List ℕ) (vs : List ℤ) (c e : ℕ) (v : ℤ) → (e ≡ c → ⊥) → value_at xs (values_with xs vs c v) e ≡ value_at xs vs e
value_other [] vs c e v n = refl
value_other (x ∷ xs) [] c e v n = refl
value_other (x ∷ xs) (w ∷ vs) c e v n = by (nat_eq x c) refl (value_other xs vs c e v n)
  where
    by : (b : Bool) → nat_eq x c ≡ b → value_at xs (values_with xs vs c v) e ≡ value_at xs vs e → value_at (x ∷ xs) (if b then v ∷ vs else w ∷ values_with xs vs c v) e ≡ (if nat_eq x e then w else value_at xs vs e)
    by true q r = let other : nat_eq x e ≡ false = ne_eqb x e (λ z. n (sym z ∙ eqb-true x c q)) in ap (λ b. if b then v else value_at xs vs e) other ∙ sym (ap (λ b. if b then w else value_at xs vs e) other)
    by false q r = ap (λ z. if nat_eq x e then w else z) r

-- a frame of these cells, of which some have new values, and the others what they had
pub record Mixed (cells : List ℕ) (some : Numbers) (f g : Variables) (new : ℕ → ℤ) : Type 0 where
  pub shape : Frames cells g
  pub left_is : g.left ≡ f.left
  pub taken : (c : ℕ) → IsTrue (is_held cells c) → IsTrue (some c) → at g c ≡ new c
  pub kept : (c : ℕ) → IsTrue (is_held cells c) → IsFalse (some c) → at g c ≡ at f c

at_with : (cells : List ℕ) (f : Variables) (c : ℕ) (v : ℤ) → Frames cells f → IsTrue (is_held cells c) → at (frame_with f c v) c ≡ v
at_with cells f c v h m =
    value_same f.cells f.values c v (h.values_for_all ∙ ap length (sym h.cells_are)) (ap (λ xs. is_held xs c) h.cells_are ∙ m)

over : (cells cs : List ℕ) (from f : Variables) → Frames cells f → Mixed cells (is_held cs) f (taken_over cs from f) (at from)
over cells [] from f h = record { shape = h; left_is = refl; taken = λ c m w. absurd (true≢false (sym w)); kept = λ c m w. refl }
over cells (x ∷ cs) from f h =
    let next : Frames cells (frame_with f x (at from x)) = record { cells_are = h.cells_are; values_for_all = values_long f.cells f.values x (at from x) ∙ h.values_for_all } in
    let r = over cells cs from (frame_with f x (at from x)) next in
    record {
      shape = r.shape;
      left_is = r.left_is;
      taken = λ c m w. taken_by r c m (is_held cs c) refl w;
      kept = λ c m w. kept_by r c m (nat_eq x c) refl w;
    }
  where
    unless : (c : ℕ) → IsTrue (is_held cells c) → (c ≡ x) ⊎ (c ≡ x → ⊥) → (w : IsTrue (is_held (x ∷ cs) c)) → IsFalse (is_held cs c) → at (frame_with f x (at from x)) c ≡ at from c
    unless c m (inl e) w n = subst (λ z. IsTrue (is_held cells z) → at (frame_with f x (at from x)) z ≡ at from z) (sym e) (λ k. at_with cells f x (at from x) h k) m
    unless c m (inr e) w n = absurd (true≢false (sym w ∙ ap (λ b. b || is_held cs c) (ne_eqb x c (λ z. e (sym z))) ∙ n))

    taken_by : Mixed cells (is_held cs) (frame_with f x (at from x)) (taken_over cs from (frame_with f x (at from x))) (at from) → (c : ℕ) → IsTrue (is_held cells c) → (b : Bool) → is_held cs c ≡ b → IsTrue (is_held (x ∷ cs) c) → at (taken_over cs from (frame_with f x (at from x))) c ≡ at from c
    taken_by r c m true e w = r.taken c m e
    taken_by r c m false e w = r.kept c m e ∙ unless c m (same_or_not c x) w e

    kept_by : Mixed cells (is_held cs) (frame_with f x (at from x)) (taken_over cs from (frame_with f x (at from x))) (at from) → (c : ℕ) → IsTrue (is_held cells c) → (b : Bool) → nat_eq x c ≡ b → IsFalse (b || is_held cs c) → at (taken_over cs from (frame_with f x (at from x))) c ≡ at f c
    kept_by r c m true e w = absurd (true≢false w)
    kept_by r c m false e w = r.kept c m w ∙ value_other f.cells f.values x c (at from x) (λ z. true≢false (sym (eq-eqb x c (sym z)) ∙ e))

module _ (d : Declared) (p : Program) (procs : List Numbered) (k : ℕ) (s : Store) (tasks : Tasks) where
  pub done_stands : (body : Body) (t : Task) (own : Left) (ps : Processes) (but : Numbers) → Stands d p procs k body t own ps but → t.wait ≡ W.Done → IsTrue (is_ended (status own)) × (ps ≡ no_processes) × ((c : ℕ) → IsFalse (but c))
  done_stands body t own ps but (may_turn g h y a) e = absurd (going_is t.wait g W.Done e refl)
  done_stands body t own ps but (may_join g n z a) e = absurd (going_is t.wait (ap may_go g) W.Done e refl)
  done_stands body t own ps but (offers w a) e = let q = sym w ∙ e in absurd cc
  done_stands body t own ps but (awaits w a) e = let q = sym w ∙ e in absurd cc
  done_stands body t own ps but (chooses w a) e = let q = sym w ∙ e in absurd cc
  done_stands body t own ps but (waits w n z a) e = let q = sym w ∙ e in absurd cc
  done_stands body t own ps but (is_halted w) e = let q = sym w ∙ e in absurd cc
  done_stands body t own ps but (has_failed w) e = let q = sym w ∙ e in absurd cc
  done_stands body t own ps but (has_ended w) e = (refl, refl, λ c. refl)

  own_done : (i : ℕ) (own : Left) (ps : Processes) (o : Own d p procs k s tasks i own ps) → (t : Task) × HasTask tasks i t × IsTrue (is_done t.wait) → o.task.wait ≡ W.Done
  own_done i own ps o x = let same : o.task ≡ x.0 = task_once tasks i o.has_task x.1 in done_wait o.task.wait (subst (λ t. IsTrue (is_done t.wait)) (sym same) x.2)

  -- where all tasks of branches are done, all branches have ended
  pub all_ended : (bs : Branches) (ps : Processes) → SameNumbers bs ps → AllHold d p procs k s tasks ps → AreDone tasks (numbers_of bs) → AllEnded ps
  all_ended no_branches no_processes m h e = tt
  all_ended no_branches (and_process q qs) m h e = absurd m
  all_ended (and_branch n b bs) no_processes m h e = absurd m
  all_ended (and_branch n b bs) (and_process (process i own no_processes) ps) m h e =
      let o = h.0.0 in
      let w = own_done i own no_processes o (done_is tasks i (subst (λ z. IsTrue (done_at tasks z)) (sym m.0) e.0)) in
      ((done_stands o.belongs.body o.task own no_processes o.but o.stands w).0, all_ended bs ps m.1 h.1 e.1)
  all_ended (and_branch n b bs) (and_process (process i own (and_process q qs)) ps) m h e =
      let o = h.0.0 in
      let w = own_done i own (and_process q qs) o (done_is tasks i (subst (λ z. IsTrue (done_at tasks z)) (sym m.0) e.0)) in
      let none = (done_stands o.belongs.body o.task own (and_process q qs) o.but o.stands w).1 in
      absurd cc

  -- what is merged agrees with the store on what the branches can write
  pub merges : (cells : List ℕ) (bs : Branches) (ps : Processes) (lo hi : ℕ) (f : Variables) → SameNumbers bs ps → BranchesPlaced procs lo hi bs → AllHold d p procs k s tasks ps → AreDone tasks (numbers_of bs) → Frames cells f → Mixed cells (uses_of_branches bs).writes f (merged p.bodies tasks (numbers_of bs) f) s
  merges cells no_branches no_processes lo hi f m b h e shape = record { shape = shape; left_is = refl; taken = λ c i w. absurd (true≢false (sym w)); kept = λ c i w. refl }
  merges cells no_branches (and_process q qs) lo hi f m b h e shape = absurd m
  merges cells (and_branch n t bs) no_processes lo hi f m b h e shape = absurd m
  merges cells (and_branch n t bs) (and_process (process i own rs) ps) lo hi f m b h e shape =
      let o = h.0.0 in
      let w = own_done i own rs o (done_is tasks i (subst (λ z. IsTrue (done_at tasks z)) (sym m.0) e.0)) in
      let none_lent = (done_stands o.belongs.body o.task own rs o.but o.stands w).2 in
      let entry : slice_get procs i ≡ Some (numbered i t) = subst (λ z. slice_get procs z ≡ Some (numbered z t)) (sym m.0) b.1 in
      let same : o.belongs.term ≡ t = one_term (sym o.belongs.entry ∙ entry) in
      let there : taken_from (slice_get p.bodies n) (slice_get tasks n) f ≡ taken_over o.belongs.body.writes o.task.frame f =
      ap (λ z. taken_from (slice_get p.bodies z) (slice_get tasks z) f) (sym m.0) ∙ ap (λ z. taken_from z (slice_get tasks i) f) o.belongs.code ∙ ap (λ z. taken_from (Some o.belongs.body) z f) o.has_task in
      let one = over cells o.belongs.body.writes o.task.frame f shape in
      let rest = merges cells bs ps (n + 1 + size t) hi (taken_over o.belongs.body.writes o.task.frame f) m.1 b.4 h.1 e.1 one.shape in
      let written : (c : ℕ) → is_held o.belongs.body.writes c ≡ (uses_of t).writes c = λ c. o.belongs.does.writes.members c ∙ ap (λ z. (uses_of z).writes c) same in
      let mine_held : (c : ℕ) → IsTrue ((uses_of t).writes c) → IsTrue (is_held o.belongs.body.cells c) =
      λ c x. o.belongs.does.cells.members c ∙ ap (λ z. used_by (uses_of z) c) same ∙ or_second ((uses_of t).reads c) ((uses_of t).writes c) x in
      subst (λ g. Mixed cells (uses_of_branches (and_branch n t bs)).writes f (merged p.bodies tasks (numbers_of bs) g) s) (sym there)
      (record {
        shape = rest.shape;
        left_is = rest.left_is ∙ one.left_is;
        taken = λ c x y. taken_by o.belongs.body.writes o.task.frame (at o.task.frame) c x one rest (written c) (λ z. o.agrees.same c (mine_held c z) (none_lent c)) ((uses_of t).writes c) refl ((uses_of_branches bs).writes c) refl y;
        kept = λ c x y. kept_by o.belongs.body.writes o.task.frame (at o.task.frame) c x one rest (written c) ((uses_of t).writes c) refl ((uses_of_branches bs).writes c) refl y;
      })
    where
      taken_by : (cs : List ℕ) (from : Variables) (new : ℕ → ℤ) (c : ℕ) → IsTrue (is_held cells c) → Mixed cells (is_held cs) f (taken_over cs from f) new → Mixed cells (uses_of_branches bs).writes (taken_over cs from f) (merged p.bodies tasks (numbers_of bs) (taken_over cs from f)) s → is_held cs c ≡ (uses_of t).writes c → (IsTrue ((uses_of t).writes c) → new c ≡ s c) → (x : Bool) → (uses_of t).writes c ≡ x → (y : Bool) → (uses_of_branches bs).writes c ≡ y → IsTrue ((uses_of t).writes c || (uses_of_branches bs).writes c) → at (merged p.bodies tasks (numbers_of bs) (taken_over cs from f)) c ≡ s c
      taken_by cs from new c i one rest eq agrees x ex true ey z = rest.taken c i ey
      taken_by cs from new c i one rest eq agrees true ex false ey z = rest.kept c i ey ∙ one.taken c i (eq ∙ ex) ∙ agrees ex
      taken_by cs from new c i one rest eq agrees false ex false ey z = absurd (true≢false (sym z ∙ ap (λ b. b || (uses_of_branches bs).writes c) ex ∙ ey))

      kept_by : (cs : List ℕ) (from : Variables) (new : ℕ → ℤ) (c : ℕ) → IsTrue (is_held cells c) → Mixed cells (is_held cs) f (taken_over cs from f) new → Mixed cells (uses_of_branches bs).writes (taken_over cs from f) (merged p.bodies tasks (numbers_of bs) (taken_over cs from f)) s → is_held cs c ≡ (uses_of t).writes c → (x : Bool) → (uses_of t).writes c ≡ x → (y : Bool) → (uses_of_branches bs).writes c ≡ y → IsFalse ((uses_of t).writes c || (uses_of_branches bs).writes c) → at (merged p.bodies tasks (numbers_of bs) (taken_over cs from f)) c ≡ at f c
      kept_by cs from new c i one rest eq true ex y ey z = absurd (true≢false (ap (λ b. b || (uses_of_branches bs).writes c) (sym ex) ∙ z))
      kept_by cs from new c i one rest eq false ex true ey z = absurd (true≢false (sym (or_second ((uses_of t).writes c) ((uses_of_branches bs).writes c) ey) ∙ z))
      kept_by cs from new c i one rest eq false ex false ey z = rest.kept c i ey ∙ one.kept c i (eq ∙ ex)
