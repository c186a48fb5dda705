-- The branches of a fork: each begins in its slot.
use Rattle.std.proofs.Common.{◌≡◌, ◌∙◌, refl, sym, ap, subst, false, IsTrue, ℕ, ◌<◌, ◌⊎◌, inl, inr, List, [], ◌∷◌, Option, Some, None, length, arith}
use Rattle.std.specs.Prelude.{slice_get, slice_set, option_map, nat_eq}
use Rattle.std.specs.Option.{option_map_or}
use Rattle.std.proofs.lemmas.Bool.{eqb-true}
use mathlib.Core.Bool.{true≢false}
use Rattle.occ_term.specs.Frames.{Variables, is_held}
use Rattle.occ_machine.specs.SameStop.{IsRising}
use Rattle.occ_machine.specs.Compiled.{Program}
use Rattle.occ_machine.specs.Machine.{Body}
use Rattle.occ_machine.specs.declared.task.Task.{Task}
use Rattle.occ_machine.specs.declared.task.Wait.TheVariants as W
use Rattle.occ_net_replay.specs.Replay.{Tasks, branch_task, branch_frame, first_task, merged, taken_from, turns_at, turns_of, with_branches}
use Rattle.occ_net_replay.proofs.Tables.{set_other, or_else}
use Rattle.occ_net_tables.specs.declared.tables.Tables.{Tables}
use Rattle.occ_net_tables.specs.Settling.{IsFree, BranchesMayBegin, Began}
use Rattle.occ_net_tables.proofs.Keys.{first_held, later_held, not_first, not_again, rising_rest}
use Rattle.occ_net_tables.proofs.OneChange.{get_some, set_length, set_swap, set_within}

-- ---- bodies

pub has_body : (p : Program) (i : ℕ) → i < length p.bodies → slice_get p.bodies i ≡ None → ⊥
has_body p i h e = let x = get_some p.bodies i h in let q = sym x.1 ∙ e in cc

-- ---- the branches begin

module _ (bodies : List Body) (f : Variables) where
  pub branches_length : (ns : List ℕ) (tasks : Tasks) → length (with_branches bodies f ns tasks) ≡ length tasks
  branches_length [] tasks = refl
  branches_length (n ∷ ns) tasks = branches_length ns (slice_set tasks n (branch_task bodies f tasks n)) ∙ set_length tasks n (branch_task bodies f tasks n)

  pub branches_other : (ns : List ℕ) (tasks : Tasks) (i : ℕ) → is_held ns i ≡ false → slice_get (with_branches bodies f ns tasks) i ≡ slice_get tasks i
  branches_other [] tasks i h = refl
  branches_other (n ∷ ns) tasks i h =
      let x = not_first n i ns h in
      branches_other ns (slice_set tasks n (branch_task bodies f tasks n)) i x.1 ∙ set_other tasks n i (branch_task bodies f tasks n) (λ e. x.0 (sym e))

  -- a branch stands at its start
  pub record IsBegun (entry : Option (Option Task)) : Type 0 where
    pub task : Task
    pub is : entry ≡ Some (Some task)
    pub ready : task.wait ≡ W.Ready

  task_begun : (tasks : Tasks) (n : ℕ) → n < length bodies → (b : Body) × (branch_task bodies f tasks n ≡ Some (first_task n (turns_at tasks n) (branch_frame b f)))
  task_begun tasks n h = let b = get_some bodies n h in (b.0, ap (option_map (λ x. first_task n (turns_at tasks n) (branch_frame x f))) b.1)

  pub branches_begun : (ns : List ℕ) (tasks : Tasks) (i : ℕ) → IsRising ns → IsTrue (is_held ns i) → ((j : ℕ) → IsTrue (is_held ns j) → j < length bodies) → length tasks ≡ length bodies → IsBegun (slice_get (with_branches bodies f ns tasks) i)
  branches_begun [] tasks i r h w l = absurd (true≢false (sym h))
  branches_begun (n ∷ ns) tasks i r h w l = by (or_else (nat_eq n i) (is_held ns i) h) (λ q. branches_begun ns next i (rising_rest n ns r) q (λ j m. w j (later_held n j ns m)) (set_length tasks n (branch_task bodies f tasks n) ∙ l))
    where
      next : Tasks
      next = slice_set tasks n (branch_task bodies f tasks n)

      at : n ≡ i → IsBegun (slice_get (with_branches bodies f ns (slice_set tasks n (branch_task bodies f tasks n))) i)
      at e =
          let within = w n (first_held n ns) in
          let b = task_begun tasks n within in
          record {
            task = first_task n (turns_at tasks n) (branch_frame b.0 f);
            is =
                ap (slice_get (with_branches bodies f ns (slice_set tasks n (branch_task bodies f tasks n)))) (sym e) ∙ branches_other ns (slice_set tasks n (branch_task bodies f tasks n)) n (not_again n ns r)
                ∙ set_within tasks n (branch_task bodies f tasks n) (omega (arith, within, l)) ∙ ap Some b.1;
            ready = refl;
          }

      by : IsTrue (nat_eq n i) ⊎ IsTrue (is_held ns i) → (IsTrue (is_held ns i) → IsBegun (slice_get (with_branches bodies f ns (slice_set tasks n (branch_task bodies f tasks n))) i)) → IsBegun (slice_get (with_branches bodies f ns (slice_set tasks n (branch_task bodies f tasks n))) i)
      by (inl e) r = at (eqb-true n i e)
      by (inr e) r = r e

  -- another task may be set before or after
  pub branches_swap : (ns : List ℕ) (tasks : Tasks) (m : ℕ) (v : Option Task) → is_held ns m ≡ false → with_branches bodies f ns (slice_set tasks m v) ≡ slice_set (with_branches bodies f ns tasks) m v
  branches_swap [] tasks m v h = refl
  branches_swap (n ∷ ns) tasks m v h =
      let x = not_first n m ns h in
      let same : branch_task bodies f (slice_set tasks m v) n ≡ branch_task bodies f tasks n = ap (λ e. option_map (λ b. first_task n (option_map_or turns_of e 0) (branch_frame b f)) (slice_get bodies n)) (set_other tasks m n v x.0) in
      ap (λ t. with_branches bodies f ns (slice_set (slice_set tasks m v) n t)) same ∙ ap (with_branches bodies f ns) (set_swap tasks m n v (branch_task bodies f tasks n) (λ e. x.0 (sym e)))
      ∙ branches_swap ns (slice_set tasks n (branch_task bodies f tasks n)) m v x.1

-- ---- in code

pub still_free : (tasks : Tasks) (n i : ℕ) (v : Option Task) → (i ≡ n → ⊥) → IsFree tasks i → IsFree (slice_set tasks n v) i
still_free tasks n i v k x = record { entry = x.entry; is = set_other tasks n i v k ∙ x.is; still = x.still }

pub may_begin_first : (p : Program) (old : Tables) (n : ℕ) (ns : List ℕ) → BranchesMayBegin p old (n ∷ ns) → BranchesMayBegin p old (n ∷ [])
may_begin_first p old n ns h =
    record {
      ready_is = h.ready_is;
      rising = tt;
      have_bodies = λ i m. h.have_bodies i (one i m);
      free = λ i m. h.free i (one i m);
    }
  where
    one : (i : ℕ) → IsTrue (is_held (n ∷ []) i) → IsTrue (is_held (n ∷ ns) i)
    one i m = by (or_else (nat_eq n i) (is_held [] i) m)
      where
        by : IsTrue (nat_eq n i) ⊎ IsTrue (is_held [] i) → IsTrue (is_held (n ∷ ns) i)
        by (inl e) = subst (λ z. IsTrue (is_held (n ∷ ns) z)) (eqb-true n i e) (first_held n ns)
        by (inr e) = absurd (true≢false (sym e))

pub may_begin_rest : (p : Program) (parent : ℕ) (f : Variables) (old new : Tables) (n : ℕ) (ns : List ℕ) → BranchesMayBegin p old (n ∷ ns) → Began p parent f old n new → BranchesMayBegin p new ns
may_begin_rest p parent f old new n ns h b =
    record {
      ready_is = b.ready_is;
      rising = rising_rest n ns h.rising;
      have_bodies = λ i m. h.have_bodies i (later_held n i ns m);
      free = λ i m. subst (λ t. IsFree t i) (sym b.tasks) (still_free old.tasks.items n i (branch_task p.bodies f old.tasks.items n) (λ e. true≢false (sym m ∙ ap (is_held ns) e ∙ not_again n ns h.rising)) (h.free i (later_held n i ns m)));
    }

-- ---- what is taken over

pub merged_same : (bodies : List Body) (a b : Tasks) (ns : List ℕ) (f : Variables) → ((i : ℕ) → IsTrue (is_held ns i) → slice_get a i ≡ slice_get b i) → merged bodies a ns f ≡ merged bodies b ns f
merged_same bodies a b [] f h = refl
merged_same bodies a b (n ∷ ns) f h =
    ap (λ t. merged bodies a ns (taken_from (slice_get bodies n) t f)) (h n (first_held n ns)) ∙ merged_same bodies a b ns (taken_from (slice_get bodies n) (slice_get b n) f) (λ i m. h i (later_held n i ns m))
