-- A fork: each branch begins with a copy of what it uses.
use Rattle.std.proofs.Common.{◌≡◌, ◌∙◌, refl, sym, ap, subst, Bool, true, false, IsTrue, ℕ, ◌+◌, ◌<◌, ◌≤◌, ◌^◌, ◌⊎◌, inl, inr, ℤ, List, [], ◌∷◌, Option, Some, None, length, map, arith}
use Rattle.std.specs.Prelude.{slice_get, slice_set, nat_eq, if◌then◌else◌, ◌||◌, option_map}
use Rattle.std.specs.Option.{option_map_or}
use Rattle.std.proofs.lemmas.Bool.{eqb-true}
use Rattle.std.proofs.lemmas.List.{length-map}
use mathlib.Core.Bool.{true≢false}
use Rattle.occ_term.specs.Frames.{Variables, is_held, at, value_at}
use Rattle.occ_term.specs.Processes.{Numbered, numbered}
use Rattle.occ_term.specs.StepUses.{IsPartOf, uses_of_left}
use Rattle.occ_term.specs.Steps.{Do, left}
use Rattle.occ_term.specs.System.{no_processes, branches_of}
use Rattle.occ_term.specs.TermTyping.{Declared, TermHas, BranchesHave}
use Rattle.occ_term.specs.Terms.{Term, Branches, no_branches, and_branch}
use Rattle.occ_term.specs.Uses.{empty_set, no_use, uses_of, uses_of_branches}
use Rattle.occ_term.specs.Values.{Store}
use Rattle.occ_term.proofs.KeptStores.{left_part, right_part, both_parts, no_part, whole_part}
use Rattle.occ_machine.specs.SameStop.{Agrees, numbers_of, used_by}
use Rattle.occ_machine.specs.Alike.{Alike, IsFirst}
use Rattle.occ_machine.specs.Compiled.{Program}
use Rattle.occ_machine.specs.Machine.{Body}
use Rattle.occ_machine.specs.declared.task.Task.{Task}
use Rattle.occ_net_replay.specs.Replay.{Tasks, HasTask, may_go, first_task, turns_of, turns_at, branch_frame, branch_task, with_branches}
use Rattle.occ_net_replay.specs.Moments.{first, later, here, by_term}
use Rattle.occ_net_replay.proofs.Holding.{SameNumbers, Belongs, may_turn, Own, AllHold, one_term, placed_order, used_part, held_used}
use Rattle.occ_net_replay.proofs.Placed.{size, Placed, BranchesPlaced, LeftPlaced}
use Rattle.occ_net_replay.proofs.Putting.{InAmong}
use Rattle.occ_net_replay.proofs.States.{IsThere, there_again}
use Rattle.occ_net_replay.proofs.Tables.{set_same, set_other, same_or_not}

-- a copied cell has the value that it had
copied_value : (cells : List ℕ) (f : ℕ → ℤ) (c : ℕ) → IsTrue (is_held cells c) → value_at cells (map f cells) c ≡ f c
copied_value [] f c h = absurd (true≢false (sym h))
copied_value (x ∷ xs) f c h = by (nat_eq x c) refl h (copied_value xs f c)
  where
    by : (b : Bool) → nat_eq x c ≡ b → IsTrue (b || is_held xs c) → (IsTrue (is_held xs c) → value_at xs (map f xs) c ≡ f c) → (if b then f x else value_at xs (map f xs) c) ≡ f c
    by true e h r = ap f (eqb-true x c e)
    by false e h r = r h

pub same_branches : (bs : Branches) → SameNumbers bs (branches_of bs)
same_branches no_branches = tt
same_branches (and_branch n t bs) = (refl, same_branches bs)

module _ (d : Declared) (p : Program) (procs : List Numbered) (belongs_at : (n : ℕ) (t : Term) → slice_get procs n ≡ Some (numbered n t) → Belongs d p procs n) (f : Variables) where
  term_at : (n : ℕ) (t : Term) (e : slice_get procs n ≡ Some (numbered n t)) → (belongs_at n t e).term ≡ t
  term_at n t e = one_term (sym (belongs_at n t e).entry ∙ e)

  abbrev the_task : (n : ℕ) (t : Term) (e : slice_get procs n ≡ Some (numbered n t)) → Tasks → Task
  the_task n t e tasks = first_task n (turns_at tasks n) (branch_frame (belongs_at n t e).body f)

  task_is : (n : ℕ) (t : Term) (e : slice_get procs n ≡ Some (numbered n t)) (tasks : Tasks) → branch_task p.bodies f tasks n ≡ Some (the_task n t e tasks)
  task_is n t e tasks = ap (option_map (λ b. first_task n (turns_at tasks n) (branch_frame b f))) (belongs_at n t e).code

  -- tasks of other numbers stay
  pub outside : (bs : Branches) (lo hi : ℕ) → BranchesPlaced procs lo hi bs → (tasks : Tasks) (i : ℕ) → (i < lo) ⊎ (hi ≤ i) → slice_get (with_branches p.bodies f (numbers_of bs) tasks) i ≡ slice_get tasks i
  outside no_branches lo hi b tasks i o = refl
  outside (and_branch n t bs) lo hi b tasks i o =
      outside bs (n + 1 + size t) hi b.4 (slice_set tasks n (branch_task p.bodies f tasks n)) i (later_out o) ∙ set_other tasks n i (branch_task p.bodies f tasks n) (apart o)
    where
      later_out : (i < lo) ⊎ (hi ≤ i) → (i < n + 1 + size t) ⊎ (hi ≤ i)
      later_out (inl h) = let low = b.0 in inl (omega (arith, h, low))
      later_out (inr h) = inr h

      apart : (i < lo) ⊎ (hi ≤ i) → i ≡ n → ⊥
      apart (inl h) e = let low = b.0 in omega (arith, h, low, e)
      apart (inr h) e = let top = placed_order d p procs bs (n + 1 + size t) hi b.4 in omega (arith, h, top, e)

  -- the table has its places again
  pub full_again : (ns : List ℕ) (tasks : Tasks) (j : ℕ) → IsThere tasks j → IsThere (with_branches p.bodies f ns tasks) j
  full_again [] tasks j h = h
  full_again (n ∷ ns) tasks j h = full_again ns (slice_set tasks n (branch_task p.bodies f tasks n)) j (there_again tasks n j (branch_task p.bodies f tasks n) h)

  -- each task is a branch's, or was there
  pub record Branch (k i : ℕ) (bs : Branches) (t : Task) : Type 0 where
    pub among : InAmong i (branches_of bs)
    pub small : t.turns + k < 2 ^ 64
    pub ready : IsTrue (may_go t.wait)

  pub turns_small : (k : ℕ) (tasks : Tasks) → k < 2 ^ 64 → ((i : ℕ) (t : Task) → HasTask tasks i t → t.turns + k < 2 ^ 64) → (n : ℕ) → turns_at tasks n + k < 2 ^ 64
  turns_small k tasks h small n = by (slice_get tasks n) refl
    where
      by : (x : Option (Option Task)) → slice_get tasks n ≡ x → option_map_or turns_of x 0 + k < 2 ^ 64
      by None e = omega (arith, h)
      by (Some None) e = omega (arith, h)
      by (Some (Some t)) e = small n t e

  in_later : (i n : ℕ) (t : Term) (bs : Branches) → InAmong i (branches_of bs) → InAmong i (branches_of (and_branch n t bs))
  in_later i n t bs x = record { own = x.own; branches = x.branches; at = later x.at }

  later_branch : (k i n : ℕ) (b : Term) (bs : Branches) (t : Task) → Branch k i bs t → Branch k i (and_branch n b bs) t
  later_branch k i n b bs t x = record { among = in_later i n b bs x.among; small = x.small; ready = x.ready }

  set_again : (tasks : Tasks) (n i : ℕ) (x : Option Task) (t u : Task) → IsThere tasks n → x ≡ Some u → HasTask (slice_set tasks n x) i t → ((i ≡ n) × (t ≡ u)) ⊎ ((i ≡ n → ⊥) × HasTask tasks i t)
  set_again tasks n i x t u there e h = by (same_or_not i n)
    where
      one : Some (Some t) ≡ Some (Some u) → t ≡ u
      one q = cc

      by : (i ≡ n) ⊎ (i ≡ n → ⊥) → ((i ≡ n) × (t ≡ u)) ⊎ ((i ≡ n → ⊥) × HasTask tasks i t)
      by (inl q) = inl (q, one (sym h ∙ ap (slice_get (slice_set tasks n x)) q ∙ set_same tasks n there.entry x there.is ∙ ap Some e))
      by (inr k) = inr (k, sym (set_other tasks n i x k) ∙ h)

  pub branch_or_old : (k : ℕ) → k < 2 ^ 64 → (bs : Branches) (lo hi : ℕ) → BranchesPlaced procs lo hi bs → (tasks : Tasks) → ((j : ℕ) (b : Body) → slice_get p.bodies j ≡ Some b → IsThere tasks j) → ((i : ℕ) (t : Task) → HasTask tasks i t → t.turns + k < 2 ^ 64) → (i : ℕ) (t : Task) → HasTask (with_branches p.bodies f (numbers_of bs) tasks) i t → Branch k i bs t ⊎ HasTask tasks i t
  branch_or_old k h no_branches lo hi b tasks full small i t e = inr e
  branch_or_old k h (and_branch n u bs) lo hi b tasks full small i t e =
      by (branch_or_old k h bs (n + 1 + size u) hi b.4 next (λ j y q. there_again tasks n j (branch_task p.bodies f tasks n) (full j y q)) next_small i t e)
    where
      next : Tasks
      next = slice_set tasks n (branch_task p.bodies f tasks n)

      there : IsThere tasks n
      there = full n (belongs_at n u b.1).body (belongs_at n u b.1).code

      new_small : (the_task n u b.1 tasks).turns + k < 2 ^ 64
      new_small = turns_small k tasks h small n

      next_small : (j : ℕ) (v : Task) → HasTask (slice_set tasks n (branch_task p.bodies f tasks n)) j v → v.turns + k < 2 ^ 64
      next_small j v q = small_by (set_again tasks n j (branch_task p.bodies f tasks n) v (the_task n u b.1 tasks) there (task_is n u b.1 tasks) q)
        where
          small_by : ((j ≡ n) × (v ≡ the_task n u b.1 tasks)) ⊎ ((j ≡ n → ⊥) × HasTask tasks j v) → v.turns + k < 2 ^ 64
          small_by (inl x) = subst (λ z. z.turns + k < 2 ^ 64) (sym x.1) new_small
          small_by (inr x) = small j v x.1

      by : Branch k i bs t ⊎ HasTask (slice_set tasks n (branch_task p.bodies f tasks n)) i t → Branch k i (and_branch n u bs) t ⊎ HasTask tasks i t
      by (inl x) = inl (later_branch k i n u bs t x)
      by (inr q) = old (set_again tasks n i (branch_task p.bodies f tasks n) t (the_task n u b.1 tasks) there (task_is n u b.1 tasks) q)
        where
          old : ((i ≡ n) × (t ≡ the_task n u b.1 tasks)) ⊎ ((i ≡ n → ⊥) × HasTask tasks i t) → Branch k i (and_branch n u bs) t ⊎ HasTask tasks i t
          old (inl x) =
              inl (record {
                among = subst (λ z. InAmong z (branches_of (and_branch n u bs))) (sym x.0) (record { own = left (Do u) []; branches = no_processes; at = first here });
                small = subst (λ z. z.turns + k < 2 ^ 64) (sym x.1) new_small;
                ready = subst (λ z. IsTrue (may_go z.wait)) (sym x.1) refl;
              })
          old (inr x) = inr x.1

  -- ---- the branches hold

  module _ (k : ℕ) (h : k < 2 ^ 64) (s : Store) (cells : List ℕ) (agrees : Agrees d cells f s) where
    branch_own : (n : ℕ) (t : Term) (e : slice_get procs n ≡ Some (numbered n t)) (tasks new : Tasks) → HasTask new n (the_task n t e tasks) → turns_at tasks n + k < 2 ^ 64 → TermHas d t → Placed procs (n + 1) (n + 1 + size t) t → ((c : ℕ) → IsTrue (used_by (uses_of t) c) → IsTrue (is_held cells c)) → Own d p procs k s new n (left (Do t) []) no_processes
    branch_own n t e tasks new there small typed placed held =
        let b = belongs_at n t e in
        let same : b.term ≡ t = term_at n t e in
        let task : Task = first_task n (turns_at tasks n) (branch_frame b.body f) in
        let long : length (map (at f) b.body.cells) ≡ length b.body.cells = length-map b.body.cells (at f) in
        let is_first : IsFirst b.body task = record { pc = refl; wait = refl; frame = record { cells_are = refl; values_for_all = long }; none_left = refl } in
        let whole = uses_of b.term in
        record {
          belongs = b;
          task = task;
          has_task = there;
          but = empty_set;
          stands = may_turn refl refl by_term (subst (λ z. Alike k d b.body task (left (Do z) [])) same (b.does.alike k task small is_first));
          typed = (typed, tt);
          uses = subst (λ z. IsPartOf (uses_of_left (left (Do t) [])) (uses_of z)) (sym same) (both_parts (uses_of t) no_use (uses_of t) (whole_part (uses_of t)) (no_part (uses_of t)));
          placed = subst (λ z. LeftPlaced procs (n + 1) (n + 1 + size z) (left (Do t) [])) (sym same) (placed, tt);
          agrees = record {
            shape = record { cells_are = refl; values_for_all = long };
            same = λ c m i.
                copied_value b.body.cells (at f) c m ∙ agrees.same c (held c (subst (λ z. IsTrue (used_by (uses_of z) c)) same (held_used d p procs b.body b.term b.does c m)));
          };
        }

    pub branches_hold : (bs : Branches) (lo hi : ℕ) (tasks : Tasks) → BranchesPlaced procs lo hi bs → BranchesHave d bs → ((c : ℕ) → IsTrue (used_by (uses_of_branches bs) c) → IsTrue (is_held cells c)) → ((j : ℕ) (b : Body) → slice_get p.bodies j ≡ Some b → IsThere tasks j) → ((n : ℕ) → turns_at tasks n + k < 2 ^ 64) → AllHold d p procs k s (with_branches p.bodies f (numbers_of bs) tasks) (branches_of bs)
    branches_hold no_branches lo hi tasks b typed held full small = tt
    branches_hold (and_branch n t bs) lo hi tasks b typed held full small =
        let next : Tasks = slice_set tasks n (branch_task p.bodies f tasks n) in
        let place = full n (belongs_at n t b.1).body (belongs_at n t b.1).code in
        let set : HasTask next n (the_task n t b.1 tasks) = set_same tasks n place.entry (branch_task p.bodies f tasks n) place.is ∙ ap Some (task_is n t b.1 tasks) in
        let there : HasTask (with_branches p.bodies f (numbers_of bs) next) n (the_task n t b.1 tasks) = outside bs (n + 1 + size t) hi b.4 next n (inl (omega arith)) ∙ set in
        let mine_held : (c : ℕ) → IsTrue (used_by (uses_of t) c) → IsTrue (is_held cells c) =
        λ c u. held c (used_part d p procs (uses_of t) (uses_of_branches (and_branch n t bs)) (left_part (uses_of t) (uses_of_branches bs) _ (whole_part (uses_of_branches (and_branch n t bs)))) c u) in
        let others_held : (c : ℕ) → IsTrue (used_by (uses_of_branches bs) c) → IsTrue (is_held cells c) =
        λ c u. held c (used_part d p procs (uses_of_branches bs) (uses_of_branches (and_branch n t bs)) (right_part (uses_of t) (uses_of_branches bs) _ (whole_part (uses_of_branches (and_branch n t bs)))) c u) in (
          (branch_own n t b.1 tasks (with_branches p.bodies f (numbers_of bs) next) there (small n) typed.0 b.2 mine_held, tt),
          branches_hold bs (n + 1 + size t) hi next b.4 typed.1 others_held (λ j y q. there_again tasks n j (branch_task p.bodies f tasks n) (full j y q)) (next_small next set),
        )
      where
        next_small : (next : Tasks) → HasTask next n (the_task n t b.1 tasks) → (i : ℕ) → turns_at (slice_set tasks n (branch_task p.bodies f tasks n)) i + k < 2 ^ 64
        next_small next set i = by (same_or_not i n)
          where
            place : IsThere tasks n
            place = full n (belongs_at n t b.1).body (belongs_at n t b.1).code

            by : (i ≡ n) ⊎ (i ≡ n → ⊥) → turns_at (slice_set tasks n (branch_task p.bodies f tasks n)) i + k < 2 ^ 64
            by (inl e) =
                subst (λ z. turns_at (slice_set tasks n (branch_task p.bodies f tasks n)) z + k < 2 ^ 64) (sym e)
                (subst (λ z. option_map_or turns_of z 0 + k < 2 ^ 64) (sym (set_same tasks n place.entry (branch_task p.bodies f tasks n) place.is ∙ ap Some (task_is n t b.1 tasks))) (small n))
            by (inr q) = subst (λ z. option_map_or turns_of z 0 + k < 2 ^ 64) (sym (set_other tasks n i (branch_task p.bodies f tasks n) q)) (small i)
