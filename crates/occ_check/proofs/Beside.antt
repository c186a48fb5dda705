-- Processes beside each other.
use Rattle.std.proofs.Common.{◌≡◌, ◌∙◌, ℕ, List, [], ◌∷◌, Option, Some, None, refl, ap, map}
use Rattle.occ_tree_grammar.specs.Many.{◌>>=◌}
use Rattle.occ_tree_grammar.specs.Processes.Trees.{nodes}
use Rattle.occ_tree_grammar.specs.Processes.Views.{process_of}
use Rattle.occ_tree_grammar.specs.declared.tree.process.Process.{Process}
use Rattle.occ_term.specs.Terms.{Term, Branches, no_branches, and_branch}
use Rattle.occ_term.specs.View.{branches}
use Rattle.occ_check_meaning.specs.Numbers.{Numbers, more_processes}
use Rattle.occ_check_meaning.specs.Performing.{Calling}
use Rattle.occ_check_meaning.specs.Recursion.{all_beside, unfolded}
use Rattle.occ_check_meaning.specs.Scope.{Scope}
use Rattle.occ_check.proofs.PartByPart.{before}

abbrev pub branches_in : Scope Calling → ℕ → List Process → Numbers → Option (Branches × Numbers)
branches_in sc depth xs n = all_beside (nodes (map process_of xs)) sc depth n

-- a branch is seen as what it puts before the others
abbrev pub numbered_as : ℕ → Term × Numbers → Option ((Branches → Branches) × Numbers)
numbered_as k t = Some (and_branch k t.0, t.1)

abbrev pub branch_one : Scope Calling → ℕ → Process → Numbers → Option ((Branches → Branches) × Numbers)
branch_one sc depth x n = do
  m ← more_processes n
  t ← unfolded (process_of x) sc depth m
  numbered_as n.processes t

abbrev pub put_branch : (Branches → Branches) → Branches × Numbers → Branches × Numbers
put_branch b r = (b r.0, r.1)

regrouped : (n : Numbers) (o : Option Numbers) (u : Numbers → Option (Term × Numbers)) (others : Numbers → Option (Branches × Numbers))
    → (o >>= λ m. u m >>= λ t. others t.1 >>= λ r. Some (and_branch n.processes t.0 r.0, r.1))
    ≡ ((o >>= λ m. u m >>= λ t. numbered_as n.processes t) >>= λ a. others a.1 >>= λ r. Some (put_branch a.0 r))
regrouped n None u others = refl
regrouped n (Some m) u others = by (u m)
  where
    by : (p : Option (Term × Numbers)) → (p >>= λ t. others t.1 >>= λ r. Some (and_branch n.processes t.0 r.0, r.1))
        ≡ ((p >>= λ t. numbered_as n.processes t) >>= λ a. others a.1 >>= λ r. Some (put_branch a.0 r))
    by None = refl
    by (Some t) = refl

pub branch_step : (sc : Scope Calling) (depth : ℕ) (x : Process) (xs : List Process) (n : Numbers)
    → branches_in sc depth (x ∷ xs) n ≡ (branch_one sc depth x n >>= λ a. branches_in sc depth xs a.1 >>= λ r. Some (put_branch a.0 r))
unfolding all_beside
branch_step sc depth x xs n = regrouped n (more_processes n) (unfolded (process_of x) sc depth) (branches_in sc depth xs)

pub branch_none : (sc : Scope Calling) (depth : ℕ) (n : Numbers) → branches_in sc depth [] n ≡ Some (no_branches, n)
unfolding all_beside
branch_none sc depth n = refl

pub all_branches : (bs : List (Branches → Branches)) (n : Numbers) → before put_branch bs (no_branches, n) ≡ (branches bs, n)
all_branches [] n = refl
all_branches (b ∷ bs) n = ap (put_branch b) (all_branches bs n)

-- ---- the steps of one branch

module _ (sc : Scope Calling) (depth : ℕ) (x : Process) (n : Numbers) where
  pub no_number : more_processes n ≡ None → branch_one sc depth x n ≡ None
  no_number e = ap (λ o. o >>= λ m. unfolded (process_of x) sc depth m >>= λ t. numbered_as n.processes t) e

  module _ (m : Numbers) (numbered : more_processes n ≡ Some m) where
    pub no_body : unfolded (process_of x) sc depth m ≡ None → branch_one sc depth x n ≡ None
    no_body e = ap (λ o. o >>= λ m. unfolded (process_of x) sc depth m >>= λ t. numbered_as n.processes t) numbered ∙ ap (λ o. o >>= λ t. numbered_as n.processes t) e

    pub one_branch : (t : Term) (l : Numbers) → unfolded (process_of x) sc depth m ≡ Some (t, l) → branch_one sc depth x n ≡ Some (and_branch n.processes t, l)
    one_branch t l e = ap (λ o. o >>= λ m. unfolded (process_of x) sc depth m >>= λ t. numbered_as n.processes t) numbered ∙ ap (λ o. o >>= λ t. numbered_as n.processes t) e
