-- Processes one after the other.
use Rattle.std.proofs.Common.{◌≡◌, ◌<◌, ◌∙◌, ℕ, List, [], ◌∷◌, Option, Some, refl, ap, map, get_or, length, arith, Vec, Global, zero, suc}
use Rattle.occ_tree_grammar.specs.Many.{◌>>=◌}
use Rattle.occ_tree_grammar.specs.Processes.Trees.{nodes, more_nodes}
use Rattle.occ_tree_grammar.specs.Processes.Views.{process_of, held_processes}
use Rattle.occ_tree_grammar.specs.declared.tree.process.Process.{Process}
use Rattle.occ_tree_grammar.specs.declared.tree.process.Stmt.{Row_of-Process, end_of-Process, more_of-Process, items-the_row-Process, items_hidden-the_row-Process-4}
use Rattle.occ_tree_grammar.specs.declared.tree.process.Arm.TheBlock.{hidden-the_row-Process-4}
use Rattle.occ_term.specs.Terms.{Term, Terms, no_terms, then_term}
use Rattle.occ_term.specs.View.{terms}
use Rattle.occ_check_meaning.specs.Numbers.{Numbers}
use Rattle.occ_check_meaning.specs.Performing.{Calling}
use Rattle.occ_check_meaning.specs.Recursion.{all_in_turn, unfolded}
use Rattle.occ_check_meaning.specs.Scope.{Scope}
use Rattle.occ_check.specs.Weights.{node_size, nodes_size}
use Rattle.occ_check.proofs.PartByPart.{before}

-- ---- vectors

held_processes_are : {m : _} (k : Row_of-Process m) → held_processes k ≡ nodes (map process_of (items-the_row-Process m k))
unfolding process_of held_processes
held_processes_are end_of-Process = refl
held_processes_are (more_of-Process x k) = ap (more_nodes (process_of x)) (held_processes_are k)

pub processes_made : (v : Vec Process Global) → held_processes (hidden-the_row-Process-4 v) ≡ nodes (map process_of v.items)
processes_made v = held_processes_are (hidden-the_row-Process-4 v) ∙ ap (λ (xs : List Process). nodes (map process_of xs)) (items_hidden-the_row-Process-4 v)

-- ---- the list, part by part

abbrev pub in_turn : Scope Calling → ℕ → List Process → Numbers → Option (Terms × Numbers)
in_turn sc depth xs n = all_in_turn (nodes (map process_of xs)) sc depth n

abbrev pub in_turn_one : Scope Calling → ℕ → Process → Numbers → Option (Term × Numbers)
in_turn_one sc depth x n = unfolded (process_of x) sc depth n

abbrev pub put_term : Term → Terms × Numbers → Terms × Numbers
put_term t r = (then_term t r.0, r.1)

pub in_turn_step : (sc : Scope Calling) (depth : ℕ) (x : Process) (xs : List Process) (n : Numbers)
    → in_turn sc depth (x ∷ xs) n ≡ (in_turn_one sc depth x n >>= λ a. in_turn sc depth xs a.1 >>= λ r. Some (put_term a.0 r))
unfolding all_in_turn
in_turn_step sc depth x xs n = refl

pub in_turn_none : (sc : Scope Calling) (depth : ℕ) (n : Numbers) → in_turn sc depth [] n ≡ Some (no_terms, n)
unfolding all_in_turn
in_turn_none sc depth n = refl

pub all_terms : (ts : List Term) (n : Numbers) → before put_term ts (no_terms, n) ≡ (terms ts, n)
all_terms [] n = refl
all_terms (t ∷ ts) n = ap (put_term t) (all_terms ts n)

-- ---- what stands in a list is smaller

pub item_within : (xs : List Process) (i : ℕ) (x : Process) → i < length xs → x ≡ get_or xs i x → node_size (process_of x) < nodes_size (nodes (map process_of xs))
unfolding nodes_size
item_within [] i x h is = absurd (omega (arith, h))
item_within (y ∷ ys) zero x h is = let e : node_size (process_of x) ≡ node_size (process_of y) = ap (λ z. node_size (process_of z)) is in omega (arith, e)
item_within (y ∷ ys) (suc i) x h is = let e = item_within ys i x (omega (arith, h)) is in omega (arith, e)
