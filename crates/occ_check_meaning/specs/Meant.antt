-- A scope with what each PROC means, which leads from the relation to the recursion.
-- Manual: scope; procedures.
use Rattle.std.specs.Prelude.{[], Some, ℕ, ◌∷◌, ◌≡◌}
use Rattle.occ_tree_grammar.specs.Processes.Trees.{process, Node}
use Rattle.occ_term.specs.Terms.{Term}
use Rattle.occ_check_meaning.specs.Numbers.{Numbers}
use Rattle.occ_check_meaning.specs.Scope.{known, proc, Scope, names_of, within}
use Rattle.occ_check_meaning.specs.Performing.{Calling, calling}
use Rattle.occ_check_meaning.specs.Recursion.{unfolded}
use Rattle.occ_check_meaning.specs.Unfolding.{Procedure, procedure, Procedures}

abbrev pub meaning_of : Procedure → Scope Calling → Calling
meaning_of (procedure line fs body) meanings = calling (names_of meanings) line fs (λ bs. unfolded body (within bs meanings))

unfoldable pub meant : Procedures → Scope Calling
meant [] = []
meant ((x, known k) ∷ sc) = (x, known k) ∷ meant sc
meant ((f, proc p) ∷ sc) = (f, proc (meaning_of p (meant sc))) ∷ meant sc

-- what the recursion answers of a process, as a relation
abbrev pub Answered : Procedures → (depth : ℕ) → Numbers → Node process → Term → Numbers → Type 0
Answered sc depth n p t m = unfolded p (meant sc) depth n ≡ Some (t, m)

-- what the one relation has of a process, the other one has
abbrev pub Implies : (One Other : Procedures → (depth : ℕ) → Numbers → Node process → Term → Numbers → Type 0) → Type 0
Implies One Other = (sc : Procedures) (depth : ℕ) (n m : Numbers) (p : Node process) (t : Term) → One sc depth n p t m → Other sc depth n p t m
