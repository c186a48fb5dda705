-- How large trees and scopes are: what is unfolded next is smaller than what it stands in, and a PROC's body with all that it sees
-- is smaller than a scope that the PROC stands in.
use Rattle.std.proofs.Common.{◌≡◌, ◌<◌, ◌+◌, ℕ, [], ◌∷◌, Bool, true, false, cond, bytes_eq, Some, refl, ap, arith}
use Rattle.occ_tree_grammar.specs.Lines.Trees.{Formals}
use Rattle.occ_tree_grammar.specs.Processes.Trees.{process, Node}
use Rattle.occ_check_meaning.specs.Scope.{Name, Pairs, Binding, known, proc, within}
use Rattle.occ_check_meaning.specs.Unfolding.{Procedure, procedure, Procedures, found}
use Rattle.occ_check.specs.Weights.{node_size, weight}
use Rattle.occ_check_meaning.proofs.Steps.{some_is}

pub same_weight : (bs : Pairs) (sc : Procedures) → weight (within bs sc) ≡ weight sc
unfolding weight within
same_weight [] sc = refl
same_weight (b ∷ bs) sc = same_weight bs sc

abbrev total : Binding Procedure × Procedures → ℕ
total (known k, s) = 0
total (proc (procedure line fs b), s) = node_size b + weight s

abbrev is_proc : Binding Procedure → Bool
is_proc (known k) = false
is_proc (proc p) = true

-- the body of a PROC that is found, with what stands behind it, weighs less than the scope
pub lighter : (sc : Procedures) (x : Name) (line : ℕ) (fs : Formals) (body : Node process) (outer : Procedures)
    → found sc x ≡ Some (proc (procedure line fs body), outer) → node_size body + weight outer < weight sc
unfolding found weight
lighter [] x line fs body outer e = absurd cc
lighter ((y, known k) ∷ sc) x line fs body outer e = chosen (bytes_eq x y) (lighter sc x line fs body outer) e
  where
    chosen : (b : Bool) → (found sc x ≡ Some (proc (procedure line fs body), outer) → node_size body + weight outer < weight sc)
        → (cond b (Some (known k, sc)) (found sc x)) ≡ Some (proc (procedure line fs body), outer) → node_size body + weight outer < weight sc
    chosen true below e = let h : known k ≡ proc (procedure line fs body) = ap (λ (d : Binding Procedure × Procedures). d.0) (some_is (known k, sc) (proc (procedure line fs body), outer) e) in absurd cc
    chosen false below e = below e
lighter ((y, proc (procedure m gs other)) ∷ sc) x line fs body outer e = chosen (bytes_eq x y) (lighter sc x line fs body outer) e
  where
    chosen : (b : Bool) → (found sc x ≡ Some (proc (procedure line fs body), outer) → node_size body + weight outer < weight sc)
        → (cond b (Some (proc (procedure m gs other), sc)) (found sc x)) ≡ Some (proc (procedure line fs body), outer) → node_size body + weight outer < (node_size other + weight sc) + 1
    chosen true below e = let h : node_size other + weight sc ≡ node_size body + weight outer = ap total (some_is (proc (procedure m gs other), sc) (proc (procedure line fs body), outer) e) in omega (arith, h)
    chosen false below e = let h = below e in omega (arith, h)
