use Rattle.std.proofs.Common.{◌≡◌, ◌≤◌}
use Rattle.occ_term.specs.Uses.{is_constant}
use Rattle.occ_term.specs.View.{expression_of}
use Rattle.occ_term.proofs.expression.TermExpr.TheLaws.{the_size}
use Rattle.occ_term.proofs.constant.+is_constant.Given as goal

abbrev pub invariant-loop-rest : goal.invariant-loop-rest
invariant-loop-rest l =
    (the_size l.rest ≤ the_size l.fn.e) × (is_constant (expression_of l.fn.e) ≡ is_constant (expression_of l.rest))
