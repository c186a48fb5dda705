use Rattle.std.proofs.Common.{◌≡◌, ◌≤◌, IsTrue, pos}
use Rattle.occ_term.specs.View.{expression_of}
use Rattle.occ_term.specs.Uses.{is_constant}
use Rattle.occ_term.specs.Values.{value_of}
use Rattle.occ_term.specs.Evaluation.{evaluated}
use Rattle.occ_term.specs.Chains.{chosen}
use Rattle.occ_term.proofs.expression.TermExpr.TheLaws.{the_size}
use Rattle.occ_term.proofs.constant.+constant.Given as goal

abbrev pub invariant-chain_value-loop-rest : goal.invariant-chain_value-loop-rest
invariant-chain_value-loop-rest l =
    (the_size l.rest ≤ the_size l.fn.first)
    × IsTrue (is_constant (expression_of l.rest))
    × (chosen (value_of (expression_of l.fn.first) (λ c. pos 0)) (evaluated l.fn.after_true) (evaluated l.fn.after_false)
    ≡ chosen (value_of (expression_of l.rest) (λ c. pos 0)) (evaluated l.on_true) (evaluated l.on_false))
