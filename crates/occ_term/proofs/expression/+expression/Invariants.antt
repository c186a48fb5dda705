use Rattle.std.proofs.Common.{◌≤◌}
use Rattle.occ_term.proofs.expression.TermExpr.TheLaws.{the_size}
use Rattle.occ_term.proofs.expression.+expression.Given as goal

abbrev pub invariant-TermExpr::drop-loop-self : goal.invariant-TermExpr::drop-loop-self
invariant-TermExpr::drop-loop-self l = the_size l.self ≤ the_size l.initial.self
