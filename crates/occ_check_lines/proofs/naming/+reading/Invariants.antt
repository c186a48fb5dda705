use Rattle.std.proofs.Common.{◌≡◌, ◌≤◌, drop, map}
use Rattle.occ_term.specs.View.{expression_of, subscripts}
use Rattle.occ_check_lines.specs.Clash.{met_by, reads_some, some_in_subscripts}
use Rattle.occ_term.proofs.expression.TermExpr.TheLaws.{the_size}
use Rattle.occ_check_lines.proofs.naming.+reading.Given as goal

abbrev pub invariant-some_reads-loop-subscript : goal.invariant-some_reads-loop-subscript
invariant-some_reads-loop-subscript l =
    some_in_subscripts (met_by l.others) (subscripts (map expression_of (drop l.subscript-index l.list))) ≡ some_in_subscripts (met_by l.others) (subscripts (map expression_of l.list))

abbrev pub invariant-reads-loop-rest : goal.invariant-reads-loop-rest
invariant-reads-loop-rest l =
    (the_size l.rest ≤ the_size l.fn.e) × (reads_some (met_by l.others) (expression_of l.fn.e) ≡ reads_some (met_by l.others) (expression_of l.rest))
