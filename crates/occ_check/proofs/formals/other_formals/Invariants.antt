use Rattle.occ_check_lines.specs.View.{names_in}
use Rattle.occ_check.proofs.Calls.{Lists}
use Rattle.occ_check.proofs.formals.other_formals.Given as goal

abbrev pub invariant-loop-formal : goal.invariant-loop-formal
invariant-loop-formal l = Lists (names_in l.context.scope) l.context.line l.spec l.formals l.formal-index l.all.items l.before
