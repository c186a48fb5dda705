use Rattle.occ_check_lines.specs.View.{names_in}
use Rattle.occ_check.proofs.Calls.{Binds}
use Rattle.occ_check.proofs.call.all_actuals.Given as goal

abbrev pub invariant-loop-formal : goal.invariant-loop-formal
invariant-loop-formal l = Binds (names_in l.context.scope) l.context.line l.depth l.formals l.actuals l.formal-index l.initial.numbers l.opened l.others l.numbers
