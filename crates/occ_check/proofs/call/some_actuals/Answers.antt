use Rattle.std.proofs.Common.{map, rules}
use Rattle.occ_tree_grammar.specs.Expressions.Trees as trees
use Rattle.occ_check_lines.specs.View.{names_in, numbers_of}
use Rattle.occ_check.proofs.Calls.{all_given, first_stops, no_first, nothing, no_formal, others_stop}
use Rattle.occ_check.proofs.call.some_actuals.Goals as goal

pub returns-in_default : goal.returns-in_default
returns-in_default c =
    no_formal (names_in c.args.context.scope) c.args.context.line c.args.depth c.args.formals.now (trees.expression_of c.args.actuals.now.first) (map trees.expression_of c.args.actuals.now.others.items)
    (numbers_of c.args.numbers.now) (nothing c.args.formals.now (no_first _ c.split_first.result c.split_first.ensures.cases c.in_default.not-Some))

pub returns-in_err-opened : goal.returns-in_err-opened
returns-in_err-opened c =
    let r =
    first_stops (names_in c.args.context.scope) c.args.context.line c.args.depth c.args.formals.now c.in-Some.formal.now c.in-Some.rest.now c.args.actuals.now.first c.args.actuals.now.others.items
    c.args.numbers.now c.in-Some.ensures.cases.0 c.in_err-opened.field-0.0 c.in_err-opened.ensures in
    search rules

pub returns-in_err-others : goal.returns-in_err-others
returns-in_err-others c =
    let r =
    others_stop (names_in c.args.context.scope) c.args.context.line c.args.depth c.args.formals.now c.in-Some.formal.now c.in-Some.rest.now c.args.actuals.now.first c.args.actuals.now.others.items
    c.args.numbers.now c.in-Some.ensures.cases.0 c.in_ok-opened.opened c.actual_of.new.numbers c.in_ok-opened.ensures c.in_err-others.field-0.0
    (rw c.deref.ensures.value at c.in_err-others.ensures) in
    search rules

pub returns : goal.returns
returns c =
    all_given (names_in c.args.context.scope) c.args.context.line c.args.depth c.args.formals.now c.in-Some.formal.now c.in-Some.rest.now c.args.actuals.now.first c.args.actuals.now.others.items
    c.args.numbers.now c.in-Some.ensures.cases.0 c.in_ok-opened.opened c.actual_of.new.numbers c.in_ok-opened.ensures c.in_ok-others.others c.append.new.self
    c.all_actuals.new.numbers (rw c.deref.ensures.value at c.in_ok-others.ensures) c.in_ok-append.ensures.names c.in_ok-append.ensures.heads
