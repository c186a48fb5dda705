use Rattle.std.proofs.Common.{◌≡◌, ◌<◌, length, rules}
use Rattle.occ_check_lines.specs.View.{names_in}
use Rattle.occ_check.proofs.Calls.{actual_next, actual_stops, as_many, no_first, nothing, too_few, too_many}
use Rattle.occ_check.proofs.call.all_actuals.Goals as goal

pub returns-in_default : goal.returns-in_default
returns-in_default c =
    too_few (names_in c.args.context.scope) c.args.context.line c.args.depth c.args.formals.now c.args.actuals.now c.loop-formal.formal-index c.args.numbers.now c.loop-formal.opened c.loop-formal.others.now c.loop-formal.numbers
    c.loop-formal.invariant c.formal-item.result c.loop-formal-test.true (nothing c.loop-formal.others.now (no_first _ c.split_first.result c.split_first.ensures.cases c.in_default.not-Some))

pub returns-in_err-one : goal.returns-in_err-one
returns-in_err-one c =
    let r =
    actual_stops (names_in c.args.context.scope) c.args.context.line c.args.depth c.args.formals.now c.args.actuals.now c.loop-formal.formal-index c.args.numbers.now c.loop-formal.opened c.loop-formal.others.now c.loop-formal.numbers
    c.formal-item.result c.in-Some.e.now c.in-Some.rest.now c.loop-formal-test.true c.formal-item.is c.in-Some.ensures.cases.0 c.loop-formal.invariant c.in_err-one.field-0.0
    c.in_err-one.ensures in
    search rules

pub loop-formal-preserved : goal.loop-formal-preserved
loop-formal-preserved c =
    actual_next (names_in c.args.context.scope) c.args.context.line c.args.depth c.args.formals.now c.args.actuals.now c.loop-formal.formal-index c.args.numbers.now c.loop-formal.opened c.loop-formal.others.now c.loop-formal.numbers
    c.formal-item.result c.in-Some.e.now c.in-Some.rest.now c.loop-formal-test.true c.formal-item.is c.in-Some.ensures.cases.0 c.loop-formal.invariant c.in_ok-one.one
    c.append.new.self c.actual_of.new.numbers c.in_ok-one.ensures c.in_ok-append.ensures.names c.in_ok-append.ensures.heads

pub returns-then-is_empty : goal.returns-then-is_empty
returns-then-is_empty c =
    let none : length c.loop-formal.others.now ≡ 0 = search rules in
    as_many (names_in c.args.context.scope) c.args.context.line c.args.depth c.args.formals.now c.args.actuals.now c.loop-formal.formal-index c.args.numbers.now c.loop-formal.opened c.loop-formal.others.now c.loop-formal.numbers
    c.loop-formal.invariant c.loop-formal-test.false none

pub returns-else-is_empty : goal.returns-else-is_empty
returns-else-is_empty c =
    let more : 0 < length c.loop-formal.others.now = search rules in
    too_many (names_in c.args.context.scope) c.args.context.line c.args.depth c.args.formals.now c.args.actuals.now c.loop-formal.formal-index c.args.numbers.now c.loop-formal.opened c.loop-formal.others.now c.loop-formal.numbers
    c.loop-formal.invariant c.loop-formal-test.false more
