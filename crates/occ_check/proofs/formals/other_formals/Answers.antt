use Rattle.std.proofs.Common.{rules}
use Rattle.occ_check_lines.specs.View.{names_in}
use Rattle.occ_check.proofs.Calls.{formal_next, formal_stops, formals_end}
use Rattle.occ_check.proofs.formals.other_formals.Goals as goal

pub returns-in_err-one : goal.returns-in_err-one
returns-in_err-one c =
    let r =
    formal_stops (names_in c.args.context.scope) c.args.context.line c.args.spec.now c.args.formals.now c.loop-formal.formal-index c.loop-formal.all.items c.loop-formal.before.now
    c.spec_after-before.result.now c.formal-item.result c.loop-formal-test.true c.formal-item.is c.loop-formal.invariant c.spec_after-before.ensures c.in_err-one.field-0.0
    c.in_err-one.ensures in
    search rules

pub loop-formal-preserved : goal.loop-formal-preserved
loop-formal-preserved c =
    formal_next (names_in c.args.context.scope) c.args.context.line c.args.spec.now c.args.formals.now c.loop-formal.formal-index c.loop-formal.all.items c.loop-formal.before.now
    c.spec_after-before.result.now c.formal-item.result c.loop-formal-test.true c.formal-item.is c.loop-formal.invariant c.spec_after-before.ensures c.in_ok-one.one
    c.push.new.self.items c.in_ok-one.ensures c.in_ok-push.ensures.items

pub returns : goal.returns
returns c =
    formals_end (names_in c.args.context.scope) c.args.context.line c.args.spec.now c.args.formals.now c.loop-formal.formal-index c.loop-formal.all.items c.loop-formal.before.now
    c.loop-formal-test.false c.loop-formal.invariant
