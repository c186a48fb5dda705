use Rattle.std.proofs.Common.{rules}
use Rattle.occ_check_meaning.specs.Declarations as meant
use Rattle.occ_check_lines.specs.View.{Refuses, carried_of, numbers_of}
use Rattle.occ_check_lines.proofs.Declarations.{ends, goes_on, stops}
use Rattle.occ_check_lines.proofs.declaration.channels_declared.Goals as goal

pub returns-in_err-one : goal.returns-in_err-one
returns-in_err-one c =
    let refused : Refuses c.in_err-one.field-0.0 (meant.each_declared (meant.channel_declared (carried_of c.args.carried.now) c.args.sizes.now) c.args.names.now (numbers_of c.args.numbers.now)) =
    stops c.in_err-one.field-0.0 c.name-item.result c.loop-name-test.true c.name-item.is c.loop-name.invariant c.in_err-one.ensures in
    search rules

pub loop-name-preserved : goal.loop-name-preserved
loop-name-preserved c =
    goes_on c.name-item.result c.in_ok-one.one c.loop-name-test.true c.name-item.is c.loop-name.invariant c.in_ok-one.ensures
    c.in_ok-append.ensures.names c.in_ok-append.ensures.heads

pub returns : goal.returns
returns c = ends c.loop-name-test.false c.loop-name.invariant
