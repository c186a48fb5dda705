use Rattle.std.proofs.Common.{◌<◌, ◌+◌, sym, subst, length, arith}
use Rattle.std.proofs.lemmas.Bool.Decides.{nat_tests}
use Rattle.occ_choices.specs.Reading.{ReadTo}
use Rattle.occ_choices.proofs.Files.{bad_there, read_many, read_on, starts, too_many}
use Rattle.occ_choices.proofs.read.read_choices.Goals as goal

pub loop-number-init : goal.loop-number-init
loop-number-init c = subst (λ cs. ReadTo c.args.text.now c.args.text.now cs 0) (sym c.new-choices.ensures.items) (starts c.args.text.now)

pub returns-in_default-clause-refused : goal.returns-in_default-clause-refused
returns-in_default-clause-refused c =
    bad_there c.args.text.now c.loop-number.rest.now c.first_line.result.1.now c.first_line.result.0.now c.loop-number.choices.items c.loop-number.number c.loop-number.invariant c.first_line.ensures c.in_default.ensures.none

pub loop-number-preserved : goal.loop-number-preserved
loop-number-preserved c =
    subst (λ cs. ReadTo c.args.text.now c.first_line.result.1.now cs (c.loop-number.number + 1)) (sym c.in_ok-push.ensures.items)
    (read_on c.args.text.now c.loop-number.rest.now c.first_line.result.1.now c.first_line.result.0.now c.loop-number.choices.items c.in-Some.choice c.loop-number.number c.loop-number.invariant c.first_line.ensures c.in-Some.ensures.some)

pub returns-else-is_empty-2-clause-refused : goal.returns-else-is_empty-2-clause-refused
returns-else-is_empty-2-clause-refused c =
    let test = c.is_empty-2.ensures in
    let is_not = c.if-is_empty-2.false in
    let some : 0 < length c.loop-number.rest.now = grind (arith, nat_tests) in
    let many = too_many c.args.text.now c.loop-number.rest.now c.loop-number.choices.items c.loop-number.number c.loop-number.invariant some in
    omega (arith, many, c.loop-number-test.false)

pub returns-then-is_empty-clause-few : goal.returns-then-is_empty-clause-few
returns-then-is_empty-clause-few c =
    let many = read_many c.args.text.now c.loop-number.rest.now c.loop-number.choices.items c.loop-number.number c.loop-number.invariant in
    omega (arith, many, c.loop-number-test.true)

pub returns-then-is_empty-2-clause-few : goal.returns-then-is_empty-2-clause-few
returns-then-is_empty-2-clause-few c =
    let many = read_many c.args.text.now c.loop-number.rest.now c.loop-number.choices.items c.loop-number.number c.loop-number.invariant in
    omega (arith, many, c.loop-number-test.false)
