use Rattle.std.proofs.Common.{◌≤◌, arith, length, sym}
use Rattle.std.proofs.lemmas.List.{length-take-le, take_all}
use Rattle.occ_program.proofs.exploring.first_answers.Goals as goal

pub slice_bounds-result-end : goal.slice_bounds-result-end
slice_bounds-result-end c =
    let within : 100 ≤ length c.args.answers.now = omega (arith, c.if-answers-gt-MOST_ANSWERS.true) in
    omega (arith, within, length-take-le 100 c.args.answers.now within)

pub returns-else-answers-gt-MOST_ANSWERS-clause-first : goal.returns-else-answers-gt-MOST_ANSWERS-clause-first
returns-else-answers-gt-MOST_ANSWERS-clause-first c = sym (take_all 100 c.args.answers.now (omega (arith, c.if-answers-gt-MOST_ANSWERS.false)))

pub returns-then-answers-gt-MOST_ANSWERS-clause-few : goal.returns-then-answers-gt-MOST_ANSWERS-clause-few
returns-then-answers-gt-MOST_ANSWERS-clause-few c =
    let within : 100 ≤ length c.args.answers.now = omega (arith, c.if-answers-gt-MOST_ANSWERS.true) in
    omega (arith, length-take-le 100 c.args.answers.now within)
