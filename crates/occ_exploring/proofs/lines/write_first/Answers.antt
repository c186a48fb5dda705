use Rattle.std.proofs.Common.{arith, length, ◌≤◌}
use Rattle.std.proofs.lemmas.List.{length-take-le}
use Rattle.occ_exploring.proofs.lines.write_first.Goals as goal

pub slice_bounds-write_answers-end : goal.slice_bounds-write_answers-end
slice_bounds-write_answers-end c =
    let within : 100 ≤ length c.args.answers.now = omega (arith, c.if-answers-gt-MOST_ANSWERS.true) in
    omega (arith, within, length-take-le 100 c.args.answers.now within)

pub write_answers-requires : goal.write_answers-requires
write_answers-requires c =
    let within : 100 ≤ length c.args.answers.now = omega (arith, c.if-answers-gt-MOST_ANSWERS.true) in
    omega (arith, length-take-le 100 c.args.answers.now within)
