use Rattle.std.proofs.Common.{rules}
use Rattle.occ_program.proofs.Told.{none_of_rest, some_of_rest}
use Rattle.occ_program.proofs.reporting.none_ends.Goals as goal

pub loop-answer-preserved : goal.loop-answer-preserved
loop-answer-preserved c =
    let xs = c.args.answers.now in
    let i = c.loop-answer.answer-index in
    let a = c.answer-item.result in
    record {
      none = λ h. c.loop-answer.invariant.none (none_of_rest xs i a c.args.like.now c.loop-answer-test.true c.answer-item.is (search rules) h);
      some = λ h. c.loop-answer.invariant.some (some_of_rest xs i a c.args.like.now c.loop-answer-test.true c.answer-item.is h);
    }
