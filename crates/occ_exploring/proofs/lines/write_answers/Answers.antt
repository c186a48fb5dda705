use Rattle.std.proofs.Common.{arith, refl}
use Rattle.occ_exploring.specs.Texts.{answer_line, answer_lines}
use Rattle.occ_exploring.proofs.Growth.{numbered_step}
use Rattle.occ_exploring.proofs.lines.write_answers.Goals as goal

pub loop-answer-preserved : goal.loop-answer-preserved
loop-answer-preserved c = record {
  counted = omega (arith, c.loop-answer.invariant.counted);
  written =
      numbered_step (answer_lines c.args.asked) (answer_line c.args.asked) (λ n x xs. refl) c.args.answers.now c.loop-answer.answer-index c.loop-answer.number
      c.answer-item.result c.loop-answer-test.true c.answer-item.is _ c.loop-answer.out.items _ c.loop-answer.invariant.written c.in_ok-write_answer.ensures;
}
