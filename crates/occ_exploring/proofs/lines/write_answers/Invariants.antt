use Rattle.std.proofs.Common.{◌≡◌, ◌++◌, ◌+◌, drop}
use Rattle.occ_exploring.specs.Texts.{answer_lines}
use Rattle.occ_exploring.proofs.lines.write_answers.Given as goal

abbrev pub invariant-loop-answer : goal.invariant-loop-answer
invariant-loop-answer l = record {
  counted : l.number ≡ 1 + l.answer-index;
  written : l.out.items ++ answer_lines l.asked l.number (drop l.answer-index l.answers) ≡ l.fn.out.items ++ answer_lines l.asked 1 l.answers;
}
