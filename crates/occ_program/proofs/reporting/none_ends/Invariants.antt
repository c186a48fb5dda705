use Rattle.std.proofs.Common.{drop}
use Rattle.occ_program.specs.Explained.{NoneEnds, SomeEnds}
use Rattle.occ_program.proofs.reporting.none_ends.Given as goal

-- what holds of those that are left holds of all
abbrev pub invariant-loop-answer : goal.invariant-loop-answer
invariant-loop-answer l = record {
  none : NoneEnds (drop l.answer-index l.answers) l.like → NoneEnds l.answers l.like;
  some : SomeEnds (drop l.answer-index l.answers) l.like → SomeEnds l.answers l.like;
}
