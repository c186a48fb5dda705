use Rattle.std.proofs.Common.{◌≡◌, ◌+◌, length}
use Rattle.occ_report.specs.Past.{NamingSoFar}
use Rattle.occ_report.proofs.past.first_past.Given as goal

abbrev pub invariant-loop-rest : goal.invariant-loop-rest
invariant-loop-rest l = record {
  counted : l.turns + length l.rest ≡ length l.choices;
  run : NamingSoFar l.code l.keyboard l.turns l.rest l.choices l.tables;
}

abbrev pub decreases-loop-rest : goal.decreases-loop-rest
decreases-loop-rest l = length l.rest
