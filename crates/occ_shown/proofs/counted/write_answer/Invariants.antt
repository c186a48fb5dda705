use Rattle.std.proofs.Common.{length, ◌-◌, ◌≡◌, ◌≤◌, take}
use Rattle.std.specs.Io.KnownBytes.{Appends}
use Rattle.occ_shown.specs.Counting.{failures_of, writer_of}
use Rattle.occ_shown.proofs.counted.write_answer.Given as goal

abbrev pub invariant-loop-written : goal.invariant-loop-written
invariant-loop-written g l = record {
  within : l.written ≤ length l.answer;
  none_failed : failures_of l.out ≡ failures_of l.initial.out;
  beginning : Appends (g.W.Write.contents (writer_of l.initial.out)) (g.W.Write.contents (writer_of l.out)) (take l.written l.answer);
}

abbrev pub decreases-loop-written : goal.decreases-loop-written
decreases-loop-written g l = length l.answer - l.written
