use Rattle.std.proofs.Common.{◌≡◌, ◌+◌, ◌≤◌, length}
use Rattle.occ_report.specs.Written.{name_in_front}
use Rattle.occ_report.proofs.source_lines.front_length.Given as goal

abbrev pub invariant-loop-bytes : goal.invariant-loop-bytes
invariant-loop-bytes l = record {
  few : l.count + length l.bytes ≤ length l.initial.bytes;
  same : l.count + length (name_in_front l.bytes) ≡ length (name_in_front l.initial.bytes);
}

abbrev pub decreases-loop-bytes : goal.decreases-loop-bytes
decreases-loop-bytes l = length l.bytes
