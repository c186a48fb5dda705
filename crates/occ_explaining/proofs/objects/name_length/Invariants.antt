use Rattle.std.proofs.Common.{◌≡◌, ◌+◌, ◌≤◌, length}
use Rattle.occ_explaining.specs.Objects.{name_length}
use Rattle.occ_explaining.proofs.objects.name_length.Given as goal

abbrev pub invariant-loop-bytes : goal.invariant-loop-bytes
invariant-loop-bytes l = record {
  few : l.count + length l.bytes ≤ length l.initial.bytes;
  same : l.count + name_length l.bytes ≡ name_length l.initial.bytes;
}

abbrev pub decreases-loop-bytes : goal.decreases-loop-bytes
decreases-loop-bytes l = length l.bytes
