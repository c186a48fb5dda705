use Rattle.std.proofs.Common.{◌≡◌, ◌+◌, ◌≤◌, length}
use Rattle.occ_files.specs.Sources.{place_in_files}
use Rattle.occ_files.proofs.places.place_in_files.Given as goal

abbrev pub invariant-loop-ends : goal.invariant-loop-ends
invariant-loop-ends l = record {
  few : l.file + length l.ends ≤ length l.initial.ends;
  same : place_in_files l.file l.before l.ends l.line ≡ place_in_files 0 0 l.initial.ends l.line;
}

abbrev pub decreases-loop-ends : goal.decreases-loop-ends
decreases-loop-ends l = length l.ends
