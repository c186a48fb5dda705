use Rattle.std.proofs.Common.{◌≡◌, ◌+◌, ◌≤◌, length}
use Rattle.occ_files.specs.Sources.{line_feeds}
use Rattle.occ_files.proofs.joining.line_feeds.Given as goal

abbrev pub invariant-loop-text : goal.invariant-loop-text
invariant-loop-text l = record {
  few : l.count + length l.text ≤ length l.initial.text;
  same : l.count + line_feeds l.text ≡ line_feeds l.initial.text;
}

abbrev pub decreases-loop-text : goal.decreases-loop-text
decreases-loop-text l = length l.text
