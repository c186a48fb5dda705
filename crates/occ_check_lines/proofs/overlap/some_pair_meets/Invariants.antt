use Rattle.std.proofs.Common.{◌≡◌, map, length}
use Rattle.occ_check_meaning.specs.Calls.{some_meet}
use Rattle.occ_check_lines.specs.Spans.{span_of}
use Rattle.occ_check_lines.proofs.overlap.some_pair_meets.Given as goal

abbrev pub invariant-loop-span : goal.invariant-loop-span
invariant-loop-span l = some_meet (map span_of l.others) ≡ some_meet (map span_of l.spans)

abbrev pub decreases-loop-span : goal.decreases-loop-span
decreases-loop-span l = length l.others
