use Rattle.std.proofs.Common.{◌≡◌, map, length}
use Rattle.occ_check_lines.specs.Spans.{span_of}
use Rattle.occ_check_lines.specs.Overlap.{end_in_turn}
use Rattle.occ_check_lines.proofs.overlap.stand_apart.Given as goal

abbrev pub invariant-loop-span : goal.invariant-loop-span
invariant-loop-span l = end_in_turn (map span_of l.others) ≡ end_in_turn (map span_of l.spans)

abbrev pub decreases-loop-span : goal.decreases-loop-span
decreases-loop-span l = length l.others
