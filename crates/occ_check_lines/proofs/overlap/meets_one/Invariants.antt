use Rattle.std.proofs.Common.{◌≡◌, map, drop}
use Rattle.occ_check_meaning.specs.Calls.{meets_one}
use Rattle.occ_check_lines.specs.Spans.{span_of}
use Rattle.occ_check_lines.proofs.overlap.meets_one.Given as goal

abbrev pub invariant-loop-other : goal.invariant-loop-other
invariant-loop-other l = meets_one (span_of l.span) (map span_of (drop l.other-index l.others)) ≡ meets_one (span_of l.span) (map span_of l.others)
