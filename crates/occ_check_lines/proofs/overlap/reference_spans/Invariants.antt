use Rattle.std.proofs.Common.{◌≡◌, ◌++◌, map, drop}
use Rattle.occ_check_meaning.specs.Calls.{reference_spans}
use Rattle.occ_check_lines.specs.Spans.{span_of}
use Rattle.occ_check_lines.specs.Declaration.{pairs_of}
use Rattle.occ_check_lines.proofs.overlap.reference_spans.Given as goal

abbrev pub invariant-loop-named : goal.invariant-loop-named
invariant-loop-named l = (map span_of l.spans.items ++ reference_spans (pairs_of (drop l.named-index l.names))) ≡ reference_spans (pairs_of l.names)
