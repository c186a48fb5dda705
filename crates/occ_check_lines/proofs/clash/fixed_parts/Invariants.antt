use Rattle.std.proofs.Common.{◌≡◌, ◌++◌, drop, map}
use Rattle.occ_check_lines.specs.Spans.{span_of}
use Rattle.occ_check_lines.specs.Clash.{fixed_spans, stretches_of}
use Rattle.occ_check_lines.proofs.clash.fixed_parts.Given as goal

abbrev pub invariant-loop-place : goal.invariant-loop-place
invariant-loop-place l = (map span_of l.parts.items ++ fixed_spans (stretches_of (drop l.place-index l.places))) ≡ fixed_spans (stretches_of l.places)
