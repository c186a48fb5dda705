use Rattle.std.proofs.Common.{◌≡◌, ◌++◌, length}
use Rattle.occ_chart.specs.Xml.{xml_text}
use Rattle.occ_chart.proofs.xml.write_escaped.Given as goal

abbrev pub invariant-loop-first : goal.invariant-loop-first
invariant-loop-first l = l.out.items ++ xml_text l.rest ≡ l.fn.out.items ++ xml_text l.fn.bytes

abbrev pub decreases-loop-first : goal.decreases-loop-first
decreases-loop-first l = length l.rest
