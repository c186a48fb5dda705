use Rattle.std.proofs.Common.{◌≡◌, ◌++◌, length}
use Rattle.occ_chart.specs.Charts.{drawn_reasons}
use Rattle.occ_chart.specs.Xml.{elements_text}
use Rattle.occ_chart.proofs.feet.write_reasons.Given as goal

abbrev pub invariant-loop-first : goal.invariant-loop-first
invariant-loop-first l = l.out.items ++ elements_text (drawn_reasons l.layout l.columns l.bottom l.rest) ≡ l.fn.out.items ++ elements_text (drawn_reasons l.layout l.columns l.bottom l.fn.stubs)

abbrev pub decreases-loop-first : goal.decreases-loop-first
decreases-loop-first l = length l.rest
