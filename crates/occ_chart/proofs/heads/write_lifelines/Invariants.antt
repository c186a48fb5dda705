use Rattle.std.proofs.Common.{◌≡◌, ◌+◌, ◌++◌, length}
use Rattle.occ_chart.specs.Charts.{lifelines}
use Rattle.occ_chart.specs.Xml.{elements_text}
use Rattle.occ_chart.proofs.heads.write_lifelines.Given as goal

abbrev pub invariant-loop-others : goal.invariant-loop-others
invariant-loop-others l = record {
  counted : l.place + length l.rest ≡ length l.columns;
  written : l.out.items ++ elements_text (lifelines l.layout l.bottom l.place l.rest) ≡ l.fn.out.items ++ elements_text (lifelines l.layout l.bottom 0 l.fn.columns);
}

abbrev pub decreases-loop-others : goal.decreases-loop-others
decreases-loop-others l = length l.rest
