use Rattle.std.proofs.Common.{◌≡◌, ◌≤◌, ◌+◌, ◌*◌, ◌++◌, length}
use Rattle.occ_chart.specs.Charts.{arrows}
use Rattle.occ_chart.specs.Places.{if_close}
use Rattle.occ_chart.specs.Xml.{elements_text}
use Rattle.occ_chart.proofs.arrows.write_arrows.Given as goal

abbrev pub invariant-loop-first : goal.invariant-loop-first
invariant-loop-first l = record {
  near : l.number + 3 * length l.rest ≤ 3000;
  written :
      l.out.items ++ elements_text (arrows l.heads l.layout l.columns l.left l.number l.rest)
      ≡ l.fn.out.items ++ elements_text (arrows l.heads l.layout l.columns 30 (if_close l.layout.close 1) l.fn.shown);
}

abbrev pub decreases-loop-first : goal.decreases-loop-first
decreases-loop-first l = length l.rest
