use Rattle.std.proofs.Common.{◌≡◌, ◌++◌, drop}
use Rattle.occ_chart.specs.Charts.{drawn_heads}
use Rattle.occ_chart.specs.Xml.{elements_text}
use Rattle.occ_chart.proofs.heads.write_heads.Given as goal

abbrev pub invariant-loop-i : goal.invariant-loop-i
invariant-loop-i l = l.out.items ++ elements_text (drawn_heads l.layout l.y l.i (drop l.i l.heads)) ≡ l.fn.out.items ++ elements_text (drawn_heads l.layout l.y 0 l.heads)
