use Rattle.std.proofs.Common.{◌≡◌, ◌++◌, length}
use Rattle.occ_chart.specs.Labels.{others_text}
use Rattle.occ_chart.proofs.messages.write_others.Given as goal

abbrev pub invariant-loop-part : goal.invariant-loop-part
invariant-loop-part l = l.out.items ++ others_text l.rest ≡ l.fn.out.items ++ others_text l.fn.parts

abbrev pub decreases-loop-part : goal.decreases-loop-part
decreases-loop-part l = length l.rest
