use Rattle.std.proofs.Common.{◌≡◌, ◌+◌, ◌-◌, pos, replicate}
use Rattle.occ_term.specs.Frames.{span_with}
use Rattle.occ_term.proofs.frame.clear_each.Given as goal

abbrev pub invariant-loop-i : goal.invariant-loop-i
invariant-loop-i l = span_with l.cells l.held (l.first + l.i) (replicate (l.count - l.i) (pos 0)) ≡ span_with l.cells l.initial.held l.first (replicate l.count (pos 0))
