use Rattle.std.proofs.Common.{◌≡◌, ◌+◌, drop}
use Rattle.occ_term.specs.Frames.{span_with}
use Rattle.occ_term.proofs.frame.set_each.Given as goal

abbrev pub invariant-loop-i : goal.invariant-loop-i
invariant-loop-i l = span_with l.cells l.held (l.first + l.i) (drop l.i l.values) ≡ span_with l.cells l.initial.held l.first l.values
