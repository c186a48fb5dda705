use Rattle.std.proofs.Common.{◌≡◌, ◌+◌, ◌-◌, pos, replicate}
use Rattle.occ_term.specs.Frames.{row_with}
use Rattle.occ_term.proofs.frame.clear_each_place.Given as goal

abbrev pub invariant-loop-i : goal.invariant-loop-i
invariant-loop-i l = row_with l.held (l.place + l.i) (replicate (l.count - l.i) (pos 0)) ≡ row_with l.initial.held l.place (replicate l.count (pos 0))
