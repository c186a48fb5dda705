use Rattle.std.proofs.Common.{◌≡◌, ◌+◌, drop}
use Rattle.occ_term.specs.Frames.{row_with}
use Rattle.occ_term.proofs.frame.set_each_place.Given as goal

abbrev pub invariant-loop-i : goal.invariant-loop-i
invariant-loop-i l = row_with l.held (l.place + l.i) (drop l.i l.values) ≡ row_with l.initial.held l.place l.values
