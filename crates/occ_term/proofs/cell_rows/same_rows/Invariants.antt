use Rattle.std.proofs.Common.{◌≡◌, take}
use Rattle.occ_term.proofs.cell_rows.same_rows.Given as goal

abbrev pub invariant-loop-i : goal.invariant-loop-i
invariant-loop-i l = take l.i l.rows ≡ take l.i l.others
