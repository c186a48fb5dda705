use Rattle.std.proofs.Common.{◌≡◌, ◌++◌, take}
use Rattle.occ_shown.specs.Objects.{exact}
use Rattle.occ_shown.proofs.object.write_exact.Given as goal

abbrev pub invariant-loop-i : goal.invariant-loop-i
invariant-loop-i l = l.out.items ≡ l.fn.out.items ++ exact (take l.i l.bytes)
