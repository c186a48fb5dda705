use Rattle.std.proofs.Common.{◌≡◌, ◌++◌, take}
use Rattle.occ_shown.specs.Json.{escaped}
use Rattle.occ_shown.proofs.json_values.write_escaped.Given as goal

abbrev pub invariant-loop-i : goal.invariant-loop-i
invariant-loop-i l = l.out.items ≡ l.fn.out.items ++ escaped (take l.i l.bytes)
