use Rattle.std.proofs.Common.{◌≡◌, ◌++◌, take}
use Rattle.occ_shown.specs.Json.{more_values}
use Rattle.occ_shown.proofs.json_values.write_more_values.Given as goal

abbrev pub invariant-loop-value : goal.invariant-loop-value
invariant-loop-value l = l.out.items ≡ l.fn.out.items ++ more_values l.primitive (take l.value-index l.values)
