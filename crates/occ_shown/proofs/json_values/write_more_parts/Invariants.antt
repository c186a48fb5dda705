use Rattle.std.proofs.Common.{◌≡◌, ◌++◌}
use Rattle.occ_shown.specs.Json.{more_parts}
use Rattle.occ_shown.proofs.json_values.write_more_parts.Given as goal

abbrev pub invariant-loop-part : goal.invariant-loop-part
invariant-loop-part l = l.out.items ++ more_parts l.part-iterator ≡ l.fn.out.items ++ more_parts l.fn.parts
