use Rattle.std.proofs.Common.{◌≡◌, ◌++◌, drop, map}
use Rattle.occ_check_lines.specs.Clash.{ends_at, stretches_of, variable_spans}
use Rattle.occ_check_lines.proofs.naming.ends_of.Given as goal

abbrev pub invariant-loop-place : goal.invariant-loop-place
invariant-loop-place l = (l.ends.items ++ map ends_at (variable_spans (stretches_of (drop l.place-index l.places)))) ≡ map ends_at (variable_spans (stretches_of l.places))
